-- `rows_ok` meets its contract: the slots from i on passed, and the set has their rows. Assumes nothing.
use mathlib.Core.Path.{sym, ◌∙◌}
use mathlib.Core.Bool.{Bool}
use native.Mathlib.Omega.{arith}
use Rattle.memory_world.specs.Decode.{setup_of}
use Rattle.check_tables.specs.Queue.{in_set}
use Rattle.check_machine.specs.Rows.{rows_test}
use Rattle.check_machine.proofs.Holding.{begin, refuses, twice, next, end}
use Rattle.check_machine.proofs.Ranging.{none_yet, one_more, out_of_range, fails-beside, all-ranged}
use Rattle.check_machine.proofs.rows.rows_ok.Lts as lts
use Rattle.check_machine.proofs.rows.rows_ok.Reads as reads
use Rattle.check_machine.proofs.rows.rows_ok.Tie as tie
use Rattle.check_machine.proofs.rows.rows_ok.Goals as goal

abbrev Start : Type 0
Start = lts.Start tie.the-claims reads.Pre reads.Post goal.the-invariant-loop-i goal.the-decreases-loop-i

-- the test of the rows
abbrev rows : Start → Bool
rows z = let a = z.args in rows_test a.sizes (setup_of a.setup.now) a.saved_stack.now a.saved_frames.now (in_set a.set.now) a.slots.now a.count

pub loop-i-init : goal.loop-i-init
loop-i-init c =
    let a = c.args in (
      begin a.sizes (setup_of a.setup.now) a.saved_stack.now a.saved_frames.now (in_set a.set.now) a.slots.now a.count,
      none_yet a.slots.now a.count,
    )

pub slot_ok_at-requires : goal.slot_ok_at-requires
slot_ok_at-requires c = omega (arith, c.requires.table, c.loop-i.invariant.0.within, c.loop-i-test.true)

pub returns-then-not-slot_ok_at : goal.returns-then-not-slot_ok_at
returns-then-not-slot_ok_at c =
    let a = c.args in
    out_of_range a.slots.now a.count (rows c.before.before.before.before.before.before.before.before.before) c.loop-i.i c.loop-i-test.true c.loop-i.invariant.0.within
    (sym c.slot_ok_at.ensures ∙ c.if-not-slot_ok_at.true)

pub slot_row-row-requires : goal.slot_row-row-requires
slot_row-row-requires c =
    let w = c.loop-i.invariant.0.within in
    (c.requires.rows, (omega (arith, c.requires.table, w, c.loop-i-test.true), omega (arith, c.requires.few, w, c.loop-i-test.true)))

pub returns-then-row-eq-REFUSED : goal.returns-then-row-eq-REFUSED
returns-then-row-eq-REFUSED c =
    let a = c.args in
    fails-beside a.slots.now a.count (rows c.before.before.before.before.before.before.before.before.before.before.before)
    (refuses a.sizes (setup_of a.setup.now) a.saved_stack.now a.saved_frames.now (in_set a.set.now) a.slots.now a.count
    c.requires.rows.saved.few c.loop-i.mask c.loop-i.i c.slot_row-row.result c.loop-i.invariant.0
    c.loop-i-test.true c.slot_row-row.ensures c.if-row-eq-REFUSED.true)

pub returns-then-is_held : goal.returns-then-is_held
returns-then-is_held c =
    let a = c.args in
    fails-beside a.slots.now a.count (rows c.before.before.before.before.before.before.before.before.before.before.before.before.before)
    (twice a.sizes (setup_of a.setup.now) a.saved_stack.now a.saved_frames.now (in_set a.set.now) a.slots.now a.count
    c.requires.rows.saved.few c.loop-i.mask c.loop-i.i c.slot_row-row.result c.loop-i.invariant.0
    c.loop-i-test.true c.slot_row-row.ensures c.if-row-eq-REFUSED.false (sym c.is_held.ensures ∙ c.if-is_held.true))

pub loop-i-preserved : goal.loop-i-preserved
loop-i-preserved c =
    let a = c.args in (
      next a.sizes (setup_of a.setup.now) a.saved_stack.now a.saved_frames.now (in_set a.set.now) a.slots.now a.count
          c.requires.rows.saved.few c.loop-i.mask c.loop-i.i c.slot_row-row.result c.loop-i.invariant.0
          c.loop-i-test.true c.slot_row-row.ensures c.if-row-eq-REFUSED.false c.hold-mask.result
          (sym c.is_held.ensures ∙ c.if-is_held.false) c.hold-mask.ensures,
      one_more a.slots.now a.count c.loop-i.i c.loop-i.invariant.1 (sym c.slot_ok_at.ensures ∙ c.if-not-slot_ok_at.false),
    )

pub free_ok-requires : goal.free_ok-requires
free_ok-requires c =
    let p = c.requires.rows.saved in
    record { deep = p.deep; on-stack = p.on-stack; on-frames = p.on-frames; few = p.few }

pub returns : goal.returns
returns c =
    let a = c.args in
    all-ranged a.slots.now a.count (rows c.before.before.before.before.before.before.before.before) c.loop-i.i c.free_ok.result c.loop-i-test.false c.loop-i.invariant.1
    (end a.sizes (setup_of a.setup.now) a.saved_stack.now a.saved_frames.now (in_set a.set.now) a.slots.now a.count
    c.requires.rows.saved.few c.loop-i.mask c.loop-i.i c.free_ok.result c.loop-i.invariant.0 c.loop-i-test.false
    c.free_ok.ensures)
