-- `catches` meets its contract: the widths of the functions passed so far. Assumes nothing.
use mathlib.Core.Path.{refl}
use Prim.Native.Nat.{◌-◌}
use native.Mathlib.Omega.{arith}
use lib.ListN.{length-set}
use Rattle.check_tables.proofs.Widths.{Function, setup-facts, kept, told}
use Rattle.check_tables.proofs.catches.catches.Lts as lts
use Rattle.check_tables.proofs.catches.catches.Reads as reads
use Rattle.check_tables.proofs.catches.catches.Tie as tie
use Rattle.check_tables.proofs.catches.catches.Goals as goal

abbrev In-loop-i : Type 0
In-loop-i = lts.In-loop tie.the-claims reads.Pre reads.Post goal.the-invariant-loop-i goal.the-decreases-loop-i

-- the function of this turn
turn : (c : In-loop-i) → Function c.args.setup.now c.loop-i.i
turn c = (setup-facts c.args.setup.now c.requires).each c.loop-i.i (omega arith)

pub bounds-setup-13 : goal.bounds-setup-13
bounds-setup-13 c = omega (arith, (setup-facts c.args.setup.now c.requires).numbers)

pub loop-i-init : goal.loop-i-init
loop-i-init c = (omega arith, refl, λ j h. absurd (omega arith))

pub overflow_mul-at : goal.overflow_mul-at
overflow_mul-at c = omega (arith, turn c.before)

pub overflow_add-at : goal.overflow_add-at
overflow_add-at c = omega (arith, turn c.before)

pub overflow_add-k : goal.overflow_add-k
overflow_add-k c = omega (arith, turn c.before)

pub offset_bounds-setup-at : goal.offset_bounds-setup-at
offset_bounds-setup-at c = omega (arith, turn c.before)

pub bounds-setup-at : goal.bounds-setup-at
bounds-setup-at c = omega (arith, turn c.before.before)

pub overflow_add-at-in-loop-i : goal.overflow_add-at-in-loop-i
overflow_add-at-in-loop-i c = omega (arith, turn c.before.before)

pub widest_catch-requires : goal.widest_catch-requires
widest_catch-requires c = (turn c.before.before).fits

pub offset_bounds-need-i : goal.offset_bounds-need-i
offset_bounds-need-i c = omega (arith, turn c.before.before.before)

pub bounds-need-i : goal.bounds-need-i
bounds-need-i c = omega (arith, turn c.before.before.before)

pub loop-i-preserved : goal.loop-i-preserved
loop-i-preserved c =
    let k = turn c.before.before.before in let ws = c.args.setup.now in
    (omega arith, simp length-set c.loop-i.invariant.1, kept ws c.loop-i.need c.loop-i.i c.widest_catch.result (omega arith) c.loop-i.invariant.2 c.widest_catch.ensures)

pub returns : goal.returns
returns c =
    let ws = c.args.setup.now in
    told ws c.loop-i.need c.loop-i.i (setup-facts ws c.requires).few c.loop-i-test.false c.loop-i.invariant.1 c.loop-i.invariant.2
