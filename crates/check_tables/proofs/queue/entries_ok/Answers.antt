-- `entries_ok` meets its contract: read from its end, what has been read is marked, and stands there once. Assumes nothing.
use mathlib.Core.Path.{◌≡◌, sym, ap, ◌∙◌}
use mathlib.Core.Bool.{true, ◌||◌}
use Prim.Native.Nat.{◌-◌, ◌<◌}
use native.Mathlib.Omega.{arith}
use borrow.Author.Tests.{not-true, not-false}
use lib.Dec.{eqb}
use lib.ListN.{length-set, get_or}
use Rattle.heap.specs.Word.{slot_of}
use Rattle.heap.specs.Heap.{slots_of, coro_of}
use Rattle.check_tables.specs.Queue.{by_coro, mark_of}
use Rattle.check_tables.proofs.Entries.{has, put-mark, first, small, unmarked, again, one_more, all}
use Rattle.check_tables.proofs.queue.entries_ok.Lts as lts
use Rattle.check_tables.proofs.queue.entries_ok.Reads as reads
use Rattle.check_tables.proofs.queue.entries_ok.Tie as tie
use Rattle.check_tables.proofs.queue.entries_ok.Goals as goal

abbrev Else-not-is_marked : Type 0
Else-not-is_marked = lts.Else1 tie.the-claims reads.Pre reads.Post goal.the-invariant-loop-i goal.the-decreases-loop-i

-- the word is marked, and its slot in range
marked : (c : Else-not-is_marked)
    → let a = c.args in by_coro (mark_of a.task) (coro_of (slots_of a.count a.slots.now) (get_or a.q.now (c.loop-i.i - 1) 0)) ≡ true
marked c = sym c.is_marked.ensures ∙ c.if-not-is_marked.false

in-range : (c : Else-not-is_marked) → let a = c.args in slot_of (get_or a.q.now (c.loop-i.i - 1) 0) < 4096
in-range c =
    let a = c.args in
    small a.task a.slots.now a.q.now a.n a.count c.requires (c.loop-i.i - 1) (marked c)

pub loop-i-init : goal.loop-i-init
loop-i-init c = let a = c.args in first a.task a.slots.now a.q.now a.n a.count c.requires

pub offset_bounds-q-i : goal.offset_bounds-q-i
offset_bounds-q-i c = omega (arith, c.loop-i.invariant.once.within, c.requires.within)

pub bounds-q-i : goal.bounds-q-i
bounds-q-i c = omega (arith, c.loop-i.invariant.once.within, c.requires.within)

pub is_marked-requires : goal.is_marked-requires
is_marked-requires c = c.requires.table

pub returns-then-not-is_marked : goal.returns-then-not-is_marked
returns-then-not-is_marked c =
    let a = c.args in
    unmarked a.task a.slots.now a.q.now a.n a.count c.requires (c.loop-i.i - 1) (omega (arith, c.loop-i.invariant.once.within)) (sym c.is_marked.ensures ∙ c.if-not-is_marked.true)

pub bounds-seen-x : goal.bounds-seen-x
bounds-seen-x c = omega (arith, in-range c.before.before, c.slot-x.ensures)

pub returns-then-seen-x : goal.returns-then-seen-x
returns-then-seen-x c =
    let a = c.args in
    again a.task a.slots.now a.q.now a.n a.count c.requires c.loop-i.seen c.loop-i.i c.loop-i.invariant c.loop-i-test.true
    (ap (has c.loop-i.seen) (sym c.slot-x.ensures) ∙ c.if-seen-x.true)

pub bounds-seen-x-in-loop-i : goal.bounds-seen-x-in-loop-i
bounds-seen-x-in-loop-i c = omega (arith, in-range c.before.before.before, c.slot-x.ensures)

pub loop-i-preserved : goal.loop-i-preserved
loop-i-preserved c =
    let a = c.args in
    let h = in-range c.before.before.before in let e = c.slot-x.ensures in
    one_more a.task a.slots.now a.q.now a.n a.count c.requires c.loop-i.seen c.loop-i.i c.loop-i.invariant c.loop-i-test.true _ (marked c.before.before.before)
    (ap (has c.loop-i.seen) (sym e) ∙ c.if-seen-x.false)
    (λ y. put-mark c.loop-i.seen _ y (omega (arith, c.loop-i.invariant.long)) ∙ ap (λ x. eqb y x || has c.loop-i.seen y) e) (simp length-set c.loop-i.invariant.long)

pub returns : goal.returns
returns c =
    let a = c.args in
    all a.task a.slots.now a.q.now a.n a.count c.requires c.loop-i.seen c.loop-i.i c.loop-i.invariant c.loop-i-test.false
