-- `running` meets its contract: the active ones passed so far run, and the set has their slots. Assumes nothing.
use mathlib.Core.Path.{◌≡◌, refl, sym, ap, ◌∙◌}
use mathlib.Core.Bool.{true, false, ◌||◌}
use mathlib.Core.List.{List}
use Prim.Native.Nat.{ℕ, ◌*◌, ◌-◌, ◌<◌}
use native.Mathlib.Omega.{arith}
use borrow.Author.Tests.{not-false}
use lib.Dec.{eqb}
use Rattle.std.specs.Prelude.{None}
use lib.ListN.{length-set, get_or}
use Rattle.lists.proofs.Tables.{length-chunks}
use Rattle.heap.specs.Word.{slot_of}
use Rattle.heap.specs.Slot.{width, slot_of_words}
use Rattle.heap.specs.Heap.{slots_of}
use Rattle.heap.specs.Table.{Slot}
use Rattle.heap.specs.declared.object.Object as H
use Rattle.check_tables.specs.Queue.{in_set}
use Rattle.check_tables.proofs.Bits.{empty-set, put-set}
use Rattle.check_machine.specs.Running.{running_test, RunningTold}
use Rattle.check_machine.proofs.Chained.{runs, stops, twice, passes, all-run, set-of, word-inside}
use Rattle.check_machine.proofs.running.running.Lts as lts
use Rattle.check_machine.proofs.running.running.Reads as reads
use Rattle.check_machine.proofs.running.running.Tie as tie
use Rattle.check_machine.proofs.running.running.Goals as goal

abbrev At-loop-k : Type 0
At-loop-k = lts.At-loop tie.the-claims reads.Pre reads.Post goal.the-invariant-loop-k goal.the-decreases-loop-k

abbrev Else-not-is_running : Type 0
Else-not-is_running = lts.Else1 tie.the-claims reads.Pre reads.Post goal.the-invariant-loop-k goal.the-decreases-loop-k

-- the coroutines, and the next one's word
abbrev table : At-loop-k → List (Slot H.Object)
table c = let a = c.args in slots_of a.count a.slots.now

abbrev word : At-loop-k → ℕ
word c = get_or c.args.chain.now (c.loop-k.k * 6) 0

runs-now : (c : Else-not-is_running) → runs (table c.before.before.before.before) (word c.before.before.before.before) ≡ true
runs-now c = sym c.is_running.ensures ∙ c.if-not-is_running.false

small : (c : Else-not-is_running) → slot_of (word c.before.before.before.before) < 4096
small c =
    omega (arith, word-inside (table c.before.before.before.before) (word c.before.before.before.before) (runs-now c), length-chunks width slot_of_words c.args.count c.args.slots.now, c.requires.few)

-- one that does not run, or runs twice, refuses the whole
refused : (c : At-loop-k) → let a = c.args in
    false ≡ running_test a.chain.now a.n (table c) → RunningTold a.chain.now a.n (table c) None
refused c e = record { good = e; long = tt; set = tt }

pub loop-k-init : goal.loop-k-init
loop-k-init c = record { within = omega arith; fine = refl; own = refl; holds = empty-set; long = refl }

pub overflow_mul-w : goal.overflow_mul-w
overflow_mul-w c = omega (arith, c.requires.on_chain, c.loop-k.invariant.within)

pub offset_bounds-chain-k : goal.offset_bounds-chain-k
offset_bounds-chain-k c = omega (arith, c.requires.on_chain, c.loop-k.invariant.within)

pub bounds-chain-k : goal.bounds-chain-k
bounds-chain-k c = omega (arith, c.requires.on_chain, c.loop-k.invariant.within)

pub is_running-requires : goal.is_running-requires
is_running-requires c = c.requires.table

pub returns-then-not-is_running : goal.returns-then-not-is_running
returns-then-not-is_running c =
    let a = c.args in
    refused c.before.before.before.before.before
    (stops (table c.before.before.before.before.before) a.chain.now a.n c.loop-k.k c.loop-k-test.true (sym c.is_running.ensures ∙ c.if-not-is_running.true))

pub offset_bounds-seen-at : goal.offset_bounds-seen-at
offset_bounds-seen-at c = omega (arith, small c.before.before, c.slot-x.ensures)

pub bounds-seen-at : goal.bounds-seen-at
bounds-seen-at c = omega (arith, small c.before.before, c.slot-x.ensures)

pub returns-then-bit : goal.returns-then-bit
returns-then-bit c =
    let a = c.args in
    refused c.before.before.before.before.before.before.before.before
    (twice (table c.before.before.before.before.before.before.before.before) a.chain.now a.n c.loop-k.k c.loop-k.seen c.loop-k.invariant c.loop-k-test.true (runs-now c.before.before.before.before)
    (ap (in_set c.loop-k.seen) (sym c.slot-x.ensures) ∙ sym c.bit.ensures ∙ c.if-bit.true))

pub offset_bounds-seen-at-in-loop-k : goal.offset_bounds-seen-at-in-loop-k
offset_bounds-seen-at-in-loop-k c = omega (arith, small c.before.before.before.before.before, c.slot-x.ensures)

pub bounds-seen-at-in-loop-k : goal.bounds-seen-at-in-loop-k
bounds-seen-at-in-loop-k c = omega (arith, small c.before.before.before.before.before, c.slot-x.ensures)

pub loop-k-preserved : goal.loop-k-preserved
loop-k-preserved c =
    let a = c.args in let h = small c.before.before.before.before.before in let e = c.slot-x.ensures in
    passes (table c.before.before.before.before.before.before.before.before.before) a.chain.now a.n c.loop-k.k c.loop-k.seen c.loop-k.invariant
    c.loop-k-test.true (runs-now c.before.before.before.before.before) _ (ap (in_set c.loop-k.seen) (sym e) ∙ sym c.bit.ensures ∙ c.if-bit.false)
    (λ y. put-set c.loop-k.seen _ c.slot-x.result y (let q = c.loop-k.invariant.long in omega arith) c.with_bit.ensures ∙ ap (λ x. eqb y x || in_set c.loop-k.seen y) e)
    (simp length-set c.loop-k.invariant.long)

pub returns : goal.returns
returns c =
    let a = c.args in let inv = c.loop-k.invariant in
    record {
      good = all-run (table c.before.before) a.chain.now a.n c.loop-k.k c.loop-k.seen inv c.loop-k-test.false;
      long = inv.long;
      set = set-of (table c.before.before) a.chain.now a.n c.loop-k.k c.loop-k.seen inv c.loop-k-test.false;
    }
