-- `objects_ok` meets its contract: each test fails the whole, and the last decides it. Assumes nothing.
use mathlib.Core.Path.{◌≡◌, sym, ap, ◌∙◌}
use mathlib.Core.Bool.{Bool, true, false, ◌&&◌}
use mathlib.Core.List.{List, [], ◌∷◌}
use Prim.Native.Nat.{ℕ, ◌*◌}
use native.Mathlib.Omega.{arith}
use borrow.Author.Tests.{not-true, not-false}
use Rattle.heap.specs.Heap.{slots_of}
use Rattle.memory_world.specs.Decode.{setup_of}
use Rattle.memory_sound.specs.Words.{rest_ok}
use Rattle.check_tables.specs.Queue.{in_set}
use Rattle.check_tables.proofs.Bools.{Left, upto, from, pass, stop, last}
use Rattle.check_machine.specs.Table.{ranges_test}
use Rattle.check_machine.specs.Running.{running_test}
use Rattle.check_machine.specs.Rows.{rows_test}
use Rattle.check_machine.specs.Whole.{chained_at, objects_test}
use Rattle.check_machine.proofs.Slotted.{table_same}
use Rattle.check_machine.proofs.Ordered.{made-later}
use Rattle.check_machine.proofs.whole.objects_ok.Lts as lts
use Rattle.check_machine.proofs.whole.objects_ok.Reads as reads
use Rattle.check_machine.proofs.whole.objects_ok.Tie as tie
use Rattle.check_machine.proofs.whole.objects_ok.Goals as goal

abbrev Start : Type 0
Start = lts.Start tie.the-claims reads.Pre reads.Post

abbrev After-struct_known-1 : Type 0
After-struct_known-1 = lts.After-struct_known tie.the-claims reads.Pre reads.Post

abbrev Else-not-rest_ok : Type 0
Else-not-rest_ok = lts.Else1 tie.the-claims reads.Pre reads.Post

abbrev After-rows_ok : Type 0
After-rows_ok = lts.After-rows_ok tie.the-claims reads.Pre reads.Post

abbrev Else-not-rows_ok : Type 0
Else-not-rows_ok = lts.Else2 tie.the-claims reads.Pre reads.Post

-- `objects_ok` meets its contract: each test fails the whole, and the last decides it. Assumes nothing.
abbrev run : Start → Bool
run z = let a = z.args in running_test a.chain.now a.m.active (slots_of a.m.count a.slots.now)

abbrev ranges : Start → Bool
ranges z = ranges_test z.args.slots.now z.args.m.count

abbrev rows-by : Start → (ℕ → Bool) → Bool
rows-by z chained = let a = z.args in rows_test a.sizes (setup_of a.setup.now) a.saved_stack.now a.saved_frames.now chained a.slots.now a.m.count

abbrev rows : Start → Bool
rows z = rows-by z (chained_at z.args.chain.now z.args.m.active)

abbrev zeros : Start → List Bool
zeros z = let a = z.args in rest_ok a.saved_stack.now (a.sizes.rows * a.sizes.width) ∷ rest_ok a.saved_frames.now (a.sizes.rows * (a.sizes.depth * 6)) ∷ []

-- in the code's order: the ranges are tested with the rows
abbrev tests : Start → List Bool
tests z = rest_ok z.args.slots.now (z.args.m.count * 20) ∷ run z ∷ (ranges z && rows z) ∷ zeros z

-- the first n have passed
abbrev Passed : ℕ → Start → Type 0
Passed n z = let a = z.args in Left (from n (tests z)) (objects_test a.sizes (setup_of a.setup.now) a.chain.now a.slots.now a.saved_stack.now a.saved_frames.now a.m)

-- words have 64 bits, so the ranges are the rule
begun : (c : After-struct_known-1) → Passed 0 c.before.before.before.before.before.before
begun c =
    record {
      is = made-later _ (run c.before.before.before.before.before.before) (ranges c.before.before.before.before.before.before) (rows c.before.before.before.before.before.before) _ _
          ∙ ap (λ t. upto t (run c.before.before.before.before.before.before ∷ rows c.before.before.before.before.before.before ∷ zeros c.before.before.before.before.before.before)) (table_same c.args.slots.now c.args.m.count c.requires.table (λ i. (c.shared_slice_known-2-1.given i).fits));
    }

-- the set has the chain's slots
rows_are : (c : After-rows_ok) → (t : Bool) → c.rows_ok.result ≡ t → (ranges c.before.before.before.before.before.before.before.before.before.before.before.before && rows c.before.before.before.before.before.before.before.before.before.before.before.before) ≡ t
rows_are c t e =
    let same : in_set c.in-Some.set ≡ chained_at c.args.chain.now c.args.m.active =
    λ j x. c.in-Some.ensures.set x j in
    sym (ap (λ (f : ℕ → Bool). ranges c.before.before.before.before.before.before.before.before.before.before.before.before && rows-by c.before.before.before.before.before.before.before.before.before.before.before.before f) same) ∙ sym c.rows_ok.ensures ∙ e

passed-1 : (c : Else-not-rest_ok) → Passed 1 c.before.before.before.before.before.before.before.before
passed-1 c = pass (begun c.before.before) (sym c.rest_ok.ensures ∙ c.if-not-rest_ok.false)

passed-2 : (c : After-rows_ok) → Passed 2 c.before.before.before.before.before.before.before.before.before.before.before.before
passed-2 c = pass (passed-1 c.before.before.before.before) (sym c.in-Some.ensures.good)

passed-3 : (c : Else-not-rows_ok) → Passed 3 c.before.before.before.before.before.before.before.before.before.before.before.before.before
passed-3 c = pass (passed-2 c.before) (rows_are c.before true c.if-not-rows_ok.false)

pub overflow_mul-m : goal.overflow_mul-m
overflow_mul-m c = omega (arith, c.requires.table)

pub returns-then-not-rest_ok : goal.returns-then-not-rest_ok
returns-then-not-rest_ok c = stop (begun c.before.before.before) (sym c.rest_ok.ensures ∙ c.if-not-rest_ok.true)

pub running-requires : goal.running-requires
running-requires c = let p = c.requires in record { on_chain = p.on_chain; table = p.table; few = p.few }

pub returns-in_default : goal.returns-in_default
returns-in_default c = stop (passed-1 c.before.before.before) (sym c.in_default.ensures.good)

pub rows_ok-requires : goal.rows_ok-requires
rows_ok-requires c =
    let p = c.requires in
    record {
      rows =
          record {
            saved = record
                { on-stack = p.on-stack; on-frames = p.on-frames; few = p.rows; deep = p.deep; wide = p.wide; catches = p.catches; numbers = p.numbers };
            long = c.in-Some.ensures.long;
          };
      table = p.table;
      few = p.few;
    }

pub returns-then-not-rows_ok : goal.returns-then-not-rows_ok
returns-then-not-rows_ok c = stop (passed-2 c.before.before) (rows_are c.before.before false c.if-not-rows_ok.true)

pub overflow_mul-sizes : goal.overflow_mul-sizes
overflow_mul-sizes c = omega (arith, c.requires.on-stack)

pub returns-then-not-rest_ok-2 : goal.returns-then-not-rest_ok-2
returns-then-not-rest_ok-2 c = stop (passed-3 c.before.before.before.before) (sym c.rest_ok-2.ensures ∙ c.if-not-rest_ok-2.true)

pub overflow_mul-sizes-2 : goal.overflow_mul-sizes-2
overflow_mul-sizes-2 c = omega (arith, c.requires.deep)

pub overflow_mul-sizes-3 : goal.overflow_mul-sizes-3
overflow_mul-sizes-3 c = omega (arith, c.requires.on-frames)

pub returns : goal.returns
returns c = last (pass (passed-3 c.before.before.before.before.before.before.before) (sym c.rest_ok-2.ensures ∙ c.if-not-rest_ok-2.false)) c.rest_ok-3.ensures
