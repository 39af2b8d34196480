-- `numbers_ok` meets its contract: each test fails the whole, and the last decides it. Assumes nothing.
use mathlib.Core.Path.{refl, sym, ◌∙◌}
use mathlib.Core.Bool.{Bool, true}
use mathlib.Core.List.{List, [], ◌∷◌}
use Prim.Native.Nat.{ℕ}
use borrow.Author.Tests.{not-false}
use Rattle.check_tables.specs.Room.{room_test, counts_test}
use Rattle.check_tables.proofs.Bools.{Left, upto, from, pass, stop, last}
use Rattle.check_machine.specs.Numbers.{outcome_test, fuel_test}
use Rattle.check_machine.proofs.whole.numbers_ok.Lts as lts
use Rattle.check_machine.proofs.whole.numbers_ok.Reads as reads
use Rattle.check_machine.proofs.whole.numbers_ok.Tie as tie
use Rattle.check_machine.proofs.whole.numbers_ok.Goals as goal

abbrev Start : Type 0
Start = lts.Start tie.the-claims reads.Pre reads.Post

abbrev Else-not-room_ok : Type 0
Else-not-room_ok = lts.Else1 tie.the-claims reads.Pre reads.Post

abbrev Else-not-counts_ok : Type 0
Else-not-counts_ok = lts.Else2 tie.the-claims reads.Pre reads.Post

-- `numbers_ok` meets its contract: each test fails the whole, and the last decides it. Assumes nothing.
abbrev tests : Start → List Bool
tests c =
    let a = c.args in
    room_test a.sizes a.stack a.frames a.chain a.slots a.saved_stack a.saved_frames a.ready a.finalize ∷ counts_test a.sizes a.m ∷ outcome_test a.m.outcome
    ∷ fuel_test a.fuel ∷ []

-- the first n have passed
abbrev Passed : ℕ → Start → Type 0
Passed n c = Left (from n (tests c)) (upto true (tests c))

begun : (c : Start) → Passed 0 c
begun c = record { is = refl }

passed-1 : (c : Else-not-room_ok) → Passed 1 c.before.before
passed-1 c = pass (begun c.before.before) (sym c.room_ok.ensures ∙ c.if-not-room_ok.false)

passed-2 : (c : Else-not-counts_ok) → Passed 2 c.before.before.before.before
passed-2 c = pass (passed-1 c.before.before) (sym c.counts_ok.ensures ∙ c.if-not-counts_ok.false)

pub room_ok-requires : goal.room_ok-requires
room_ok-requires c = c.requires

pub returns-then-not-room_ok : goal.returns-then-not-room_ok
returns-then-not-room_ok c = stop (begun c.before.before) (sym c.room_ok.ensures ∙ c.if-not-room_ok.true)

pub returns-then-not-counts_ok : goal.returns-then-not-counts_ok
returns-then-not-counts_ok c = stop (passed-1 c.before.before) (sym c.counts_ok.ensures ∙ c.if-not-counts_ok.true)

pub returns-then-not-outcome_ok : goal.returns-then-not-outcome_ok
returns-then-not-outcome_ok c = stop (passed-2 c.before.before.before) (sym c.outcome_ok.ensures ∙ c.if-not-outcome_ok.true)

pub returns : goal.returns
returns c = last (pass (passed-2 c.before.before.before.before) (sym c.outcome_ok.ensures ∙ c.if-not-outcome_ok.false)) c.fuel_ok.ensures
