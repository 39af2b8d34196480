-- `numbers_ok` meets its contract: each test fails the whole, and the last decides it. Assumes nothing.
use mathlib.Core.Path.{refl, sym}
use mathlib.Core.Bool.{Bool, true, ◌&&◌, ◌||◌}
use mathlib.Core.List.{List, [], ◌∷◌}
use Prim.Native.Nat.{ℕ}
use lib.ListN.{length, get_or}
use lib.Dec.{leb, eqb}
use borrow.Author.Tests.{le-leb, lt-leb, eq-eqb, ne_eqb}
use Rattle.check_tables.proofs.Bools.{Left, upto, from, pass, stop, last}
use Rattle.linked_calls.proofs.tested.numbers_ok.Lts as lts
use Rattle.linked_calls.proofs.tested.numbers_ok.Reads as reads
use Rattle.linked_calls.proofs.tested.numbers_ok.Goals as goal

abbrev Start : Type 0
Start = lts.Start reads.Pre reads.Post

abbrev Else-machine-lt-MACHINE_WIDTH : Type 0
Else-machine-lt-MACHINE_WIDTH = lts.Else1 reads.Pre reads.Post

abbrev Else-fuel-lt-FUEL_WIDTH : Type 0
Else-fuel-lt-FUEL_WIDTH = lts.Else2 reads.Pre reads.Post

abbrev Else-machine-gt1 : Type 0
Else-machine-gt1 = lts.Else3 reads.Pre reads.Post

abbrev Else-fuel-gt1 : Type 0
Else-fuel-gt1 = lts.Else4 reads.Pre reads.Post

-- `numbers_ok` meets its contract: each test fails the whole, and the last decides it. Assumes nothing.
abbrev tests : Start → List Bool
tests c =
    let ms = c.args.machine.now in let fs = c.args.fuel.now in
    leb 25 (length ms) ∷ leb 4 (length fs) ∷ leb (get_or ms 6 0) 1 ∷ leb (get_or fs 3 0) 1 ∷ (eqb (get_or fs 1 0) 1 || eqb (get_or fs 1 0) 0 && eqb (get_or fs 2 0) 0) ∷ []

-- the first n have passed
abbrev Passed : ℕ → Start → Type 0
Passed n c = Left (from n (tests c)) (upto true (tests c))

begun : (c : Start) → Passed 0 c
begun c = record { is = refl }

passed-1 : (c : Else-machine-lt-MACHINE_WIDTH) → Passed 1 c.before
passed-1 c = pass (begun c.before) (le-leb _ _ c.if-machine-lt-MACHINE_WIDTH.false)

passed-2 : (c : Else-fuel-lt-FUEL_WIDTH) → Passed 2 c.before.before
passed-2 c = pass (passed-1 c.before) (le-leb _ _ c.if-fuel-lt-FUEL_WIDTH.false)

passed-3 : (c : Else-machine-gt1) → Passed 3 c.before.before.before.before
passed-3 c = pass (passed-2 c.before.before) (le-leb _ _ c.if-machine-gt1.false)

passed-4 : (c : Else-fuel-gt1) → Passed 4 c.before.before.before.before.before.before
passed-4 c = pass (passed-3 c.before.before) (le-leb _ _ c.if-fuel-gt1.false)

pub returns-then-machine-lt-MACHINE_WIDTH : goal.returns-then-machine-lt-MACHINE_WIDTH
returns-then-machine-lt-MACHINE_WIDTH c = stop (begun c.before.before) (lt-leb _ _ c.if-machine-lt-MACHINE_WIDTH.true)

pub returns-then-fuel-lt-FUEL_WIDTH : goal.returns-then-fuel-lt-FUEL_WIDTH
returns-then-fuel-lt-FUEL_WIDTH c = stop (passed-1 c.before.before) (lt-leb _ _ c.if-fuel-lt-FUEL_WIDTH.true)

pub returns-then-machine-gt1 : goal.returns-then-machine-gt1
returns-then-machine-gt1 c = stop (passed-2 c.before.before.before) (lt-leb _ _ c.if-machine-gt1.true)

pub returns-then-fuel-gt1 : goal.returns-then-fuel-gt1
returns-then-fuel-gt1 c = stop (passed-3 c.before.before.before) (lt-leb _ _ c.if-fuel-gt1.true)

pub returns-then-fuel-eq1 : goal.returns-then-fuel-eq1
returns-then-fuel-eq1 c = let fs = c.args.fuel.now in last (passed-4 c.before.before.before) (sym (rw (eq-eqb (get_or fs 1 0) 1 c.if-fuel-eq1.true)))

pub returns-then-fuel-ne0 : goal.returns-then-fuel-ne0
returns-then-fuel-ne0 c =
    let fs = c.args.fuel.now in
    last (passed-4 c.before.before.before.before.before) (sym (rw (ne_eqb (get_or fs 1 0) 1 c.if-fuel-eq1.false, ne_eqb (get_or fs 1 0) 0 c.if-fuel-ne0.true)))

pub returns : goal.returns
returns c =
    let fs = c.args.fuel.now in
    last (passed-4 c.before.before.before.before.before.before) (sym (rw (ne_eqb (get_or fs 1 0) 1 c.if-fuel-eq1.false, eq-eqb (get_or fs 1 0) 0 c.if-fuel-ne0.false)))
