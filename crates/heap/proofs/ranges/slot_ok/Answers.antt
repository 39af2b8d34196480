-- `slot_ok` meets its contract: each kind's row of the table. Assumes nothing.
use mathlib.Core.Path.{◌≡◌, refl, sym, ap, ◌∙◌}
use mathlib.Core.Bool.{Bool, false}
use mathlib.Core.List.{List, [], ◌∷◌}
use Prim.Native.Nat.{ℕ, zero, suc, ◌≤◌, ◌<◌}
use native.Mathlib.Omega.{arith}
use lib.ListN.{get_or, length}
use Rattle.heap.specs.Slot.{fields_of}
use Rattle.heap.specs.Ranges.{Range, ranges_of, kinds, within, slot_ok}
use Rattle.heap.proofs.ranges.slot_ok.Goals as goal

-- `slot_ok` meets its contract: each kind's row of the table. Assumes nothing.
-- a row of the table
row : (s : List ℕ) (k : ℕ) (r : Bool) → r ≡ within (get_or kinds k []) s → get_or s 1 0 ≡ k → r ≡ slot_ok s
row s k r p e = p ∙ ap (λ (n : ℕ). within (get_or kinds n []) s) (sym e)

-- the greatest values of tag and fields
abbrev tag : List ℕ
tag = 0 ∷ 65535 ∷ 65535 ∷ 65535 ∷ 65535 ∷ []

abbrev first : List ℕ
first = 0 ∷ 0 ∷ 18446744073709551615 ∷ 18446744073709551615 ∷ 18446744073709551615 ∷ []

abbrev second : List ℕ
second = 0 ∷ 0 ∷ 0 ∷ 1 ∷ 1 ∷ []

abbrev third : List ℕ
third = 0 ∷ 0 ∷ 0 ∷ 0 ∷ 18446744073709551615 ∷ []

by-table : (s : List ℕ) (k : ℕ) (r : Bool) → k ≤ 4 → (k ≡ 1 → ⊥)
    → r ≡ within (ranges_of (fields_of 0 0 0 0 0 0) (fields_of (get_or tag k 0) k (get_or first k 0) (get_or second k 0) (get_or third k 0) 0)) s → r ≡ within (get_or kinds k []) s
by-table s zero r h n p = p
by-table s (suc zero) r h n p = absurd (n refl)
by-table s (suc (suc zero)) r h n p = p
by-table s (suc (suc (suc zero))) r h n p = p
by-table s (suc (suc (suc (suc zero)))) r h n p = p
by-table s (suc (suc (suc (suc (suc k))))) r h n p = absurd (omega arith)

-- a number past the kinds has no row
past : (k : ℕ) → 4 < k → (k ≡ 5 → ⊥) → (k ≡ 6 → ⊥) → get_or kinds k [] ≡ []
past zero h f g = absurd (omega arith)
past (suc zero) h f g = absurd (omega arith)
past (suc (suc zero)) h f g = absurd (omega arith)
past (suc (suc (suc zero))) h f g = absurd (omega arith)
past (suc (suc (suc (suc zero)))) h f g = absurd (omega arith)
past (suc (suc (suc (suc (suc zero))))) h f g = absurd (f refl)
past (suc (suc (suc (suc (suc (suc zero)))))) h f g = absurd (g refl)
past (suc (suc (suc (suc (suc (suc (suc k))))))) h f g = refl

none : (s : List ℕ) → 0 < length s → false ≡ within [] s
none [] h = absurd (omega arith)
none (x ∷ s) h = refl

pub returns-then-kind-eq6 : goal.returns-then-kind-eq6
returns-then-kind-eq6 c = row c.args.s.now 6 c.coro_ok.result c.coro_ok.ensures c.if-kind-eq6.true

pub returns-then-kind-eq5 : goal.returns-then-kind-eq5
returns-then-kind-eq5 c = row c.args.s.now 5 c.fields_ok.result c.fields_ok.ensures c.if-kind-eq5.true

pub returns-then-kind-gt4 : goal.returns-then-kind-gt4
returns-then-kind-gt4 c =
    let s = c.args.s.now in
    let n : length s ≡ 20 = c.requires in
    none s (omega arith) ∙ ap (λ (rs : List Range). within rs s) (sym (past (get_or s 1 0) c.if-kind-gt4.true c.if-kind-eq5.false c.if-kind-eq6.false))

pub returns-then-kind-eq1 : goal.returns-then-kind-eq1
returns-then-kind-eq1 c = row c.args.s.now 1 c.fields_ok-then-kind-eq1.result c.fields_ok-then-kind-eq1.ensures c.if-kind-eq1.true

pub returns : goal.returns
returns c =
    let s = c.args.s.now in
    by-table s (get_or s 1 0) c.fields_ok-2.result c.if-kind-gt4.false c.if-kind-eq1.false c.fields_ok-2.ensures
