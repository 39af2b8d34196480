-- Tests over each number below a bound, from what a loop knows, and back. Assumes nothing.
use mathlib.Core.Path.{◌≡◌, refl}
use mathlib.Core.Bool.{Bool, true, false, ◌&&◌}
use mathlib.Core.List.{List, [], ◌∷◌}
use Prim.Native.Nat.{ℕ, zero, suc, ◌+◌, ◌<◌}
use native.Mathlib.Omega.{arith}
use native.Mathlib.Numerals.{add-one}
use borrow.Author.Tests.{eqb-true, eqb-false}
use lib.Dec.{eqb}
use lib.ListN.{replicate, length}
use Rattle.lists.specs.Tests.{all_below, zeros}

-- what equates two cases equates 0 and 1, by `cc`
pub never : {A : Type 0} → ◌≡◌ {A = ℕ} 0 1 → A
never e = absurd (omega arith)

pub and_left : (a b : Bool) → (a && b) ≡ true → a ≡ true
and_left true b e = refl
and_left false b e = e

pub and_right : (a b : Bool) → (a && b) ≡ true → b ≡ true
and_right true b e = e
and_right false b e = never cc

pub and-false : (b : Bool) → (b && false) ≡ false
and-false true = refl
and-false false = refl

-- it fails where one fails
by_place : (n i : ℕ) (p : ℕ → Bool) (b : Bool) → eqb i n ≡ b → (i < n → all_below n p ≡ false) → i < suc n → p i ≡ false → (all_below n p && p n) ≡ false
by_place n i p true t f h e = rw (← eqb-true i n t, e, and-false)
by_place n i p false t f h e = let d = eqb-false i n t in rw (f (omega arith))

pub fails-at : (n i : ℕ) (p : ℕ → Bool) → i < n → p i ≡ false → all_below n p ≡ false
fails-at (suc n) i p h e = by_place n i p (eqb i n) refl (λ g. fails-at n i p g e) h e
fails-at zero i p h e = elim h [ ]

pub holds-next : (i : ℕ) (p : ℕ → Bool) → all_below i p ≡ true → p i ≡ true → all_below (i + 1) p ≡ true
holds-next i p h e = rw add-one (rw (h, e))

-- it holds of each number below the bound, and where it holds of each
at_place : (n i : ℕ) (p : ℕ → Bool) (b : Bool) → eqb i n ≡ b → (i < n → p i ≡ true) → i < suc n → p n ≡ true → p i ≡ true
at_place n i p true t f h e = rw (eqb-true i n t) e
at_place n i p false t f h e = let d = eqb-false i n t in f (omega arith)

pub holds_at : (n i : ℕ) (p : ℕ → Bool) → i < n → all_below n p ≡ true → p i ≡ true
holds_at (suc n) i p h e = at_place n i p (eqb i n) refl (λ g. holds_at n i p g (and_left (all_below n p) (p n) e)) h (and_right (all_below n p) (p n) e)
holds_at zero i p h e = elim h [ ]

pub holds-all : (n : ℕ) (p : ℕ → Bool) → ((i : ℕ) → i < n → p i ≡ true) → all_below n p ≡ true
holds-all zero p h = refl
holds-all (suc n) p h = rw (holds-all n p (λ i g. h i (omega arith)), h n (omega arith))

-- words that are all 0
pub zeros-are : (xs : List ℕ) → zeros xs ≡ true → xs ≡ replicate (length xs) 0
zeros-are [] e = refl
zeros-are (x ∷ xs) e =
    let h : x ≡ 0 = eqb-true x 0 (and_left (eqb x 0) (zeros xs) e) in
    rw (h, ← zeros-are xs (and_right (eqb x 0) (zeros xs) e))

pub are-zeros : (n : ℕ) → zeros (replicate n 0) ≡ true
are-zeros zero = refl
are-zeros (suc n) = are-zeros n
