-- Words joined by or, one after the other: 0 exactly if each is. Assumes nothing.
use mathlib.Core.Path.{◌≡◌, refl, ap, ◌∙◌}
use mathlib.Core.Bool.{Bool, true, false, ◌&&◌}
use mathlib.Core.List.{List}
use Prim.Native.Nat.{ℕ, suc, ◌+◌, ◌≤◌, ◌<◌}
use native.Mathlib.Omega.{arith}
use native.Mathlib.Numerals.{add-one}
use borrow.Author.Tests.{eqb-true, eqb-false, ne_eqb}
use lib.Bits.{bit_or, or_add_and, and_le_l, and_le_r, or_zero_l}
use lib.Dec.{eqb}
use lib.ListN.{length, get_or, drop, drop_of_length-le}
use lib.Seq.{drop-cons}
use Rattle.lists.specs.Tests.{zeros}

-- both are 0
join-zero : (a b : ℕ) → eqb (bit_or a b) 0 ≡ eqb a 0 && eqb b 0
join-zero a b = go (eqb a 0) refl
  where
    go : (t : Bool) → eqb a 0 ≡ t → eqb (bit_or a b) 0 ≡ t && eqb b 0
    go true e = ap (λ x. eqb (bit_or x b) 0) (eqb-true a 0 e) ∙ ap (λ x. eqb x 0) (or_zero_l b)
    go false e = let h = eqb-false a 0 e in ne_eqb (bit_or a b) 0 (λ z. h (omega (arith, or_add_and a b, and_le_l a b, and_le_r a b)))

module _ (ws : List ℕ) (any i : ℕ) where
  -- what was joined, and the words from i on
  abbrev pub left : Bool
  left = eqb any 0 && zeros (drop i ws)

pub more : (ws : List ℕ) (any i : ℕ) → i < length ws → left ws any i ≡ left ws (bit_or any (get_or ws i 0)) (i + 1)
more ws any i h = rw (add-one, drop-cons ws i 0 h, join-zero any (get_or ws i 0)) (go (eqb any 0) (eqb (get_or ws i 0) 0))
  where
    go : (a b : Bool) → (a && (b && zeros (drop (suc i) ws))) ≡ ((a && b) && zeros (drop (suc i) ws))
    go true b = refl
    go false b = refl

pub end : (ws : List ℕ) (any i : ℕ) → length ws ≤ i → left ws any i ≡ eqb any 0
end ws any i h = rw (drop_of_length-le ws h) (go (eqb any 0))
  where
    go : (a : Bool) → (a && true) ≡ a
    go true = refl
    go false = refl
