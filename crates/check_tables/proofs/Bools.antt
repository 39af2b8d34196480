-- Tests that hold together. Assumes nothing.
use mathlib.Core.Path.{◌≡◌, refl, sym, ap, ◌∙◌}
use mathlib.Core.Bool.{Bool, true, false, ◌&&◌}
use mathlib.Core.List.{List, [], ◌∷◌}
use Prim.Native.Nat.{ℕ, zero, suc}
use borrow.Author.Tests.{eqb-true, eq-eqb}
use lib.Dec.{eqb}
use Rattle.claims_sound.proofs.Tests.{no_true}

-- two tests are equal where each follows from the other
pub iff : (a b : Bool) → (a ≡ true → b ≡ true) → (b ≡ true → a ≡ true) → a ≡ b
iff true true f g = refl
iff true false f g = sym (f refl)
iff false true f g = g refl
iff false false f g = refl

-- a test from which one that fails would follow fails
pub fails : (a b : Bool) → (a ≡ true → b ≡ true) → b ≡ false → a ≡ false
fails true b f e = no_true (sym (f refl) ∙ e)
fails false b f e = refl

pub and-true : (b : Bool) → (b && true) ≡ b
and-true true = refl
and-true false = refl

pub and_assoc : (a b c : Bool) → ((a && b) && c) ≡ (a && (b && c))
and_assoc true b c = refl
and_assoc false b c = refl

pub eqb-flip : (a b : ℕ) → eqb a b ≡ eqb b a
eqb-flip a b = iff (eqb a b) (eqb b a) (λ e. eq-eqb b a (sym (eqb-true a b e))) (λ e. eq-eqb a b (sym (eqb-true b a e)))

-- two tests, one after the other
pub first-fails : (t z w b : Bool) → (t && z) ≡ w → b ≡ t → b ≡ false → false ≡ w
first-fails t z w b e p q = sym (ap (λ x. x && z) (sym p ∙ q)) ∙ e

pub second-decides : (t z w b c : Bool) → (t && z) ≡ w → b ≡ t → b ≡ true → c ≡ z → c ≡ w
second-decides t z w b c e p q r = r ∙ sym (ap (λ x. x && z) (sym p ∙ q)) ∙ e

-- tests one after the other: `Left ts w`, the whole w is what those of ts say, since all before them have passed
abbrev pub upto : Bool → List Bool → Bool
upto p [] = p
upto p (t ∷ ts) = upto (p && t) ts

abbrev pub from : ℕ → List Bool → List Bool
from zero ts = ts
from (suc n) [] = []
from (suc n) (t ∷ ts) = from n ts

pub record Left (ts : List Bool) (w : Bool) : Type 0 where
  pub is : upto true ts ≡ w

failed : (ts : List Bool) → upto false ts ≡ false
failed [] = refl
failed (t ∷ ts) = failed ts

pub pass : {t : Bool} {ts : List Bool} {w : Bool} → Left (t ∷ ts) w → t ≡ true → Left ts w
pass {t} {ts} l q = record { is = sym (ap (λ b. upto b ts) q) ∙ l.is }

pub stop : {t : Bool} {ts : List Bool} {w : Bool} → Left (t ∷ ts) w → t ≡ false → false ≡ w
stop {t} {ts} l q = sym (failed ts) ∙ sym (ap (λ b. upto b ts) q) ∙ l.is

pub last : {t w r : Bool} → Left (t ∷ []) w → r ≡ t → r ≡ w
last l q = q ∙ l.is

-- three
module _ (a b c w : Bool) where
  pub three-1 : (a && b && c) ≡ w → a ≡ false → false ≡ w
  three-1 q h = sym (rw h) ∙ q

  pub three-2 : (a && b && c) ≡ w → a ≡ true → b ≡ false → false ≡ w
  three-2 q p h = sym (rw (p, h)) ∙ q

  pub three-3 : (r : Bool) → (a && b && c) ≡ w → a ≡ true → b ≡ true → r ≡ c → r ≡ w
  three-3 r q p₁ p₂ h = h ∙ sym (rw (p₁, p₂)) ∙ q
