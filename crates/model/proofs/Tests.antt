-- Laws of tests: conjunctions, and tests over lists. Assumes nothing.
use mathlib.Core.Path.{◌≡◌, refl, sym, ap, ◌∙◌}
use mathlib.Core.Bool.{Bool, true, false, not, ◌&&◌, ◌||◌, true≢false, false≢true}
use mathlib.Core.List.{List, [], ◌∷◌, ◌++◌}
use Prim.Native.Nat.{ℕ, zero, suc, ◌<◌}
use native.Mathlib.Nat.{not-suc-le-zero, le_of_suc-le-suc}
use native.Mathlib.Omega.{arith}
use lib.ListN.{length, get_or}
use lib.Dec.{eqb}
use borrow.Author.Tests.{eqb-true, eqb-false, eq-eqb, ne_eqb}
use Rattle.lists.specs.Pick.{pick}
use Rattle.model.specs.Lists.{each, among, distinct}
pub use Rattle.lists.proofs.Tests.{and_left, and_right}

pub no_false : {A : Type 0} → false ≡ true → A
no_false e = absurd (false≢true e)

pub no_true : {A : Type 0} → true ≡ false → A
no_true e = absurd (true≢false e)

pub both : {a b : Bool} → a ≡ true → b ≡ true → (a && b) ≡ true
both e f = rw (e, f)

-- ---- each

module _ {A : Type 0} where
  pub each-imp : (p q : A → Bool) → ((x : A) → p x ≡ true → q x ≡ true) → (xs : List A) → each p xs ≡ true → each q xs ≡ true
  each-imp p q f [] e = refl
  each-imp p q f (x ∷ xs) e = both (f x (and_left _ _ e)) (each-imp p q f xs (and_right (p x) _ e))

  pub each_snoc : (p : A → Bool) (xs : List A) (x : A) → each p xs ≡ true → p x ≡ true → each p (xs ++ (x ∷ [])) ≡ true
  each_snoc p [] x e h = both h refl
  each_snoc p (y ∷ xs) x e h = both (and_left (p y) _ e) (each_snoc p xs x (and_right (p y) _ e) h)

  pub each_at : (p : A → Bool) (xs : List A) (i : ℕ) (d : A) → each p xs ≡ true → i < length xs → p (get_or xs i d) ≡ true
  each_at p [] i d e h = absurd (not-suc-le-zero h)
  each_at p (x ∷ xs) zero d e h = and_left (p x) _ e
  each_at p (x ∷ xs) (suc i) d e h = each_at p xs i d (and_right (p x) _ e) (le_of_suc-le-suc h)

  pub at_each : (p : A → Bool) (xs : List A) (d : A) → ((i : ℕ) → i < length xs → p (get_or xs i d) ≡ true) → each p xs ≡ true
  at_each p [] d f = refl
  at_each p (x ∷ xs) d f = both (f 0 (omega arith)) (at_each p xs d (λ i h. f (suc i) (omega arith)))

-- ---- among, distinct

pub or_left : (a b : Bool) → a ≡ true → (a || b) ≡ true
or_left true b e = refl
or_left false b e = no_false e

pub or_right : (a b : Bool) → b ≡ true → (a || b) ≡ true
or_right true b e = refl
or_right false b e = e

-- by cases of the first
pub or_else : {C : Type 0} (a b : Bool) → (a || b) ≡ true → (a ≡ true → C) → (b ≡ true → C) → C
or_else true b e f g = f refl
or_else false b e f g = g e

pub or-first : (a b : Bool) → (a || b) ≡ false → a ≡ false
or-first true b e = no_true e
or-first false b e = refl

pub or-second : (a b : Bool) → (a || b) ≡ false → b ≡ false
or-second true b e = no_true e
or-second false b e = e

pub neither : {a b : Bool} → a ≡ false → b ≡ false → (a || b) ≡ false
neither e f = rw (e, f)

pub negate : {b : Bool} → b ≡ false → not b ≡ true
negate e = rw e

pub unnegate : (b : Bool) → not b ≡ true → b ≡ false
unnegate true e = no_false e
unnegate false e = refl

eqb-sym : (a b : ℕ) → eqb a b ≡ false → eqb b a ≡ false
eqb-sym a b e = ne_eqb b a (λ q. eqb-false a b e (sym q))

pub among-snoc : (n m : ℕ) (xs : List ℕ) → among n xs ≡ false → eqb n m ≡ false → among n (xs ++ (m ∷ [])) ≡ false
among-snoc n m [] e h = neither h refl
among-snoc n m (x ∷ xs) e h = neither (or-first (eqb n x) _ e) (among-snoc n m xs (or-second (eqb n x) _ e) h)

pub distinct_snoc : (n : ℕ) (xs : List ℕ) → distinct xs ≡ true → among n xs ≡ false → distinct (xs ++ (n ∷ [])) ≡ true
distinct_snoc n [] e h = refl
distinct_snoc n (x ∷ xs) e h =
    both (negate (among-snoc x n xs (unnegate (among x xs) (and_left (not (among x xs)) _ e)) (eqb-sym n x (or-first (eqb n x) _ h)))) (distinct_snoc n xs (and_right (not (among x xs)) _ e) (or-second (eqb n x) _ h))

-- a number that fails a test which each element passes stands not among them
pub among-not : (p : ℕ → Bool) (n : ℕ) (xs : List ℕ) → each p xs ≡ true → p n ≡ false → among n xs ≡ false
among-not p n [] e h = refl
among-not p n (x ∷ xs) e h = neither (ne_eqb n x (λ q. no_true (sym (and_left (p x) _ e) ∙ ap p (sym q) ∙ h))) (among-not p n xs (and_right (p x) _ e) h)

-- one that stands among the elements passes
pub among-each : (p : ℕ → Bool) (n : ℕ) (xs : List ℕ) → each p xs ≡ true → among n xs ≡ true → p n ≡ true
among-each p n [] e h = no_false h
among-each p n (x ∷ xs) e h = or_else (eqb n x) _ h (λ q. ap p (eqb-true n x q) ∙ and_left (p x) _ e) (λ q. among-each p n xs (and_right (p x) _ e) q)

-- each passes if those that stand in the list do
pub among-all : (p : ℕ → Bool) (xs : List ℕ) → ((n : ℕ) → among n xs ≡ true → p n ≡ true) → each p xs ≡ true
among-all p [] f = refl
among-all p (x ∷ xs) f = both (f x (or_left (eqb x x) _ (eq-eqb x x refl))) (among-all p xs (λ n h. f n (or_right (eqb n x) _ h)))

-- ---- cases of a test

-- a choice holds if each side does under its test
pub picked : {A : Type 0} (P : A → Type 0) (t : Bool) {a b : A} → (t ≡ true → P a) → (t ≡ false → P b) → P (pick t a b)
unfolding pick
picked P true f g = f refl
picked P false f g = g refl
