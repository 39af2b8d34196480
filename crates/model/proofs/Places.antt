-- Places in a list, and tests over lists: what stands at a place, at the end, once. Assumes nothing.
use mathlib.Core.Path.{◌≡◌, refl, sym, ap, ◌∙◌, subst}
use mathlib.Core.Bool.{Bool, true, false, not}
use mathlib.Core.List.{List, [], ◌∷◌, ◌++◌}
use Prim.Native.Nat.{ℕ, zero, suc, ◌<◌}
use native.Mathlib.Omega.{arith}
use lib.Dec.{eqb}
use lib.ListN.{length}
use borrow.Author.Tests.{eqb-true, eq-eqb}
use Rattle.model.specs.Lists.{each, among, distinct}
use Rattle.model.specs.WellFormed.{At, ◌∈◌, ◌ends_in◌}
use Rattle.model.proofs.Tests.{no_false, no_true, and_left, and_right, both, or_left, or_right, or_else, negate, unnegate}

module _ {A : Type 0} where
  -- ---- each

  pub each-place : (p : A → Bool) (xs : List A) → each p xs ≡ true → (i : ℕ) (x : A) → At i x xs → p x ≡ true
  each-place p [] e i x h = absurd h
  each-place p (y ∷ ys) e zero x h = subst (λ z. p z ≡ true) (sym h) (and_left (p y) (each p ys) e)
  each-place p (y ∷ ys) e (suc i) x h = each-place p ys (and_right (p y) (each p ys) e) i x h

  pub place-each : (p : A → Bool) (xs : List A) → ((i : ℕ) (x : A) → At i x xs → p x ≡ true) → each p xs ≡ true
  place-each p [] f = refl
  place-each p (y ∷ ys) f = both (f 0 y refl) (place-each p ys (λ i x h. f (suc i) x h))

  -- ---- ends

  -- what holds of a list and goes over to its tail holds of each end
  pub at-end : (R : List A → Type 0) → ((x : A) (xs : List A) → R (x ∷ xs) → R xs) → (xs ys : List A) → xs ends_in ys → R xs → R ys
  at-end R down xs ys h r = go h.0 (subst R h.1 r)
    where
      go : (before : List A) → R (before ++ ys) → R ys
      go [] q = q
      go (x ∷ before) q = go before (down x (before ++ ys) q)

  -- what ends a tail ends the list
  pub later : (x : A) (xs ys : List A) → xs ends_in ys → (x ∷ xs) ends_in ys
  later x xs ys h = (x ∷ h.0, ap (λ (z : List A). x ∷ z) h.1)

  pub whole : (xs : List A) → xs ends_in xs
  whole xs = ([], refl)

  -- an end of x ∷ xs is that list, or an end of xs
  pub split : {C : Type 0} (x y : A) (xs ys : List A) → (x ∷ xs) ends_in (y ∷ ys) → (y ≡ x → ys ≡ xs → C) → (xs ends_in (y ∷ ys) → C) → C
  split {C} x y xs ys h f g = go h.0 h.1
    where
      go : (before : List A) → x ∷ xs ≡ before ++ (y ∷ ys) → C
      go [] e = f (cc) (cc)
      go (z ∷ before) e = g (before, cc)

  -- the first of an end stands in the list, and what stands in it is the first of one
  pub end-in : (x : A) (xs ys : List A) → xs ends_in (x ∷ ys) → x ∈ xs
  end-in x xs ys h = subst (λ (z : List A). x ∈ z) (sym h.1) (go h.0)
    where
      go : (before : List A) → x ∈ before ++ (x ∷ ys)
      go [] = (0, refl)
      go (z ∷ before) = let r = go before in (suc r.0, r.1)

  pub in_end : (x : A) (xs : List A) → x ∈ xs → (ys : List A) × (xs ends_in (x ∷ ys))
  in_end x xs h = go xs h.0 h.1
    where
      go : (xs : List A) (i : ℕ) → At i x xs → (ys : List A) × (xs ends_in (x ∷ ys))
      go [] i h = absurd h
      go (y ∷ ys) zero h = (ys, ([], ap (λ z. z ∷ ys) (sym h)))
      go (y ∷ ys) (suc i) h = let r = go ys i h in (r.0, later y ys (x ∷ r.0) r.1)

  -- an end is no longer than the list
  pub end_short : (xs ys : List A) → xs ends_in ys → length ys < suc (length xs)
  end_short xs ys h = subst (λ (z : List A). length ys < suc (length z)) (sym h.1) (go h.0)
    where
      go : (before : List A) → length ys < suc (length (before ++ ys))
      go [] = omega arith
      go (x ∷ before) = let r = go before in omega (arith, r)

-- ---- among, distinct

pub among_in : (n : ℕ) (xs : List ℕ) → among n xs ≡ true → n ∈ xs
among_in n [] e = no_false e
among_in n (x ∷ xs) e = or_else (eqb n x) (among n xs) e (λ q. (0, eqb-true n x q)) (λ q. let r = among_in n xs q in (suc r.0, r.1))

pub in-among : (n : ℕ) (xs : List ℕ) (i : ℕ) → At i n xs → among n xs ≡ true
in-among n [] i h = absurd h
in-among n (x ∷ xs) zero h = or_left (eqb n x) (among n xs) (eq-eqb n x h)
in-among n (x ∷ xs) (suc i) h = or_right (eqb n x) (among n xs) (in-among n xs i h)

pub distinct-once : (xs : List ℕ) → distinct xs ≡ true → (i j v : ℕ) → At i v xs → At j v xs → i ≡ j
distinct-once [] e i j v h g = absurd h
distinct-once (x ∷ xs) e zero zero v h g = refl
distinct-once (x ∷ xs) e zero (suc j) v h g = no_true (sym (in-among x xs j (subst (λ z. At j z xs) h g)) ∙ unnegate (among x xs) (and_left (not (among x xs)) (distinct xs) e))
distinct-once (x ∷ xs) e (suc i) zero v h g = no_true (sym (in-among x xs i (subst (λ z. At i z xs) g h)) ∙ unnegate (among x xs) (and_left (not (among x xs)) (distinct xs) e))
distinct-once (x ∷ xs) e (suc i) (suc j) v h g = ap suc (distinct-once xs (and_right (not (among x xs)) (distinct xs) e) i j v h g)

pub once-distinct : (xs : List ℕ) → ((i j v : ℕ) → At i v xs → At j v xs → i ≡ j) → distinct xs ≡ true
once-distinct [] f = refl
once-distinct (x ∷ xs) f = both (negate (no_more (among x xs) refl)) (once-distinct xs (λ i j v h g. let e = f (suc i) (suc j) v h g in omega arith))
  where
    no_more : (b : Bool) → among x xs ≡ b → b ≡ false
    no_more true e = let r = among_in x xs e in let q = f 0 (suc r.0) x refl r.1 in absurd (omega arith)
    no_more false e = refl
