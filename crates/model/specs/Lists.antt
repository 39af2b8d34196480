-- Tests over lists.
use Rattle.std.specs.Prelude.{ℕ, ◌≡◌, refl, Bool, true, false, not, ◌&&◌, ◌||◌, List, [], ◌∷◌, eqb}

module _ {A : Type 0} where
  abbrev pub is_nil : List A → Bool
  is_nil [] = true
  is_nil (x ∷ xs) = false

  -- every element passes the test
  abbrev pub each : (A → Bool) → List A → Bool
  each p [] = true
  each p (x ∷ xs) = p x && each p xs

  pub each_first : (p : A → Bool) (x : A) (xs : List A) → each p (x ∷ xs) ≡ true → p x ≡ true
  each_first p x xs = go (p x) (each p xs)
    where
      go : (a b : Bool) → (a && b) ≡ true → a ≡ true
      go true b h = refl
      go false b h = h

  pub each-rest : (p : A → Bool) (x : A) (xs : List A) → each p (x ∷ xs) ≡ true → each p xs ≡ true
  each-rest p x xs = go (p x) (each p xs)
    where
      go : (a b : Bool) → (a && b) ≡ true → b ≡ true
      go true b h = h
      go false true h = refl
      go false false h = h

-- n stands in the list
abbrev pub among : ℕ → List ℕ → Bool
among n [] = false
among n (x ∷ xs) = eqb n x || among n xs

-- no number stands in the list twice
abbrev pub distinct : List ℕ → Bool
distinct [] = true
distinct (x ∷ xs) = not (among x xs) && distinct xs
