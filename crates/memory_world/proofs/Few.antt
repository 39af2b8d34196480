-- Distinct numbers below n are at most n, so a queue is not longer than the table of slots. Assumes nothing.
use mathlib.Core.Path.{◌≡◌, refl, sym, ap, ap₂, ◌∙◌}
use mathlib.Core.Bool.{Bool, true, false, not, ◌||◌}
use mathlib.Core.List.{List, [], ◌∷◌, map}
use Prim.Native.Nat.{ℕ, zero, suc, ◌+◌, ◌≤◌, ◌<◌}
use native.Mathlib.Omega.{arith}
use lib.ListN.{length, length-map}
use lib.Dec.{eqb, ltb}
use borrow.Author.Tests.{eqb-true, eqb-false, ne_eqb, ltb-true, lt-ltb}
use Rattle.heap.specs.Word.{slot_of}
use Rattle.heap.specs.Table.{Slot}
use Rattle.model.specs.Lists.{each, among, distinct}
use Rattle.model.specs.Object.{Core, Rest, Object, Coroutine, Absent, Is}
use Rattle.model.specs.Sound.{marked}
use Rattle.claims_sound.proofs.Tests.{no_false, and_left, and_right, both, negate, unnegate, neither, or-first, or-second}
use Rattle.claims_sound.proofs.Point.{coro_in, Points, finds, same_word}
use Rattle.claims_sound.proofs.Queue.{Queue}

-- ---- numbers below n in a list

abbrev one_if : Bool → ℕ
one_if true = 1
one_if false = 0

-- how many numbers below n stand in it
abbrev below : ℕ → List ℕ → ℕ
below zero xs = 0
below (suc n) xs = one_if (among n xs) + below n xs

below-most : (n : ℕ) (xs : List ℕ) → below n xs ≤ n
below-most zero xs = omega arith
below-most (suc n) xs = let h = below-most n xs in go (among n xs) h
  where
    go : (b : Bool) → below n xs ≤ n → one_if b + below n xs ≤ suc n
    go true h = omega arith
    go false h = omega arith

-- a number that is not below n is not counted
below-past : (n x : ℕ) (xs : List ℕ) → n ≤ x → below n (x ∷ xs) ≡ below n xs
below-past zero x xs h = refl
below-past (suc n) x xs h =
    ap₂ (λ (b : Bool) (k : ℕ). one_if (b || among n xs) + k) (ne_eqb n x (λ e. omega arith)) (below-past n x xs (omega arith))

-- one that is below n counts once
below_more : (n x : ℕ) (xs : List ℕ) → x < n → among x xs ≡ false → below n (x ∷ xs) ≡ suc (below n xs)
below_more zero x xs h a = absurd (omega arith)
below_more (suc n) x xs h a = go (eqb n x) refl (λ g. below_more n x xs g a)
  where
    go : (b : Bool) → eqb n x ≡ b → (x < n → below n (x ∷ xs) ≡ suc (below n xs)) → one_if (eqb n x || among n xs) + below n (x ∷ xs) ≡ suc (one_if (among n xs) + below n xs)
    go true e next =
        let z : n ≡ x = eqb-true n x e in
        let t : among n xs ≡ false = ap (λ i. among i xs) z ∙ a in
        let one : 1 + below n xs ≡ suc (0 + below n xs) = omega arith in
        ap₂ (λ (b : Bool) (k : ℕ). one_if (b || among n xs) + k) e (below-past n x xs (omega arith)) ∙ one ∙ ap (λ (b : Bool). suc (one_if b + below n xs)) (sym t)
    go false e next =
        let d = eqb-false n x e in
        let s : (k m : ℕ) → k + suc m ≡ suc (k + m) = λ k m. omega arith in
        ap₂ (λ (b : Bool) (k : ℕ). one_if (b || among n xs) + k) e (next (omega arith)) ∙ s (one_if (among n xs)) (below n xs)

counted : (n : ℕ) (xs : List ℕ) → distinct xs ≡ true → each (λ x. ltb x n) xs ≡ true → length xs ≤ below n xs
counted n [] d e = omega arith
counted n (x ∷ xs) d e =
    let h = counted n xs (and_right (not (among x xs)) _ d) (and_right (ltb x n) _ e) in
    let m = below_more n x xs (ltb-true x n (and_left (ltb x n) _ e)) (unnegate (among x xs) (and_left (not (among x xs)) _ d)) in
    omega arith

-- the law
pub few : (n : ℕ) (xs : List ℕ) → distinct xs ≡ true → each (λ x. ltb x n) xs ≡ true → length xs ≤ n
few n xs d e = let h = counted n xs d e in let k = below-most n xs in omega arith

-- ---- queues

module _ (mark : Rest → Bool) (xs : List (Slot Object)) where
  -- a word that names a coroutine
  record Names (v : ℕ) : Type 0 where
    core : Core
    rest : Rest
    points : Points xs v (Object.Coro core rest)

  names-by : (v : ℕ) (c : Coroutine) → coro_in xs v ≡ c → marked mark c ≡ true → Names v
  names-by v Absent e h = no_false h
  names-by v (Is k r) e h = record { core = k; rest = r; points = finds xs v k r e }

  names : (v : ℕ) → marked mark (coro_in xs v) ≡ true → Names v
  names v h = names-by v (coro_in xs v) refl h

  slots-inside : (q : List ℕ) → each (λ v. marked mark (coro_in xs v)) q ≡ true → each (λ i. ltb i (length xs)) (map slot_of q) ≡ true
  slots-inside [] h = refl
  slots-inside (v ∷ q) h =
      both (lt-ltb (slot_of v) (length xs) (names v (and_left (marked mark (coro_in xs v)) _ h)).points.inside) (slots-inside q (and_right (marked mark (coro_in xs v)) _ h))

  slot_apart : (v : ℕ) (q : List ℕ) → Names v → each (λ u. marked mark (coro_in xs u)) q ≡ true → among v q ≡ false → among (slot_of v) (map slot_of q) ≡ false
  slot_apart v [] n h a = refl
  slot_apart v (u ∷ q) n h a =
      let m = names u (and_left (marked mark (coro_in xs u)) _ h) in
      neither (ne_eqb (slot_of v) (slot_of u) (λ e. eqb-false v u (or-first (eqb v u) _ a) (same_word m.points n.points e)))
      (slot_apart v q n (and_right (marked mark (coro_in xs u)) _ h) (or-second (eqb v u) _ a))

  slots_apart : (q : List ℕ) → each (λ v. marked mark (coro_in xs v)) q ≡ true → distinct q ≡ true → distinct (map slot_of q) ≡ true
  slots_apart [] h d = refl
  slots_apart (v ∷ q) h d =
      both
      (negate (slot_apart v q (names v (and_left (marked mark (coro_in xs v)) _ h)) (and_right (marked mark (coro_in xs v)) _ h) (unnegate (among v q) (and_left (not (among v q)) _ d))))
      (slots_apart q (and_right (marked mark (coro_in xs v)) _ h) (and_right (not (among v q)) _ d))

  -- no more words in a queue than slots
  pub queue-few : (q : List ℕ) → Queue mark xs q → length q ≤ length xs
  queue-few q h =
      let k = few (length xs) (map slot_of q) (slots_apart q h.marks h.apart) (slots-inside q h.marks) in
      let l = length-map q slot_of in
      omega arith
