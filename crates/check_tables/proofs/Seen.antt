-- A list read from its end, with the set of what has been read. Assumes nothing.
use mathlib.Core.Path.{◌≡◌, refl, ap, sym, ◌∙◌}
use mathlib.Core.Bool.{Bool, true, false, not, ◌||◌}
use mathlib.Core.List.{List, [], ◌∷◌, map}
use Prim.Native.Nat.{ℕ, zero, suc, ◌-◌, ◌≤◌, ◌<◌}
use native.Mathlib.Omega.{arith}
use lib.Dec.{eqb}
use lib.ListN.{length, get_or, drop, take, drop_of_length-le, length-map, get_or-map}
use lib.Seq.{drop-cons, length-take-le, get_or-take}
use borrow.Author.Tests.{eq-eqb, ne_eqb, eqb-true, eqb-false}
use Rattle.heap.specs.Word.{slot_of}
use Rattle.model.specs.Lists.{among, distinct}
use Rattle.lists.proofs.Tests.{and-false}

-- the first n words of a queue, each known by its slot
pub record QueueFits (q : List ℕ) (n : ℕ) : Type 0 where
  pub within : n ≤ length q
  pub word_of : ℕ → ℕ
  pub told : (k : ℕ) → k < n → get_or q k 0 ≡ word_of (slot_of (get_or q k 0))

-- t tells what stands from i on, and nothing stands there twice
pub record Seen (ts : List ℕ) (n : ℕ) (t : ℕ → Bool) (i : ℕ) : Type 0 where
  pub within : i ≤ n
  pub holds : (x : ℕ) → t x ≡ among x (drop i ts)
  pub fine : distinct (drop i ts) ≡ true

of-drop : (k : ℕ) (ts : List ℕ) → distinct (drop k ts) ≡ false → distinct ts ≡ false
of-drop zero ts e = e
of-drop (suc k) [] e = e
of-drop (suc k) (x ∷ ts) e = rw (of-drop k ts e) (and-false (not (among x ts)))

module _ (ts : List ℕ) (n : ℕ) (len : length ts ≡ n) where
  nothing : drop n ts ≡ []
  nothing = drop_of_length-le ts {i = n} (omega arith)

  pub begin : (t : ℕ → Bool) → ((x : ℕ) → t x ≡ false) → Seen ts n t n
  begin t e = record { within = omega arith; holds = λ x. rw nothing (e x); fine = rw nothing }

  module _ (t : ℕ → Bool) (i x : ℕ) (s : Seen ts n t i) (more : 0 < i) (is : get_or ts (i - 1) 0 ≡ x) where
    down : drop (i - 1) ts ≡ x ∷ drop i ts
    down = let h : i - 1 < length ts = omega arith in let e : suc (i - 1) ≡ i = omega arith in
        drop-cons ts (i - 1) 0 h ∙ (ap (λ (y : ℕ). y ∷ drop (suc (i - 1)) ts) is ∙ ap (λ (k : ℕ). x ∷ drop k ts) e)

    pub next : (t' : ℕ → Bool) → t x ≡ false → ((y : ℕ) → t' y ≡ eqb y x || t y) → Seen ts n t' (i - 1)
    next t' new e = record {
      within = omega arith;
      holds = λ y. rw (down, e y, s.holds y);
      fine = rw (down, ← s.holds x, new, s.fine);
    }

    twice : t x ≡ true → distinct (drop (i - 1) ts) ≡ false
    twice e = rw (down, ← s.holds x, e)

    pub found : t x ≡ true → false ≡ distinct ts
    found e = sym (of-drop (i - 1) ts (twice e))

-- all has been read
pub end : (ts : List ℕ) (n : ℕ) (t : ℕ → Bool) (i : ℕ) → Seen ts n t i → i ≤ 0 → true ≡ distinct ts
end ts n t zero s h = sym s.fine
end ts n t (suc i) s h = absurd (omega arith)

-- the slots of the first n words
pub slots_length : (q : List ℕ) (n : ℕ) → n ≤ length q → length (map slot_of (take n q)) ≡ n
slots_length q n h = length-map (take n q) slot_of ∙ length-take-le n q h

pub slots_at : (q : List ℕ) (n i : ℕ) → i < n → get_or (map slot_of (take n q)) i 0 ≡ slot_of (get_or q i 0)
slots_at q n i h = get_or-map slot_of (take n q) i 0 ∙ ap slot_of (get_or-take n q i 0 h)

-- words that their slots tell apart are distinct where the slots are
module _ (word_of : ℕ → ℕ) where
  abbrev pub Told : List ℕ → Type 0
  Told xs = (k : ℕ) → k < length xs → get_or xs k 0 ≡ word_of (slot_of (get_or xs k 0))

  same-slot : (x y : ℕ) → x ≡ word_of (slot_of x) → y ≡ word_of (slot_of y) → eqb (slot_of x) (slot_of y) ≡ eqb x y
  same-slot x y p q = go (eqb x y) refl where
    go : (b : Bool) → eqb x y ≡ b → eqb (slot_of x) (slot_of y) ≡ eqb x y
    go true e = rw (e, eq-eqb (slot_of x) (slot_of y) (ap slot_of (eqb-true x y e)))
    go false e = rw (e, ne_eqb (slot_of x) (slot_of y) (λ s. eqb-false x y e (p ∙ (ap word_of s ∙ sym q))))

  tail : (x : ℕ) (xs : List ℕ) → Told (x ∷ xs) → Told xs
  tail x xs t k h = t (suc k) (omega arith)

  pub among-slots : (x : ℕ) (xs : List ℕ) → x ≡ word_of (slot_of x) → Told xs → among (slot_of x) (map slot_of xs) ≡ among x xs
  among-slots x [] p t = refl
  among-slots x (y ∷ xs) p t = rw (same-slot x y p (t 0 (omega arith)), among-slots x xs p (tail y xs t))

  distinct-slots : (xs : List ℕ) → Told xs → distinct (map slot_of xs) ≡ distinct xs
  distinct-slots [] t = refl
  distinct-slots (x ∷ xs) t = rw (among-slots x xs (t 0 (omega arith)) (tail x xs t), distinct-slots xs (tail x xs t))

pub queue-words : (q : List ℕ) (n : ℕ) → QueueFits q n → distinct (map slot_of (take n q)) ≡ distinct (take n q)
queue-words q n f = distinct-slots f.word_of (take n q) (λ k h. let l : k < n = omega (arith, length-take-le n q f.within) in rw (get_or-take n q k 0 l) (f.told k l))
