-- What passing the test of the table means, both ways. Assumes nothing.
use mathlib.Core.Path.{◌≡◌, refl, sym, ap, ap₂, ◌∙◌}
use mathlib.Core.Bool.{true, ◌&&◌}
use mathlib.Core.List.{List, [], ◌∷◌, ◌++◌}
use Prim.Native.Nat.{ℕ, zero, suc, ◌-◌, ◌*◌, ◌≤◌, ◌<◌}
use native.Mathlib.Omega.{arith}
use borrow.Author.Tests.{leb-true}
use lib.Dec.{leb}
use lib.ListN.{length, get_or, drop, replicate, length-drop}
use lib.Seq.{drop_at}
use Rattle.lists.specs.Pick.{pick}
use Rattle.lists.specs.Parts.{pad}
use Rattle.lists.specs.Chunks.{chunk_at, words}
use Rattle.lists.specs.Tests.{all_below, zeros}
use Rattle.lists.proofs.Tests.{never, and_left, and_right, holds_at, holds-all, zeros-are, are-zeros}
use Rattle.lists.proofs.Tables.{length-chunk, length-chunks, chunks-at, length-words, words-chunks, words-at, chunks-words}
use Rattle.heap.specs.Object.{code_of, state_of}
use Rattle.heap.specs.Table.{Slot, slot}
use Rattle.heap.specs.Slot.{width, flag, is_set, slot_words, slot_of_words}
use Rattle.heap.specs.Heap.{slots_of}
use Rattle.heap.specs.Ranges.{Range, unused, kinds, within, slot_ok, table_ok}
use Rattle.heap.specs.declared.object.Object.{Object}
use Rattle.heap.specs.declared.object.Object.TheVariants as O
use Rattle.heap.proofs.Slots.{slot-back, length-slot}

-- words within ranges, as facts
abbrev pub In : List Range → List ℕ → Type 0
In [] [] = Unit {0}
In [] (w ∷ ws) = ⊥
In (r ∷ rs) [] = ⊥
In (r ∷ rs) (w ∷ ws) = ((r.least ≤ w) × (w ≤ r.most)) × In rs ws

pub facts : (rs : List Range) (ws : List ℕ) → within rs ws ≡ true → In rs ws
facts [] [] e = tt
facts [] (w ∷ ws) e = never cc
facts (r ∷ rs) [] e = never cc
facts (r ∷ rs) (w ∷ ws) e =
    let h = and_left (leb r.least w && leb w r.most) (within rs ws) e in (
      (leb-true r.least w (and_left (leb r.least w) (leb w r.most) h), leb-true w r.most (and_right (leb r.least w) (leb w r.most) h)),
      facts rs ws (and_right (leb r.least w && leb w r.most) (within rs ws) e),
    )

-- words that are not used are 0
rest-zero : (n : ℕ) (ws : List ℕ) → In (unused n) ws → replicate n 0 ≡ ws
rest-zero zero [] h = refl
rest-zero zero (w ∷ ws) h = absurd h
rest-zero (suc n) [] h = absurd h
rest-zero (suc n) (w ∷ ws) h = let z : 0 ≡ w = omega (arith, h.0.1) in ap₂ (λ (x : ℕ) (xs : List ℕ). x ∷ xs) z (rest-zero n ws h.1)

-- a flag, and the code of a state, are given back
flag-back : (w : ℕ) → w ≤ 1 → flag (is_set w) ≡ w
flag-back zero h = refl
flag-back (suc zero) h = refl
flag-back (suc (suc w)) h = absurd (omega arith)

code-back : (w : ℕ) → w ≤ 5 → code_of (state_of w) ≡ w
unfolding pick
code-back zero h = refl
code-back (suc zero) h = refl
code-back (suc (suc zero)) h = refl
code-back (suc (suc (suc zero))) h = refl
code-back (suc (suc (suc (suc zero)))) h = refl
code-back (suc (suc (suc (suc (suc zero))))) h = refl
code-back (suc (suc (suc (suc (suc (suc w)))))) h = absurd (omega arith)

abbrev same : List ℕ → Type 0
same ws = slot_words (slot_of_words ws) ≡ ws

abbrev row : ℕ → List Range
row k = get_or kinds k []

-- ---- each kind: its words are those of the slot that they decode to

empty : (ws : List ℕ) → In (row 0) ws → same ws
unfolding pick
empty ws h = ap (λ (xs : List ℕ). slot_words (slot_of_words xs)) (sym (rest-zero 20 ws h)) ∙ rest-zero 20 ws h

func : (ws : List ℕ) → get_or ws 1 0 ≡ 1 → In (row 1) ws → same ws
unfolding pick
func [] e h = absurd h
func (t ∷ []) e h = absurd h.1
func (t ∷ k ∷ []) e h = absurd h.1.1
func (t ∷ k ∷ f ∷ ws) e h = rw (e, ← rest-zero 17 ws h.1.1.1)

int : (ws : List ℕ) → get_or ws 1 0 ≡ 2 → In (row 2) ws → same ws
unfolding pick
int [] e h = absurd h
int (t ∷ []) e h = absurd h.1
int (t ∷ k ∷ []) e h = absurd h.1.1
int (t ∷ k ∷ n ∷ ws) e h = rw (e, ← rest-zero 17 ws h.1.1.1)

iter : (ws : List ℕ) → get_or ws 1 0 ≡ 3 → In (row 3) ws → same ws
unfolding pick
iter [] e h = absurd h
iter (t ∷ []) e h = absurd h.1
iter (t ∷ k ∷ []) e h = absurd h.1.1
iter (t ∷ k ∷ s ∷ []) e h = absurd h.1.1.1
iter (t ∷ k ∷ s ∷ d ∷ ws) e h = rw (e, flag-back d h.1.1.1.0.1, ← rest-zero 16 ws h.1.1.1.1)

keyed : (ws : List ℕ) → get_or ws 1 0 ≡ 4 → In (row 4) ws → same ws
unfolding pick
keyed [] e h = absurd h
keyed (t ∷ []) e h = absurd h.1
keyed (t ∷ k ∷ []) e h = absurd h.1.1
keyed (t ∷ k ∷ s ∷ []) e h = absurd h.1.1.1
keyed (t ∷ k ∷ s ∷ d ∷ []) e h = absurd h.1.1.1.1
keyed (t ∷ k ∷ s ∷ d ∷ y ∷ ws) e h = rw (e, flag-back d h.1.1.1.0.1, ← rest-zero 15 ws h.1.1.1.1.1)

error : (ws : List ℕ) → get_or ws 1 0 ≡ 5 → In (row 5) ws → same ws
unfolding pick
error [] e h = absurd h
error (t ∷ []) e h = absurd h.1
error (t ∷ k ∷ []) e h = absurd h.1.1
error (t ∷ k ∷ n ∷ []) e h = absurd h.1.1.1
error (t ∷ k ∷ n ∷ f ∷ []) e h = absurd h.1.1.1.1
error (t ∷ k ∷ n ∷ f ∷ p ∷ []) e h = absurd h.1.1.1.1.1
error (t ∷ k ∷ n ∷ f ∷ p ∷ v ∷ ws) e h = rw (e, ← rest-zero 14 ws h.1.1.1.1.1.1)

coro : (ws : List ℕ) → get_or ws 1 0 ≡ 6 → In (row 6) ws → same ws
unfolding pick
coro [] e h = absurd h
coro (t ∷ []) e h = absurd h.1
coro (t ∷ k ∷ []) e h = absurd h.1.1
coro (t ∷ k ∷ s ∷ []) e h = absurd h.1.1.1
coro (t ∷ k ∷ s ∷ c ∷ []) e h = absurd h.1.1.1.1
coro (t ∷ k ∷ s ∷ c ∷ f ∷ []) e h = absurd h.1.1.1.1.1
coro (t ∷ k ∷ s ∷ c ∷ f ∷ a ∷ []) e h = absurd h.1.1.1.1.1.1
coro (t ∷ k ∷ s ∷ c ∷ f ∷ a ∷ q ∷ []) e h = absurd h.1.1.1.1.1.1.1
coro (t ∷ k ∷ s ∷ c ∷ f ∷ a ∷ q ∷ r ∷ []) e h = absurd h.1.1.1.1.1.1.1.1
coro (t ∷ k ∷ s ∷ c ∷ f ∷ a ∷ q ∷ r ∷ n ∷ []) e h = absurd h.1.1.1.1.1.1.1.1.1
coro (t ∷ k ∷ s ∷ c ∷ f ∷ a ∷ q ∷ r ∷ n ∷ m ∷ []) e h = absurd h.1.1.1.1.1.1.1.1.1.1
coro (t ∷ k ∷ s ∷ c ∷ f ∷ a ∷ q ∷ r ∷ n ∷ m ∷ x ∷ []) e h = absurd h.1.1.1.1.1.1.1.1.1.1.1
coro (t ∷ k ∷ s ∷ c ∷ f ∷ a ∷ q ∷ r ∷ n ∷ m ∷ x ∷ y ∷ []) e h = absurd h.1.1.1.1.1.1.1.1.1.1.1.1
coro (t ∷ k ∷ s ∷ c ∷ f ∷ a ∷ q ∷ r ∷ n ∷ m ∷ x ∷ y ∷ v ∷ []) e h = absurd h.1.1.1.1.1.1.1.1.1.1.1.1.1
coro (t ∷ k ∷ s ∷ c ∷ f ∷ a ∷ q ∷ r ∷ n ∷ m ∷ x ∷ y ∷ v ∷ p ∷ []) e h = absurd h.1.1.1.1.1.1.1.1.1.1.1.1.1.1
coro (t ∷ k ∷ s ∷ c ∷ f ∷ a ∷ q ∷ r ∷ n ∷ m ∷ x ∷ y ∷ v ∷ p ∷ j ∷ []) e h = absurd h.1.1.1.1.1.1.1.1.1.1.1.1.1.1.1
coro (t ∷ k ∷ s ∷ c ∷ f ∷ a ∷ q ∷ r ∷ n ∷ m ∷ x ∷ y ∷ v ∷ p ∷ j ∷ l ∷ []) e h = absurd h.1.1.1.1.1.1.1.1.1.1.1.1.1.1.1.1
coro (t ∷ k ∷ s ∷ c ∷ f ∷ a ∷ q ∷ r ∷ n ∷ m ∷ x ∷ y ∷ v ∷ p ∷ j ∷ l ∷ u ∷ []) e h = absurd h.1.1.1.1.1.1.1.1.1.1.1.1.1.1.1.1.1
coro (t ∷ k ∷ s ∷ c ∷ f ∷ a ∷ q ∷ r ∷ n ∷ m ∷ x ∷ y ∷ v ∷ p ∷ j ∷ l ∷ u ∷ g ∷ ws) e h =
    rw (e, code-back s h.1.1.0.1, flag-back c h.1.1.1.0.1, flag-back f h.1.1.1.1.0.1, flag-back a h.1.1.1.1.1.0.1, ← rest-zero 2 ws h.1.1.1.1.1.1.1.1.1.1.1.1.1.1.1.1.1.1)

-- ---- a slot

by_kind : (ws : List ℕ) (k : ℕ) → get_or ws 1 0 ≡ k → In (row k) ws → length ws ≡ 20 → same ws
by_kind ws zero e h n = empty ws h
by_kind ws (suc zero) e h n = func ws e h
by_kind ws (suc (suc zero)) e h n = int ws e h
by_kind ws (suc (suc (suc zero))) e h n = iter ws e h
by_kind ws (suc (suc (suc (suc zero)))) e h n = keyed ws e h
by_kind ws (suc (suc (suc (suc (suc zero))))) e h n = error ws e h
by_kind ws (suc (suc (suc (suc (suc (suc zero)))))) e h n = coro ws e h
by_kind [] (suc (suc (suc (suc (suc (suc (suc k))))))) e h n = absurd (omega arith)
by_kind (w ∷ ws) (suc (suc (suc (suc (suc (suc (suc k))))))) e h n = absurd h

-- words that pass are exactly the words of the slot that they decode to
pub slot_same : (ws : List ℕ) → length ws ≡ 20 → slot_ok ws ≡ true → slot_words (slot_of_words ws) ≡ ws
slot_same ws n e = by_kind ws (get_or ws 1 0) refl (facts (row (get_or ws 1 0)) ws e) n

-- ---- the table

module _ (n : ℕ) (ws : List ℕ) (room : n * 20 ≤ length ws) (ok : table_ok n ws ≡ true) where
  each : (i : ℕ) → i < n → slot_ok (chunk_at width ws i) ≡ true
  each i h = holds_at n i (λ j. slot_ok (chunk_at width ws j)) h (and_left (all_below n (λ j. slot_ok (chunk_at width ws j))) (zeros (drop (n * width) ws)) ok)

  slots-long : length (words slot_words (slots_of n ws)) ≡ n * 20
  slots-long = length-words width slot_words slot_of_words length-slot (slots_of n ws) ∙ ap (λ (k : ℕ). k * 20) (length-chunks width slot_of_words n ws)

  -- words that pass are exactly the words of their slots, with zeros to the end
  pub table-words : ws ≡ pad (length ws) (words slot_words (slots_of n ws))
  table-words =
      let rest : drop (n * 20) ws ≡ replicate (length ws - n * 20) 0 =
      zeros-are (drop (n * 20) ws) (and_right (all_below n (λ j. slot_ok (chunk_at width ws j))) (zeros (drop (n * width) ws)) ok)
      ∙ ap (λ (k : ℕ). replicate k 0) (length-drop (n * 20) ws) in
      sym (chunks-words width slot_words slot_of_words n ws room (λ i h. slot_same (chunk_at width ws i) (length-chunk width i ws (omega arith)) (each i h)))
      ∙ ap (λ (l : List ℕ). words slot_words (slots_of n ws) ++ l) (rest ∙ ap (λ (k : ℕ). replicate (length ws - k) 0) (sym slots-long))

  -- and each slot passes
  pub table-slots : (i : ℕ) → i < n → slot_ok (slot_words (get_or (slots_of n ws) i (slot 0 O.Empty))) ≡ true
  table-slots i h =
      rw (chunks-at width slot_of_words n i ws (slot 0 O.Empty) h, slot_same (chunk_at width ws i) (length-chunk width i ws (omega arith)) (each i h)) (each i h)

-- the words of slots that pass are a table that passes, and hold just those slots
module _ (xs : List (Slot Object)) (cap : ℕ) (ok : (i : ℕ) → i < length xs → slot_ok (slot_words (get_or xs i (slot 0 O.Empty))) ≡ true) where
  abbrev tail : List ℕ
  tail = replicate (cap - length (words slot_words xs)) 0

  pub words-slots : slots_of (length xs) (pad cap (words slot_words xs)) ≡ xs
  words-slots = words-chunks width slot_words slot_of_words length-slot slot-back xs tail

  pub words-table : table_ok (length xs) (pad cap (words slot_words xs)) ≡ true
  words-table =
      let l : length (words slot_words xs) ≡ length xs * 20 = length-words width slot_words slot_of_words length-slot xs in
      let all : all_below (length xs) (λ i. slot_ok (chunk_at width (words slot_words xs ++ tail) i)) ≡ true =
      holds-all (length xs) (λ i. slot_ok (chunk_at width (words slot_words xs ++ tail) i))
      (λ i h. ap slot_ok (words-at width slot_words slot_of_words length-slot xs tail i (slot 0 O.Empty) h) ∙ ok i h) in
      rw (all, drop_at (words slot_words xs) tail (length xs * 20) l) (are-zeros (cap - length (words slot_words xs)))
