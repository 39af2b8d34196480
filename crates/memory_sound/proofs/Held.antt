-- Words that are those of what they decode to, with zeros after them: tables of the parts. Assumes nothing.
use mathlib.Core.Path.{◌≡◌, refl, sym, ap, ap₂, ◌∙◌, subst}
use mathlib.Core.Bool.{Bool, true, ◌&&◌}
use mathlib.Core.List.{List, [], ◌∷◌, ◌++◌}
use Prim.Native.Nat.{ℕ, zero, suc, ◌+◌, ◌-◌, ◌*◌, ◌≤◌, ◌<◌}
use native.Mathlib.Omega.{arith}
use native.Mathlib.Nat.{suc-mul, zero-mul}
use borrow.Author.Tests.{eqb-true, eq-eqb}
use lib.Dec.{eqb}
use lib.ListN.{length, get_or, take, drop, replicate, length-drop, take-append-drop}
use lib.Seq.{length-take-le, take-add, drop-drop, drop_at, take-append-le, drop-append-le}
use Rattle.lists.specs.Chunks.{chunk_at, words}
use Rattle.lists.specs.Parts.{part, pad}
use Rattle.lists.specs.Tests.{zeros}
use Rattle.lists.proofs.Tests.{and_left, and_right, holds_at, holds-all, zeros-are, are-zeros}
use Rattle.lists.proofs.Tables.{length-chunks, length-words, chunks-words, words-at}
use Rattle.heap.specs.Table.{Slot, slot}
use Rattle.heap.specs.Slot.{width, slot_words, slot_of_words}
use Rattle.heap.specs.Heap.{slots_of}
use Rattle.heap.specs.declared.object.Object as H
use Rattle.heap.proofs.Slots.{slot-back, length-slot}
use Rattle.claims_sound.proofs.Tests.{no_false, both}
use Rattle.memory_tables.specs.Parts.{Run, Piled, upward, piled, in_row, Rows}
use Rattle.memory_tables.proofs.Parts.{length-upward}
use Rattle.memory_tables.proofs.Decode.{piled-chunk}
use Rattle.memory_tables.proofs.Rowed.{in_row-pad, length-in_row, rows_of}
use Rattle.memory_world.specs.Memory.{Slots, tabled}
use Rattle.memory_world.proofs.Tables.{slot-words, length-tabled, rows_at}
use Rattle.memory_sound.specs.Words.{same, coded, rest_ok}

-- ---- the same words

pub same_true : (xs ys : List ℕ) → same xs ys ≡ true → xs ≡ ys
same_true [] [] e = refl
same_true [] (y ∷ ys) e = no_false e
same_true (x ∷ xs) [] e = no_false e
same_true (x ∷ xs) (y ∷ ys) e =
    ap₂ (λ (a : ℕ) (as' : List ℕ). a ∷ as') (eqb-true x y (and_left (eqb x y) (same xs ys) e)) (same_true xs ys (and_right (eqb x y) (same xs ys) e))

same_refl : (xs : List ℕ) → same xs xs ≡ true
same_refl [] = refl
same_refl (x ∷ xs) = both (eq-eqb x x refl) (same_refl xs)

pub true_same : (xs ys : List ℕ) → xs ≡ ys → same xs ys ≡ true
true_same xs ys e = subst (λ (z : List ℕ). same xs z ≡ true) e (same_refl xs)

-- ---- zeros after the first n words

pub rest-padded : (ws : List ℕ) (n : ℕ) → n ≤ length ws → rest_ok ws n ≡ true → ws ≡ pad (length ws) (take n ws)
rest-padded ws n h e =
    sym (take-append-drop n ws)
    ∙ ap (λ (z : List ℕ). take n ws ++ z)
    (zeros-are (drop n ws) e ∙ ap (λ k. replicate k 0) (length-drop n ws) ∙ ap (λ k. replicate (length ws - k) 0) (sym (length-take-le n ws h)))

pub padded-rest : (cap n : ℕ) (xs : List ℕ) → length xs ≡ n → rest_ok (pad cap xs) n ≡ true
padded-rest cap n xs e = ap zeros (drop_at xs (replicate (cap - length xs) 0) n e) ∙ are-zeros (cap - length xs)

-- ---- runs

pub run-held : (ws : List ℕ) (n : ℕ) → n ≤ length ws → rest_ok ws n ≡ true → Run (take n ws) ws n
run-held ws n h e = record { are = rest-padded ws n h e; count = sym (length-take-le n ws h); within = h }

pub held-run : (xs ws : List ℕ) (n : ℕ) → Run xs ws n → rest_ok ws n ≡ true
held-run xs ws n r = ap (λ (z : List ℕ). rest_ok z n) r.are ∙ padded-rest (length ws) n xs (sym r.count)

-- ---- piled records

module _ {A : Type 0} (w : ℕ) (enc : A → List ℕ) (dec : List ℕ → A) where
  pub length-piled : (n : ℕ) (ws : List ℕ) → length (piled w dec n ws) ≡ n
  length-piled zero ws = refl
  length-piled (suc n) ws = ap suc (length-piled n ws)

  piled-words : (n : ℕ) (ws : List ℕ) → ((i : ℕ) → i < n → enc (dec (chunk_at w ws i)) ≡ chunk_at w ws i) → upward enc (piled w dec n ws) ≡ take (n * w) ws
  piled-words zero ws h = rw zero-mul
  piled-words (suc n) ws h =
      ap₂ (λ (a b : List ℕ). a ++ b) (piled-words n ws (λ i g. h i (omega arith))) (h n (omega arith))
      ∙ sym (take-add (n * w) w ws) ∙ ap (λ k. take k ws) (sym (suc-mul n w))

  pub piled-held : (n : ℕ) (ws : List ℕ) → n * w ≤ length ws → (coded w enc dec n ws && rest_ok ws (n * w)) ≡ true → Piled enc w (piled w dec n ws) ws n
  piled-held n ws h e =
      let c = and_left (coded w enc dec n ws) (rest_ok ws (n * w)) e in
      record {
        are =
            rest-padded ws (n * w) h (and_right (coded w enc dec n ws) (rest_ok ws (n * w)) e)
            ∙ ap (pad (length ws)) (sym (piled-words n ws (λ i g. same_true (enc (dec (chunk_at w ws i))) (chunk_at w ws i) (holds_at n i (λ j. same (enc (dec (chunk_at w ws j))) (chunk_at w ws j)) g c))));
        count = sym (length-piled n ws);
        within = h;
      }

  module _ (wide : (x : A) → length (enc x) ≡ w) (decodes : (x : A) → dec (enc x) ≡ x) where
    -- a record's words are its own
    pub again : (c : List ℕ) (x : A) → c ≡ enc x → same (enc (dec c)) c ≡ true
    again c x e = true_same (enc (dec c)) c (ap (λ (z : List ℕ). enc (dec z)) e ∙ ap enc (decodes x) ∙ sym e)

    pub held-piled : (xs : List A) (ws : List ℕ) (n : ℕ) → Piled enc w xs ws n → (coded w enc dec n ws && rest_ok ws (n * w)) ≡ true
    held-piled xs ws n p =
        both
        (holds-all n (λ i. same (enc (dec (chunk_at w ws i))) (chunk_at w ws i)) (λ i h. again (chunk_at w ws i) _ (piled-chunk enc w wide xs ws n i (dec []) p h)))
        (ap (λ (z : List ℕ). rest_ok z (n * w)) p.are ∙ padded-rest (length ws) (n * w) (upward enc xs) (length-upward enc w wide xs ∙ ap (λ k. k * w) (sym p.count)))

  -- records in the first k words
  chunk-take : (i k : ℕ) (ws : List ℕ) → k ≤ length ws → i * w + w ≤ k → chunk_at w (take k ws) i ≡ chunk_at w ws i
  chunk-take i k ws h g =
      let l : length (take k ws) ≡ k = length-take-le k ws h in
      let d : length (drop (i * w) (take k ws)) ≡ k - i * w = length-drop (i * w) (take k ws) ∙ ap (λ n. n - i * w) l in
      sym (take-append-le w (drop (i * w) (take k ws)) (drop k ws) (omega arith))
      ∙ ap (take w) (sym (drop-append-le (i * w) (take k ws) (drop k ws) (omega arith)) ∙ ap (drop (i * w)) (take-append-drop k ws))

  pub piled-take : (n k : ℕ) (ws : List ℕ) → k ≤ length ws → n * w ≤ k → piled w dec n (take k ws) ≡ piled w dec n ws
  piled-take zero k ws h g = refl
  piled-take (suc n) k ws h g =
      let m : n * w + w ≤ k = omega (arith, suc-mul n w) in
      ap₂ (λ (x : A) (xs : List A). x ∷ xs) (ap dec (chunk-take n k ws h m)) (piled-take n k ws h (omega arith))

-- ---- slots

pub slots-held : (n : ℕ) (ws : List ℕ) → n * width ≤ length ws → (coded width slot_words slot_of_words n ws && rest_ok ws (n * width)) ≡ true → Slots (slots_of n ws) ws n
slots-held n ws h e =
    let t : ℕ → Bool = λ j. same (slot_words (slot_of_words (chunk_at width ws j))) (chunk_at width ws j) in
    let c = and_left (coded width slot_words slot_of_words n ws) (rest_ok ws (n * width)) e in
    let z = and_right (coded width slot_words slot_of_words n ws) (rest_ok ws (n * width)) e in
    let long : length (words slot_words (slots_of n ws)) ≡ n * width =
    length-words width slot_words slot_of_words length-slot (slots_of n ws) ∙ ap (λ k. k * width) (length-chunks width slot_of_words n ws) in
    record {
      are =
          sym (chunks-words width slot_words slot_of_words n ws h (λ i g. same_true (slot_words (slot_of_words (chunk_at width ws i))) (chunk_at width ws i) (holds_at n i t g c)))
          ∙ ap (λ (l : List ℕ). words slot_words (slots_of n ws) ++ l)
          (zeros-are (drop (n * width) ws) z ∙ ap (λ k. replicate k 0) (length-drop (n * width) ws) ∙ ap (λ k. replicate (length ws - k) 0) (sym long));
      count = sym (length-chunks width slot_of_words n ws);
      within = h;
    }

pub held-slots : (xs : List (Slot H.Object)) (ws : List ℕ) (n : ℕ) → Slots xs ws n → (coded width slot_words slot_of_words n ws && rest_ok ws (n * width)) ≡ true
held-slots xs ws n s =
    let t : ℕ → Bool = λ j. same (slot_words (slot_of_words (chunk_at width ws j))) (chunk_at width ws j) in
    both
    (holds-all n t
    (λ i h. again width slot_words slot_of_words length-slot slot-back (chunk_at width ws i) (get_or xs i (slot 0 H.Object.Empty)) (slot-words xs ws n i s h)))
    (ap (λ (z : List ℕ). rest_ok z (n * width)) s.are
    ∙ padded-rest (length ws) (n * width) (words slot_words xs) (length-words width slot_words slot_of_words length-slot xs ∙ ap (λ k. k * width) (sym s.count)))

-- ---- rows

-- a row's words are those that it holds, and zeros
pub row-exact : (w : ℕ) (c xs : List ℕ) → length c ≡ w → length xs ≤ w → c ≡ pad (length c) xs → in_row w xs ≡ c
row-exact w c xs l h e = in_row-pad w xs h ∙ ap (λ n. pad n xs) (sym l) ∙ sym e

-- records that are read from their places, in order
module _ {A : Type 0} (enc : A → List ℕ) (w : ℕ) (f : ℕ → A) (ws : List ℕ) where
  pub tabled-words : (i n : ℕ) → ((j : ℕ) → j < i + n → enc (f j) ≡ chunk_at w ws j) → words enc (tabled f i n) ≡ part (i * w) (n * w) ws
  tabled-words i zero h = rw zero-mul
  tabled-words i (suc n) h =
      ap₂ (λ (a b : List ℕ). a ++ b) (h i (omega arith)) (tabled-words (suc i) n (λ j g. h j (omega arith)))
      ∙ ap (λ (z : List ℕ). chunk_at w ws i ++ take (n * w) z) (ap (λ k. drop k ws) (suc-mul i w) ∙ sym (drop-drop w (i * w) ws))
      ∙ sym (take-add w (n * w) (drop (i * w) ws)) ∙ ap (λ k. take k (drop (i * w) ws)) (let e : w + n * w ≡ suc n * w = omega (arith, suc-mul n w) in e)

  pub tabled-all : (n : ℕ) → ((j : ℕ) → j < n → enc (f j) ≡ chunk_at w ws j) → words enc (tabled f 0 n) ≡ take (n * w) ws
  tabled-all n h = tabled-words 0 n (λ j g. h j (omega arith)) ∙ ap (λ k. part k (n * w) ws) (zero-mul w)

module _ {A : Type 0} (enc : A → List ℕ) (w : ℕ) (f : ℕ → A) (ws : List ℕ) where
  pub rows-held : (n : ℕ) → n * w ≤ length ws → ((j : ℕ) → j < n → in_row w (enc (f j)) ≡ chunk_at w ws j) → rest_ok ws (n * w) ≡ true → Rows enc w (tabled f 0 n) ws
  rows-held n h row e =
      let all : words (λ x. in_row w (enc x)) (tabled f 0 n) ≡ take (n * w) ws = tabled-all (λ x. in_row w (enc x)) w f ws n row in
      rows_of enc w (length ws) (tabled f 0 n) ws (f 0) (rest-padded ws (n * w) h e ∙ ap (pad (length ws)) (sym all))
      (subst (λ k. k * w ≤ length ws) (sym (length-tabled f 0 n)) h)

  -- the words of a row, and those after the rows
  pub row-chunk : (n j : ℕ) → j < n → Rows enc w (tabled f 0 n) ws → chunk_at w ws j ≡ in_row w (enc (f j))
  row-chunk n j h r =
      ap (λ (z : List ℕ). chunk_at w z j) r.are
      ∙ words-at w (λ x. in_row w (enc x)) (λ z. f 0) (λ x. length-in_row w (enc x)) (tabled f 0 n) (replicate (length ws - length (words (λ x. in_row w (enc x)) (tabled f 0 n))) 0) j (f 0)
      (subst (λ k. j < k) (sym (length-tabled f 0 n)) h)
      ∙ ap (λ x. in_row w (enc x)) (rows_at f n j (f 0) h)

  pub rows-rest : (n : ℕ) → Rows enc w (tabled f 0 n) ws → rest_ok ws (n * w) ≡ true
  rows-rest n r =
      ap (λ (z : List ℕ). rest_ok z (n * w)) r.are
      ∙ padded-rest (length ws) (n * w) (words (λ x. in_row w (enc x)) (tabled f 0 n))
      (length-words w (λ x. in_row w (enc x)) (λ z. f 0) (λ x. length-in_row w (enc x)) (tabled f 0 n) ∙ ap (λ k. k * w) (length-tabled f 0 n))
