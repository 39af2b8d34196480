-- What piled records and rows decode to: words hold one list of records at most. Assumes nothing.
use Rattle.std.proofs.Common.{◌≡◌, ℕ, suc, ◌+◌, ◌-◌, ◌*◌, ◌<◌, Bool, true, false, eqb, List, [], ◌∷◌, ◌++◌, length, get_or, replicate, sym, refl, ap, ◌∙◌, ap₂, append_assoc, arith, take_at, drop_at, eqb-true}
use borrow.Author.Tests.{eqb-false}
use Rattle.lists.specs.Chunks.{chunk_at}
use Rattle.lists.proofs.Tables.{chunk-get}
use Rattle.model.specs.declared.machine.Frame.{Frame}
use Rattle.model.specs.declared.machine.Active.{Active}
use Rattle.memory_tables.specs.Layout.{frame_words, frame_of, frame_in, active_words, active_of, active_in}
use Rattle.memory_tables.specs.Parts.{upward, Piled, piled, Frames, Chain}
use Rattle.memory_tables.proofs.Codes.{frame_back, length-frame, active-back, length-active}
use Rattle.memory_tables.proofs.Parts.{length-upward}

module _ {A : Type 0} (enc : A → List ℕ) (w : ℕ) (wide : (x : A) → length (enc x) ≡ w) where
  top-chunk : (x : A) (xs : List A) (rest : List ℕ) → chunk_at w ((upward enc xs ++ enc x) ++ rest) (length xs) ≡ enc x
  top-chunk x xs rest =
      rw (append_assoc (upward enc xs) (enc x) rest, drop_at (upward enc xs) (enc x ++ rest) (length xs * w) (length-upward enc w wide xs), take_at (enc x) rest w (wide x))

  chunk-step : (x : A) (xs : List A) (rest : List ℕ) (i : ℕ) (d : A) (b : Bool) → eqb i (length xs) ≡ b → i < length (x ∷ xs)
      → (i < length xs → chunk_at w (upward enc xs ++ (enc x ++ rest)) i ≡ enc (get_or xs (length xs - suc i) d))
      → chunk_at w ((upward enc xs ++ enc x) ++ rest) i ≡ enc (get_or (x ∷ xs) (length (x ∷ xs) - suc i) d)
  chunk-step x xs rest i d true t h next =
      let e : i ≡ length xs = eqb-true i (length xs) t in
      let z : length (x ∷ xs) - suc i ≡ 0 = omega arith in
      rw z (rw e (top-chunk x xs rest))
  chunk-step x xs rest i d false t h next =
      let e = eqb-false i (length xs) t in
      let z : length (x ∷ xs) - suc i ≡ suc (length xs - suc i) = omega arith in
      rw (z, append_assoc (upward enc xs) (enc x) rest) (next (omega arith))

  -- the words of the record at place i from the bottom
  pub upward-chunk : (xs : List A) (rest : List ℕ) (i : ℕ) (d : A) → i < length xs → chunk_at w (upward enc xs ++ rest) i ≡ enc (get_or xs (length xs - suc i) d)
  upward-chunk [] rest i d h = absurd (omega arith)
  upward-chunk (x ∷ xs) rest i d h = chunk-step x xs rest i d (eqb i (length xs)) refl h (λ g. upward-chunk xs (enc x ++ rest) i d g)

  pub piled-chunk : (xs : List A) (ws : List ℕ) (n i : ℕ) (d : A) → Piled enc w xs ws n → i < n → chunk_at w ws i ≡ enc (get_or xs (n - suc i) d)
  piled-chunk xs ws n i d p h =
      let c = p.count in
      ap (λ (z : List ℕ). chunk_at w z i) p.are ∙ upward-chunk xs (replicate (length ws - length (upward enc xs)) 0) i d (omega arith)
      ∙ ap (λ k. enc (get_or xs (k - suc i) d)) (sym c)

  -- a word of it
  pub piled-get : (xs : List A) (ws : List ℕ) (n i k : ℕ) (d : A) → Piled enc w xs ws n → i < n → k < w → get_or ws (i * w + k) 0 ≡ get_or (enc (get_or xs (n - suc i) d)) k 0
  piled-get xs ws n i k d p h l = sym (chunk-get w i k ws l) ∙ ap (λ (z : List ℕ). get_or z k 0) (piled-chunk xs ws n i d p h)

  module _ (dec : List ℕ → A) (decodes : (x : A) → dec (enc x) ≡ x) where
    pub piled-at : (xs : List A) (ws : List ℕ) (n i : ℕ) (d : A) → Piled enc w xs ws n → i < n → dec (chunk_at w ws i) ≡ get_or xs (n - suc i) d
    piled-at xs ws n i d p h = ap dec (piled-chunk xs ws n i d p h) ∙ decodes (get_or xs (n - suc i) d)

    pub upward-back : (xs : List A) (rest : List ℕ) → piled w dec (length xs) (upward enc xs ++ rest) ≡ xs
    upward-back [] rest = refl
    upward-back (x ∷ xs) rest =
        ap₂ (λ (y : A) (ys : List A). y ∷ ys) (ap dec (top-chunk x xs rest) ∙ decodes x)
        (ap (piled w dec (length xs)) (append_assoc (upward enc xs) (enc x) rest) ∙ upward-back xs (enc x ++ rest))

    -- what the words hold is what they decode to
    pub piled-back : (xs : List A) (ws : List ℕ) (n : ℕ) → Piled enc w xs ws n → piled w dec n ws ≡ xs
    piled-back xs ws n p =
        ap₂ (λ (k : ℕ) (z : List ℕ). piled w dec k z) p.count p.are ∙ upward-back xs (replicate (length ws - length (upward enc xs)) 0)

    pub piled-same : (xs ys : List A) (ws : List ℕ) (n : ℕ) → Piled enc w xs ws n → Piled enc w ys ws n → xs ≡ ys
    piled-same xs ys ws n p q = sym (piled-back xs ws n p) ∙ piled-back ys ws n q

-- ---- at frames and at active coroutines

pub frame_at : (fs : List Frame) (ws : List ℕ) (n i : ℕ) (d : Frame) → Frames fs ws n → i < n → frame_in ws i ≡ get_or fs (n - suc i) d
frame_at fs ws n i d p h = piled-at frame_words 6 length-frame frame_of frame_back fs ws n i d p h

pub top_frame : (f : Frame) (fs : List Frame) (ws : List ℕ) (n : ℕ) → Frames (f ∷ fs) ws n → frame_in ws (n - 1) ≡ f
top_frame f fs ws n p =
    let c = p.count in
    let e : n - suc (n - 1) ≡ 0 = omega arith in
    frame_at (f ∷ fs) ws n (n - 1) f p (omega arith) ∙ ap (λ i. get_or (f ∷ fs) i f) e

pub base-at : (fs : List Frame) (ws : List ℕ) (n i : ℕ) (d : Frame) → Frames fs ws n → i < n → get_or ws (i * 6 + 2) 0 ≡ (get_or fs (n - suc i) d).base
base-at fs ws n i d p h = piled-get frame_words 6 length-frame fs ws n i 2 d p h (omega arith)

pub frames-back : (fs : List Frame) (ws : List ℕ) (n : ℕ) → Frames fs ws n → piled 6 frame_of n ws ≡ fs
frames-back fs ws n p = piled-back frame_words 6 length-frame frame_of frame_back fs ws n p

pub active-at : (cs : List Active) (ws : List ℕ) (n i : ℕ) (d : Active) → Chain cs ws n → i < n → active_in ws i ≡ get_or cs (n - suc i) d
active-at cs ws n i d p h = piled-at active_words 6 length-active active_of active-back cs ws n i d p h

pub top-active : (a : Active) (cs : List Active) (ws : List ℕ) (n : ℕ) → Chain (a ∷ cs) ws n → active_in ws (n - 1) ≡ a
top-active a cs ws n p =
    let c = p.count in
    let e : n - suc (n - 1) ≡ 0 = omega arith in
    active-at (a ∷ cs) ws n (n - 1) a p (omega arith) ∙ ap (λ i. get_or (a ∷ cs) i a) e

pub chain_back : (cs : List Active) (ws : List ℕ) (n : ℕ) → Chain cs ws n → piled 6 active_of n ws ≡ cs
chain_back cs ws n p = piled-back active_words 6 length-active active_of active-back cs ws n p
