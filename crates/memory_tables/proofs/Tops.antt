-- Words of the frames, one by one; piled records emptied. Assumes nothing.
use Rattle.std.proofs.Common.{◌≡◌, ℕ, suc, ◌+◌, ◌-◌, ◌*◌, ◌<◌, List, [], ◌∷◌, length, get_or, replicate, sym, refl, ap, ◌∙◌, ap₂, add-zero, arith}
use Rattle.lists.specs.Parts.{splice}
use Rattle.model.specs.declared.machine.Frame.{Frame}
use Rattle.memory_tables.specs.Layout.{cont_of, frame_words, func_in, pc_in, base_in, cont_in}
use Rattle.memory_tables.specs.Parts.{Piled, Frames, upward}
use Rattle.memory_tables.proofs.Codes.{cont-back, length-frame}
use Rattle.memory_tables.proofs.Padded.{pad-pop}
use Rattle.memory_tables.proofs.Parts.{length-upward, piled-of, top-get}
use Rattle.memory_tables.proofs.Decode.{piled-get}

-- ---- the frame at place i from the bottom

module _ (fs : List Frame) (ws : List ℕ) (n i : ℕ) (d : Frame) (p : Frames fs ws n) (h : i < n) where
  word : (k : ℕ) → k < 6 → get_or ws (i * 6 + k) 0 ≡ get_or (frame_words (get_or fs (n - suc i) d)) k 0
  word k l = piled-get frame_words 6 length-frame fs ws n i k d p h l

  pub func-at : func_in ws i ≡ (get_or fs (n - suc i) d).func
  func-at = ap (λ k. get_or ws k 0) (sym (add-zero (i * 6))) ∙ word 0 (omega arith)

  pub pc-at : pc_in ws i ≡ (get_or fs (n - suc i) d).pc
  pc-at = word 1 (omega arith)

  pub cont-at : cont_in ws i ≡ (get_or fs (n - suc i) d).cont
  cont-at = ap₂ cont_of (word 4 (omega arith)) (word 5 (omega arith)) ∙ cont-back (get_or fs (n - suc i) d).cont

-- ---- the top frame

module _ (f : Frame) (fs : List Frame) (ws : List ℕ) (n : ℕ) (p : Frames (f ∷ fs) ws n) where
  top : (k : ℕ) → k < 6 → get_or ws ((n - 1) * 6 + k) 0 ≡ get_or (frame_words f) k 0
  top = top-get frame_words 6 length-frame f fs ws n p

  pub top-func : func_in ws (n - 1) ≡ f.func
  top-func = ap (λ k. get_or ws k 0) (sym (add-zero ((n - 1) * 6))) ∙ top 0 (omega arith)

  pub top-pc : pc_in ws (n - 1) ≡ f.pc
  top-pc = top 1 (omega arith)

  pub top-base : base_in ws (n - 1) ≡ f.base
  top-base = top 2 (omega arith)

  pub top-cont : cont_in ws (n - 1) ≡ f.cont
  top-cont = ap₂ cont_of (top 4 (omega arith)) (top 5 (omega arith)) ∙ cont-back f.cont

-- ---- all records go

pub clears : {A : Type 0} (enc : A → List ℕ) (wide : (x : A) → length (enc x) ≡ 6) (ws ws' : List ℕ) (n : ℕ) → ws' ≡ splice ws 0 (replicate (n * 6) 0)
    → (xs : List A) → Piled enc 6 xs ws n → Piled enc 6 [] ws' 0
clears enc wide ws ws' n e xs p =
    let c = p.count in
    let w = p.within in
    let l : length (upward enc xs) ≡ n * 6 = length-upward enc 6 wide xs ∙ ap (λ k. k * 6) (sym c) in
    piled-of enc 6 wide (length ws) [] ws' 0
    (e ∙ ap₂ (λ (z : List ℕ) (k : ℕ). splice z 0 (replicate k 0)) p.are (sym l) ∙ pad-pop (length ws) [] (upward enc xs) (omega arith))
    refl (omega arith)
