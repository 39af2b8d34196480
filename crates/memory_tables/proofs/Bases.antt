-- Bases of piled frames changed in words. Assumes nothing.
use Rattle.std.proofs.Common.{◌≡◌, ℕ, ◌+◌, ◌-◌, ◌*◌, List, [], ◌∷◌, ◌++◌, map, length, get_or, set, sym, refl, ap, ◌∙◌, ap₂, append_assoc, add-zero, length-append, get_or-append-add}
use native.Mathlib.Nat.{sub-zero}
use lib.ListN.{length-map}
use Rattle.model.specs.Frames.{set_base, raise, lower}
use Rattle.model.specs.declared.machine.Frame.{Frame}
use Rattle.memory_tables.specs.Layout.{frame_words}
use Rattle.memory_tables.specs.Runs.{rebase, between}
use Rattle.memory_tables.specs.Parts.{upward}
use Rattle.memory_tables.proofs.Codes.{length-frame}
use Rattle.memory_tables.proofs.Padded.{set-append-add}
use Rattle.memory_tables.proofs.Parts.{length-upward}

abbrev pub move_base : (ℕ → ℕ) → Frame → Frame
move_base g f = set_base (g f.base) f

pub moved-raise : (h : ℕ) (fs : List Frame) → map (move_base (between 0 h)) fs ≡ map (raise h) fs
moved-raise h [] = refl
moved-raise h (f ∷ fs) = rw (sub-zero f.base, moved-raise h fs)

pub moved-lower : (h : ℕ) (fs : List Frame) → map (move_base (between h 0)) fs ≡ map (lower h) fs
moved-lower h [] = refl
moved-lower h (f ∷ fs) = rw (add-zero (f.base - h), moved-lower h fs)

module _ (g : ℕ → ℕ) (pre : List ℕ) where
  place : (fs : List Frame) → length (pre ++ upward frame_words fs) ≡ length pre + length fs * 6
  place fs = length-append pre (upward frame_words fs) ∙ ap (λ n. length pre + n) (length-upward frame_words 6 length-frame fs)

  pub rebase-upward : (fs : List Frame) (rest : List ℕ)
      → rebase g (length fs) (length pre) (pre ++ (upward frame_words fs ++ rest)) ≡ pre ++ (upward frame_words (map (move_base g) fs) ++ rest)
  rebase-upward [] rest = refl
  rebase-upward (f ∷ fs) rest =
      let U : List ℕ = upward frame_words fs in
      let W : List ℕ = upward frame_words (map (move_base g) fs) in
      let X : List ℕ = pre ++ ((U ++ frame_words f) ++ rest) in
      let lu : length (pre ++ U) ≡ length pre + length fs * 6 = place fs in
      let lv : length (pre ++ W) ≡ length pre + length fs * 6 = place (map (move_base g) fs) ∙ ap (λ n. length pre + n * 6) (length-map fs (move_base g)) in
      let shown : X ≡ pre ++ (U ++ (frame_words f ++ rest)) = ap (λ (z : List ℕ). pre ++ z) (append_assoc U (frame_words f) rest) in
      let got : get_or X (length pre + length fs * 6 + 2) 0 ≡ f.base =
      ap₂ (λ (z : List ℕ) (n : ℕ). get_or z (n + 2) 0) (shown ∙ sym (append_assoc pre U (frame_words f ++ rest))) (sym lu)
      ∙ get_or-append-add (pre ++ U) (frame_words f ++ rest) 2 0 in
      let done : rebase g (length fs) (length pre) X ≡ (pre ++ W) ++ (frame_words f ++ rest) =
      ap (rebase g (length fs) (length pre)) shown ∙ rebase-upward fs (frame_words f ++ rest) ∙ sym (append_assoc pre W (frame_words f ++ rest)) in
      ap₂ (λ (z : List ℕ) (v : ℕ). set z (length pre + length fs * 6 + 2) (g v)) done got
      ∙ ap (λ n. set ((pre ++ W) ++ (frame_words f ++ rest)) (n + 2) (g f.base)) (sym lv)
      ∙ set-append-add (pre ++ W) (frame_words f ++ rest) 2 (g f.base)
      ∙ append_assoc pre W (frame_words (move_base g f) ++ rest)
      ∙ ap (λ (z : List ℕ). pre ++ z) (sym (append_assoc W (frame_words (move_base g f)) rest))
