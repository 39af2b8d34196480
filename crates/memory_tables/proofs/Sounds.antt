-- Words that hold something: whose records encode to the words that they were read from, with zeros after them. Assumes nothing.
use Rattle.std.proofs.Common.{◌≡◌, ℕ, zero, suc, ◌+◌, ◌-◌, ◌*◌, ◌<◌, ◌≤◌, true, List, ◌++◌, length, take, drop, replicate, sym, refl, ap, ◌∙◌, ap₂, suc-mul, zero-mul, arith, length-drop, take-append-drop, length-take-le, take-add}
use Rattle.lists.specs.Chunks.{chunk_at}
use Rattle.lists.specs.Parts.{pad}
use Rattle.lists.specs.Tests.{zeros}
use Rattle.lists.proofs.Tests.{zeros-are}
use Rattle.memory_tables.specs.Parts.{Run, Piled, upward, piled}

-- the first n words with zeros after them are those words padded
padded : (ws xs : List ℕ) (n : ℕ) → n ≤ length ws → xs ≡ take n ws → zeros (drop n ws) ≡ true → ws ≡ pad (length ws) xs
padded ws xs n h e z =
    let l : length xs ≡ n = ap length e ∙ length-take-le n ws h in
    let k : length (drop n ws) ≡ length ws - length xs = length-drop n ws ∙ ap (λ i. length ws - i) (sym l) in
    sym (take-append-drop n ws) ∙ ap₂ (λ (a b : List ℕ). a ++ b) (sym e) (zeros-are (drop n ws) z ∙ ap (λ i. replicate i 0) k)

pub run-made : (ws : List ℕ) (n : ℕ) → n ≤ length ws → zeros (drop n ws) ≡ true → Run (take n ws) ws n
run-made ws n h z = record { are = padded ws (take n ws) n h refl z; count = sym (length-take-le n ws h); within = h }

module _ {A : Type 0} (enc : A → List ℕ) (w : ℕ) (dec : List ℕ → A) where
  pub length-piled : (n : ℕ) (ws : List ℕ) → length (piled w dec n ws) ≡ n
  length-piled zero ws = refl
  length-piled (suc n) ws = ap suc (length-piled n ws)

  pub piled-words : (n : ℕ) (ws : List ℕ) → ((i : ℕ) → i < n → enc (dec (chunk_at w ws i)) ≡ chunk_at w ws i) → upward enc (piled w dec n ws) ≡ take (n * w) ws
  piled-words zero ws valid = ap (λ i. take i ws) (sym (zero-mul w))
  piled-words (suc n) ws valid =
      ap₂ (λ (a b : List ℕ). a ++ b) (piled-words n ws (λ i h. valid i (omega arith))) (valid n (omega arith))
      ∙ sym (take-add (n * w) w ws) ∙ ap (λ i. take i ws) (sym (suc-mul n w))

  pub piled-made : (n : ℕ) (ws : List ℕ) → n * w ≤ length ws → ((i : ℕ) → i < n → enc (dec (chunk_at w ws i)) ≡ chunk_at w ws i) → zeros (drop (n * w) ws) ≡ true
      → Piled enc w (piled w dec n ws) ws n
  piled-made n ws h valid z =
      record { are = padded ws (upward enc (piled w dec n ws)) (n * w) h (piled-words n ws valid) z; count = sym (length-piled n ws); within = h }
