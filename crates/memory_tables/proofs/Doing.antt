-- What the functions of the parts do to the lists that the words hold. Assumes nothing.
use Rattle.std.proofs.Common.{◌≡◌, ℕ, ◌+◌, ◌-◌, ◌*◌, ◌%◌, ◌^◌, ◌<◌, ◌≤◌, List, [], ◌∷◌, ◌++◌, length, get_or, take, drop, set, replicate, sym, refl, ap, ◌∙◌, subst, arith}
use lib.ListN.{length-replicate}
use Rattle.lists.specs.Parts.{splice}
use Rattle.model.specs.Frames.{on_top, set_pc, step_pc, top_base}
use Rattle.model.specs.declared.machine.Frame.{Frame}
use Rattle.memory_tables.specs.Layout.{frame_words, base_in}
use Rattle.memory_tables.specs.Parts.{Stack, Queue, Piled, Frames}
use Rattle.memory_tables.specs.Does.{FramesDo, StackDo, QueueDo, RegFits, Puts, Gets}
use Rattle.memory_tables.proofs.Codes.{length-frame}
use Rattle.memory_tables.proofs.Padded.{length_part, back, cleared, sets-splice}
use Rattle.memory_tables.proofs.Parts.{run-get, run-set, run-push, run-cut, piled-push, piled-pop, top-get, top_set}

-- ---- the top frame's pc

pub stores : (ws : List ℕ) (n pc : ℕ) → 1 ≤ n → FramesDo (on_top (set_pc pc)) ws (set ws ((n - 1) * 6 + 1) pc) n n
stores ws n pc h [] p = absurd (let e = p.count in omega arith)
stores ws n pc h (f ∷ fs) p = top_set frame_words 6 length-frame f fs ws n p 1 pc (set_pc pc f) (omega arith) refl

pub steps : (ws : List ℕ) (n v : ℕ) → 1 ≤ n → v ≡ (get_or ws ((n - 1) * 6 + 1) 0 + 1) % 2 ^ 32 → FramesDo (on_top step_pc) ws (set ws ((n - 1) * 6 + 1) v) n n
steps ws n v h e [] p = absurd (let e = p.count in omega arith)
steps ws n v h e (f ∷ fs) p =
    let g : get_or ws ((n - 1) * 6 + 1) 0 ≡ f.pc = top-get frame_words 6 length-frame f fs ws n p 1 (omega arith) in
    let k : v ≡ (f.pc + 1) % 2 ^ 32 = e ∙ ap (λ i. (i + 1) % 2 ^ 32) g in
    top_set frame_words 6 length-frame f fs ws n p 1 v (step_pc f) (omega arith) (ap (λ i. set (frame_words f) 1 i) k)

-- ---- a record pushed, and popped

module _ {A : Type 0} (enc : A → List ℕ) (wide : (x : A) → length (enc x) ≡ 6) (ws : List ℕ) (n : ℕ) where
  pub pushes : (x : A) (xs : List A) → n * 6 + 6 ≤ length ws → Piled enc 6 xs ws n → Piled enc 6 (x ∷ xs) (splice ws (n * 6) (enc x)) (n + 1)
  pushes x xs h p = piled-push enc 6 wide xs (x ∷ []) ws n 1 p refl (omega arith) h

  pub pops : (xs : List A) → 1 ≤ n → Piled enc 6 xs ws n → Piled enc 6 (drop 1 xs) (splice ws ((n - 1) * 6) (replicate 6 0)) (n - 1)
  pops [] h p = absurd (let e = p.count in omega arith)
  pops (x ∷ xs) h p =
      let c = p.count in
      let w = p.within in
      let e : n ≡ n - 1 + 1 = omega arith in
      piled-pop enc 6 wide xs (x ∷ []) ws (n - 1) 1 (subst (λ k. Piled enc 6 (x ∷ xs) ws k) e p) (omega arith) (omega arith)

pub pops-cleared : {A : Type 0} (enc : A → List ℕ) (wide : (x : A) → length (enc x) ≡ 6) (ws ys : List ℕ) (n : ℕ) → 1 ≤ n → n * 6 ≤ length ws
    → ys ≡ replicate (length (take ((n - 1) * 6 + 6 - (n - 1) * 6) (drop ((n - 1) * 6) ws))) 0
    → (xs : List A) → Piled enc 6 xs ws n
    → Piled enc 6 (drop 1 xs) (take ((n - 1) * 6) ws ++ (ys ++ drop ((n - 1) * 6 + 6 - (n - 1) * 6) (drop ((n - 1) * 6) ws))) (n - 1)
pops-cleared enc wide ws ys n h k e xs p =
    subst (λ (z : List ℕ). Piled enc 6 (drop 1 xs) z (n - 1)) (sym (cleared ws ys ((n - 1) * 6) 6 (omega arith) e)) (pops enc wide ws n xs h p)

-- ---- the stack

-- the base is read first
pub puts : (stack frames : List ℕ) (height depth r v : ℕ) → RegFits stack frames height depth r → (base : ℕ) → base ≡ base_in frames (depth - 1)
    → Puts stack frames (set stack (base + r) v) height depth r v
puts stack frames height depth r v fits base read xs [] s p = absurd (let e = p.count in omega arith)
puts stack frames height depth r v fits base read xs (f ∷ fs) s p =
    let b : base_in frames (depth - 1) ≡ f.base = top-get frame_words 6 length-frame f fs frames depth p 2 (omega arith) in
    let low = fits.below in
    subst (λ k. Stack (set xs (f.base + r) v) (set stack (k + r) v) height) (sym (read ∙ b)) (run-set xs stack height (f.base + r) v s (omega arith))

pub gets : (stack frames : List ℕ) (height depth r : ℕ) → RegFits stack frames height depth r → (base : ℕ) → base ≡ base_in frames (depth - 1)
    → Gets stack frames height depth r (get_or stack (base + r) 0)
gets stack frames height depth r fits base read xs [] s p = absurd (let e = p.count in omega arith)
gets stack frames height depth r fits base read xs (f ∷ fs) s p =
    let b : base_in frames (depth - 1) ≡ f.base = top-get frame_words 6 length-frame f fs frames depth p 2 (omega arith) in
    let low = fits.below in
    record { is = ap (λ k. get_or stack (k + r) 0) (read ∙ b) ∙ run-get xs stack height (f.base + r) s (omega arith) }

-- what a register of a world's top frame asks of the words
pub reg-fits : (xs : List ℕ) (fs : List Frame) (stack frames : List ℕ) (height depth r : ℕ) → Stack xs stack height → Frames fs frames depth
    → 1 ≤ length fs → top_base fs + r < length xs → RegFits stack frames height depth r
reg-fits xs [] stack frames height depth r s p h k = absurd (omega arith)
reg-fits xs (f ∷ fs) stack frames height depth r s p h k =
    let b : base_in frames (depth - 1) ≡ f.base = top-get frame_words 6 length-frame f fs frames depth p 2 (omega arith) in
    let c = s.count in
    let d = p.count in
    record { some = omega arith; on-frames = p.within; below = omega arith; on-stack = s.within }

pub cuts : (ws ys : List ℕ) (n i : ℕ) → i ≤ n → n ≤ length ws → ys ≡ replicate (length (take (n - i) (drop i ws))) 0
    → StackDo (take i) ws (take i ws ++ (ys ++ drop (n - i) (drop i ws))) n i
cuts ws ys n i h k e xs s =
    let l : length (take (n - i) (drop i ws)) ≡ n - i = length_part i (n - i) ws (omega arith) in
    let z : length (replicate {A = ℕ} (n - i) 0) ≡ n - i = length-replicate (n - i) 0 in
    subst (λ (z : List ℕ). Stack (take i xs) z i)
    (sym (back ws ys (replicate (n - i) 0) i (n - i) (n - i) refl z (e ∙ ap (λ m. replicate m 0) l)))
    (run-cut xs ws n i s h)

-- ---- queues

pub pushes-back : (ws : List ℕ) (n v : ℕ) → n < length ws → QueueDo (λ xs. xs ++ (v ∷ [])) ws (set ws n v) n (n + 1)
pushes-back ws n v h xs q =
    subst (λ (z : List ℕ). Queue (xs ++ (v ∷ [])) z (n + 1)) (sym (sets-splice ws (v ∷ []) n (omega arith))) (run-push xs (v ∷ []) ws n q (omega arith))
