-- A Resume that nothing refuses, past its gate and its charge, and the words of its numbers. Assumes nothing.
use mathlib.Core.Path.{◌≡◌, refl, sym, ap, ap₂, ◌∙◌, subst}
use mathlib.Core.Bool.{Bool, true, false}
use mathlib.Core.List.{List, [], ◌∷◌}
use Prim.Native.Nat.{ℕ, ◌+◌, ◌-◌, ◌*◌, ◌^◌, ◌≤◌, ◌<◌}
use native.Mathlib.Omega.{arith}
use lib.ListN.{length, get_or, set}
use lib.Dec.{ltb}
use lib.Seq.{get_or-set_same, get_or-set_other}
use borrow.Author.Tests.{lt-ltb}
use Rattle.lists.specs.Parts.{splice}
use Rattle.heap.specs.Slot.{is_set}
use Rattle.heap.specs.declared.object.CoroObj.{CoroObj}
use Rattle.model.specs.World.{World, After}
use Rattle.model.specs.Frames.{reg}
use Rattle.model.specs.Cleanup.{charge}
use Rattle.model.specs.Gate.{in_frame, all_in, instruction}
use Rattle.model.specs.Calls.{Row, Instruction, OnFrame, OnHost, Unwinds, Grants, Looks, Other, table}
use Rattle.model.specs.Exec.{resume}
use Rattle.model.specs.Sound.{sound}
use Rattle.model.specs.declared.call.Op.{Op}
use Rattle.std.specs.Prelude.{Some}
use Rattle.model.specs.declared.call.Answer.{Answer}
use Rattle.model.specs.declared.exec.Step.{Step}
use Rattle.model.specs.declared.machine.Fuel.{Fuel}
use Rattle.memory_world.specs.Memory.{Lent, Beside, Rep}
use Rattle.memory_world.specs.Lendings.{lent}
use Rattle.memory_world.specs.Contract.{Does, Ok, only}
use Rattle.memory_world.specs.declared.machine.Machine.{Machine}
use Rattle.memory_world.specs.declared.machine.Sizes.{Sizes}
use Rattle.coro_enter.specs.Enter.{grown}
use Rattle.coro_clean.specs.Charge.{spent}
use Rattle.coro_clean.proofs.Paid.{charge-fast}
use Rattle.coro_clean.proofs.Charged.{charged-sound, narrow-pc}
use Rattle.exec_enter.proofs.Sent.{resumed}
use Rattle.exec_instruction.specs.Operands.{Based}
use Rattle.exec_arm.specs.Arm.{OfInstruction}
use Rattle.exec_instruction.proofs.Gated.{some-frames, numbered, done}
use Rattle.machine_step.specs.Kept.{did}
use Rattle.machine_step.proofs.Calls.{as-instruction}
use Rattle.linked_calls.specs.Words.{machine_in, sizes_in, machine_words, fuel_in, fuel_words, bank_of}
use Rattle.linked_switch.specs.Words.{entered_over, Numbers, Fuelled}
use Rattle.linked_switch.proofs.Numbers.{entered-words, back, numbers}
use Rattle.linked_switch.specs.Enter.{resumes_by}
use Rattle.linked_switch.specs.Enters.{Enterable}
use Rattle.linked_switch.specs.Went.{Holds}

-- without the fuel's words
pub held-only : {stack frames chain slots saved_stack saved_frames ms fs : List ℕ} {pc : ℕ} → Holds stack frames chain slots saved_stack saved_frames ms fs pc
    → Ok (sizes_in ms) (lent stack frames chain slots saved_stack saved_frames) (only (machine_in ms))
held-only {fs = fs} h = let k = h.ok in record { world = k.world; beside = record { words = k.beside.words; fuel = fuel_in fs }; rep = k.rep; sound = k.sound; room = k.room }

-- ---- the words of the fuel, and of the numbers

pub spent-in : (fs : List ℕ) → 4 ≤ length fs → fuel_in (set fs 0 (get_or fs 0 0 - 1)) ≡ spent (fuel_in fs)
spent-in fs h =
    let x = get_or fs 0 0 - 1 in
    let p = get_or-set_same fs 0 x 0 (omega arith) in
    let q = get_or-set_other fs 0 1 x 0 (omega arith) in
    let r = get_or-set_other fs 0 2 x 0 (omega arith) in
    let s = get_or-set_other fs 0 3 x 0 (omega arith) in
    λ i. record { fuel = p i; bank = bank_of (q i) (r i); ready = is_set (s i) }

pub spent-words : (fs : List ℕ) → 4 ≤ length fs → Fuelled fs fs → Fuelled fs (set fs 0 (get_or fs 0 0 - 1))
spent-words fs h tell =
    ap (λ z. set z 0 (get_or fs 0 0 - 1)) tell ∙ ap (λ (f : Fuel). splice fs 0 (fuel_words f)) (sym (spent-in fs h))

module _ (ms ms' : List ℕ) (k : CoroObj) (tell : Numbers ms ms) (e : ms' ≡ entered_over (grown (machine_in ms) k) ms) where
  over : ms' ≡ splice ms 0 (machine_words (grown (machine_in ms) k))
  over = e ∙ entered-words ms (grown (machine_in ms) k) tell (record { count = refl; ready = refl; finalize = refl; finalizing = refl; used = refl; outcome = refl; seq = refl })

  pub grown-in : machine_in ms' ≡ grown (machine_in ms) k
  grown-in = back ms ms' (grown (machine_in ms) k) over

  pub grown-words : Numbers ms ms'
  grown-words = numbers ms ms' (grown (machine_in ms) k) over

-- ---- the gate and the charge are passed

pub in_frame_lem : (w : World) (base height r : ℕ) → Based w base height → base + r < height → in_frame w r ≡ true
in_frame_lem w base height r k h = ap₂ (λ x y. ltb (x + r) y) (sym k.base) (sym k.height) ∙ lt-ltb (base + r) height h

-- what is said of an instruction's row is said of the operation
abbrev on_row : (ℕ → (World → Bool) → (World → After Step) → Type 0) → Row → Type 0
on_row said (Instruction pc operands arm) = said pc operands arm
on_row said (OnFrame operands body) = ◌≡◌ {A = ℕ} 0 0
on_row said (OnHost operands body) = ◌≡◌ {A = ℕ} 0 0
on_row said (Unwinds f pc) = ◌≡◌ {A = ℕ} 0 0
on_row said (Grants n) = ◌≡◌ {A = ℕ} 0 0
on_row said Looks = ◌≡◌ {A = ℕ} 0 0
on_row said (Other body) = ◌≡◌ {A = ℕ} 0 0

pub of_row : (o : Op) (said : ℕ → (World → Bool) → (World → After Step) → Type 0) (pc : ℕ) (operands : World → Bool) (arm : World → After Step) → table o ≡ Instruction pc operands arm
    → said pc operands arm → OfInstruction o said
of_row o said pc operands arm e p n t a q = subst (on_row said) (sym e ∙ q) p

module _ (l : Sizes) (M : Lent) (m : Machine) (f : Fuel) (w : World) (rep : Rep l w M m f) (snd : sound w ≡ true) (pc dst c src : ℕ) (narrow : pc < 2 ^ 32) (some : 1 ≤ m.depth)
    (rich : f.fuel ≡ 0 → ⊥) where
  abbrev base : ℕ
  base = get_or M.frames ((m.depth - 1) * 6 + 2) 0

  abbrev pub paid : World
  paid = (charge (Some pc) w).world

  pub paid-rep : Rep l paid M m (spent f)
  paid-rep = (charge-fast l M m f w rep (Some pc) (spent f) rich refl).world

  pub paid-sound : sound paid ≡ true
  paid-sound = charged-sound (Some pc) w (narrow-pc pc narrow) snd

  pub resume-done : base + dst < m.height → base + c < m.height → base + src < m.height → (M' : Lent) (n : Machine) (v : ℕ) → v ≡ reg paid c
      → Does l (resumes_by pc dst src v paid) M' n (spent f) Step.Frame → Does l (did (Op.Resume pc dst c src) w) M' n (spent f) (Answer.Stepped Step.Frame 0)
  resume-done p q r M' n v is d =
      let o = Op.Resume pc dst c src in
      let k : Based w base m.height = (numbered l w M m f _ base rep some refl refl).based in
      let pass : all_in (dst ∷ c ∷ src ∷ []) w ≡ true = rw (in_frame_lem w base m.height dst k p, in_frame_lem w base m.height c k q, in_frame_lem w base m.height src k r) in
      as-instruction l M' n (spent f) w o (Answer.Stepped Step.Frame 0) refl
      (of_row o (λ pc operands arm. Does l (instruction pc (operands w) arm w) M' n (spent f) (Answer.Stepped Step.Frame 0)) pc (all_in (dst ∷ c ∷ src ∷ [])) (resume pc dst c src) refl
      (done l M' n (spent f) w pc (all_in (dst ∷ c ∷ src ∷ []) w) (resume pc dst c src) (some-frames w.frames M.frames m.depth rep.frames some) pass pc refl 0 Step.Frame
      (Answer.Stepped Step.Frame 0) (charge-fast l M m f w rep (Some pc) (spent f) rich refl).answer
      (resumed l M' n (spent f) paid pc dst c src v (reg paid src) Step.Frame is refl d) refl))

-- what is left, by the words that tell it
pub told-as : {A : Type 0} (l : Sizes) (M : Lent) (o : After A) (a : A) (m n : Machine) (f g : Fuel) → m ≡ n → f ≡ g → Does l o M n g a → Does l o M m f a
told-as l M o a m n f g e h d = subst (λ x. Does l o M x f a) (sym e) (subst (λ x. Does l o M n x a) (sym h) d)
