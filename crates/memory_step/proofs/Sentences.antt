-- Demand 1 of lent words, from the fault sheet and from "soundness is kept". Assumes nothing.
use Prim.Native.Nat.{ℕ, suc, ◌*◌}
use mathlib.Core.Path.{◌≡◌, refl, sym, ap, subst, ◌∙◌}
use mathlib.Core.Bool.{Bool, true, false, ◌&&◌, false≢true}
use mathlib.Core.Logic.{◌⊎◌, inl, inr}
use mathlib.Core.List.{List, []}
use lib.ListN.{length, get_or, take, drop}
use lib.Dec.{eqb}
use borrow.Author.Tests.{eq-eqb, not-true}
use Rattle.lists.specs.Pick.{pick, pick_true, pick-false}
use Rattle.lists.specs.Chunks.{chunk_at}
use Rattle.lists.specs.Tests.{all_below}
use Rattle.heap.specs.Slot.{width, slot_words, slot_of_words}
use Rattle.heap.specs.Fault as Faults
use Rattle.heap.specs.declared.fault.Fault.{Fault}
use Rattle.model.specs.Lists.{among}
use Rattle.model.specs.World.{World, After, after}
use Rattle.model.specs.Machine.{raisable, store_some, unwind_fault, unwind}
use Rattle.model.specs.Sound.{row_words}
use Rattle.model.specs.Added.{registers_on, registers}
use Rattle.model.specs.Answer.{number_of}
use Rattle.model.specs.Call.{Operation}
use Rattle.model.specs.Call as Model
use Rattle.model.specs.Calls.{table}
use Rattle.model.specs.Step.{Out, call}
use Rattle.model.specs.Step as Step
use Rattle.model.specs.declared.call.Op.{Op}
use Rattle.std.specs.Prelude.{Option}
use Rattle.model.specs.declared.call.Answer.{Answer}
use Rattle.claims_invariant.specs.Kept.{raises}
use Rattle.claims_sound.proofs.Tests.{no_false, no_true, and_left, and_right}
use Rattle.claims_sound.proofs.Sound.{sound→}
use Rattle.claims_invariant.proofs.Call.{call-keeps, unwound}
use Rattle.claims_sheet.proofs.Sentences as Sheet
use Rattle.memory_tables.specs.Layout.{frame_words, frame_of, active_words, active_of}
use Rattle.memory_tables.specs.Parts.{piled}
use Rattle.memory_tables.specs.Sizes.{frames_size, saved_stack_size, saved_frames_size}
use Rattle.memory_world.specs.Rows.{row_at}
use Rattle.memory_world.specs.Words.{lengths_of}
use Rattle.memory_sound.specs.Words.{rest_ok, coded, frames_held}
use Rattle.memory_sound.proofs.Passed.{passed}
use Rattle.memory_step.specs.Step.{MemoryState, Left, state_in, is_sound, decoded, looked, step_words, set_up_ok, set_up_words, MemoryCall, SetUp, Do, memory_step}
use Rattle.memory_step.specs.Sentences.{answer_number, unchanging, faults, NoSuchFault, no_such, Clear, Sentences}
use Rattle.memory_step.proofs.Kept.{words-kept, own, untested, stepped, refused-words, set-up, refused-set-up}

-- ---- numbers

sound-number : (s : MemoryState) (o : Operation) → is_sound s ≡ true → answer_number s (Do o) ≡ number_of (call o.op (decoded s)).answer
sound-number s o e = ap (λ (x : Left). number_of x.answer) (stepped s o e)

unsound-number : (s : MemoryState) (o : Operation) → is_sound s ≡ false → answer_number s (Do o) ≡ 11
unsound-number s o e = ap (λ (x : Left). number_of x.answer) (refused-words s o e)

set-up-number : (s : MemoryState) (given : List ℕ) → set_up_ok given s.words ≡ true → answer_number s (SetUp given) ≡ 0
set-up-number s given e = ap (λ (x : Left). number_of x.answer) (set-up s given e)

bad-number : (s : MemoryState) (given : List ℕ) → set_up_ok given s.words ≡ false → answer_number s (SetUp given) ≡ 11
bad-number s given e = ap (λ (x : Left). number_of x.answer) (refused-set-up s given e)

-- ---- what changes nothing

same-world : (s : MemoryState) (o : Operation) → is_sound s ≡ true → among (answer_number s (Do o)) unchanging ≡ true → (call o.op (decoded s)).world ≡ decoded s
same-world s o e h =
    let q = untested (decoded s) o (words-kept.stands s e) in
    let n : number_of (Step.step (decoded s) (Model.Do o)).answer ≡ answer_number s (Do o) = ap (λ (x : Out). number_of x.answer) q ∙ sym (sound-number s o e) in
    ap (λ (x : Out). x.world) (sym q) ∙ (Sheet.sentences).unchanged (decoded s) (Model.Do o) (ap (λ m. among m unchanging) n ∙ h)

unchanged : (s : MemoryState) (k : MemoryCall) → among (answer_number s k) unchanging ≡ true → (memory_step s k).state ≡ s
unchanged s (SetUp given) h = go (set_up_ok given s.words) refl
  where
    go : (b : Bool) → set_up_ok given s.words ≡ b → (set_up_words s given).state ≡ s
    go true e = absurd (false≢true (sym (ap (λ m. among m unchanging) (set-up-number s given e)) ∙ h))
    go false e = ap (λ (x : Left). x.state) (refused-set-up s given e)
unchanged s (Do o) h = go (is_sound s) refl
  where
    go : (b : Bool) → is_sound s ≡ b → (step_words s o.op).state ≡ s
    go true e = ap (λ (x : Left). x.state) (stepped s o e) ∙ ap (state_in (lengths_of s.words)) (same-world s o e h) ∙ own s e
    go false e = ap (λ (x : Left). x.state) (refused-words s o e)

-- ---- 11

among-raisable : (f : Fault) → among (Faults.number_of f) faults ≡ raisable f
among-raisable Fault.None = refl
among-raisable Fault.NullReference = refl
among-raisable Fault.TypeError = refl
among-raisable Fault.InvalidCoroState = refl
among-raisable Fault.StackOverflow = refl
among-raisable Fault.CannotSuspend = refl
among-raisable Fault.CloseIgnored = refl
among-raisable Fault.ArithOverflow = refl
among-raisable Fault.NoScheduler = refl
among-raisable Fault.OutOfMemory = refl
among-raisable Fault.OutOfFuel = refl
among-raisable Fault.Unsound = refl
among-raisable Fault.NoFrame = refl
among-raisable Fault.BadOperand = refl
among-raisable Fault.Full = refl
among-raisable Fault.Busy = refl
among-raisable Fault.GrantTooLarge = refl
among-raisable (Fault.Throw x) = refl

-- only an unwind can be given what it does not take
none-such : (o : Operation) → raises (table o.op) ≡ false → NoSuchFault o.op
none-such o h = let u = unwound o.op o.within h in subst (λ p. NoSuchFault p) (sym u.is) (no_such u.fault u.pc (among-raisable u.fault ∙ u.bad))

eleven : (s : MemoryState) (o : Operation) → answer_number s (Do o) ≡ 11 → (is_sound s ≡ false) ⊎ NoSuchFault o.op
eleven s o n = go (is_sound s) refl
  where
    from : is_sound s ≡ true → (b : Bool) → raises (table o.op) ≡ b → NoSuchFault o.op
    from e false q = none-such o q
    from e true q =
        let f = (call-keeps {ex = false} o.op (decoded s) o.within (sound→ (decoded s) (words-kept.stands s e) (λ z. no_false z))).fine q in
        let m = eq-eqb (number_of (call o.op (decoded s)).answer) 11 (sym (sound-number s o e) ∙ n) in
        no_true (sym m ∙ not-true (eqb (number_of (call o.op (decoded s)).answer) 11) f)

    go : (b : Bool) → is_sound s ≡ b → (is_sound s ≡ false) ⊎ NoSuchFault o.op
    go true e = inr (from e (raises (table o.op)) refl)
    go false e = inl e

refused-fault : (f : Fault) (pc : Option ℕ) (w : World) → raisable f ≡ false → number_of (call (Op.Unwind f pc) w).answer ≡ 11
unfolding call unwind
refused-fault f pc w e = ap (λ b. number_of (pick b (unwind_fault f (store_some pc w)) (after w (Answer.Refused Fault.Unsound))).answer) e ∙ ap (λ (x : After Answer). number_of x.answer) (pick-false _ _)

given-none : {o : Op} (w : World) → NoSuchFault o → number_of (call o w).answer ≡ 11
given-none w (no_such f pc h) = refused-fault f pc w (sym (among-raisable f) ∙ h)

no-fault : (s : MemoryState) (o : Operation) → NoSuchFault o.op → answer_number s (Do o) ≡ 11
no-fault s o h = go (is_sound s) refl
  where
    go : (b : Bool) → is_sound s ≡ b → answer_number s (Do o) ≡ 11
    go true e = sound-number s o e ∙ given-none (decoded s) h
    go false e = unsound-number s o e

-- an answer but 11 is given to sound words
tested : (s : MemoryState) (o : Operation) → eqb (answer_number s (Do o)) 11 ≡ false → is_sound s ≡ true
tested s o h = go (is_sound s) refl
  where
    go : (b : Bool) → is_sound s ≡ b → is_sound s ≡ true
    go true e = e
    go false e = no_true (sym (ap (λ n. eqb n 11) (unsound-number s o e)) ∙ h)

-- ---- zeros

pub clear : (s : MemoryState) → is_sound s ≡ true → Clear s
clear s e =
    let M = s.words in
    let m = s.machine in
    let u = (decoded s).setup in
    let p = passed M m s.fuel e in
    let a = rest_ok M.stack m.height in
    let b = rest_ok M.ready m.ready in
    let c = rest_ok M.finalize m.finalize in
    let xs = (decoded s).slots in
    let regs = all_below u.limits.rows (λ i. rest_ok (chunk_at (row_words u) M.saved_stack i) (length (row_at i xs).regs)) in
    let saved = all_below u.limits.rows (λ i. frames_held (chunk_at (frames_size u) M.saved_frames i) (length (row_at i xs).frames)) in
    record {
      stack = and_left a b (and_left (a && b) c p.runs);
      frames = and_right (coded 6 frame_words frame_of m.depth M.frames) (rest_ok M.frames (m.depth * 6)) p.frames;
      chain = and_right (coded 6 active_words active_of m.active M.chain) (rest_ok M.chain (m.active * 6)) p.chain;
      slots = and_right (coded width slot_words slot_of_words m.count M.slots) (rest_ok M.slots (m.count * width)) p.slots;
      saved_stack = and_right regs (rest_ok M.saved_stack (saved_stack_size u)) p.saved_stack;
      saved_frames = and_right saved (rest_ok M.saved_frames (saved_frames_size u)) p.saved_frames;
      ready = and_right a b (and_left (a && b) c p.runs);
      finalize = and_right (a && b) c p.runs;
    }

-- ---- a look

unseen : (s : MemoryState) → is_sound s ≡ false → looked s ≡ []
unseen s e = ap (λ b. pick b (registers (decoded s)) []) e ∙ pick-false _ _

-- the registers of the top one of n frames
abbrev registers-of : ℕ → MemoryState → List ℕ
registers-of n s = registers_on (piled 6 frame_of n s.words.frames) (take s.machine.height s.words.stack)

pick-nothing : (b : Bool) → pick {A = List ℕ} b [] [] ≡ []
pick-nothing true = pick_true _ _
pick-nothing false = pick-false _ _

frameless : (s : MemoryState) → s.machine.depth ≡ 0 → looked s ≡ []
unfolding registers
frameless s e = ap (λ n. pick (is_sound s) (registers-of n s) []) e ∙ pick-nothing (is_sound s)

seen : (s : MemoryState) (i : ℕ) → is_sound s ≡ true → s.machine.depth ≡ suc i
    → looked s ≡ drop (get_or (chunk_at 6 s.words.frames i) 2 0) (take s.machine.height s.words.stack)
unfolding registers
seen s i h e = ap (λ b. pick b (registers (decoded s)) []) h ∙ pick_true _ _ ∙ ap (λ n. registers-of n s) e

pub sentences : Sentences
sentences =
    record {
      unchanged = unchanged;
      unsound = unsound-number;
      no-fault = no-fault;
      eleven = eleven;
      set-up = set-up-number;
      bad-set-up = bad-number;
      enough = λ s o h. words-kept.room s (tested s o h);
      in-closing-list = λ s o h. (passed s.words s.machine s.fuel (tested s o h)).setup;
      unseen = unseen;
      frameless = frameless;
      seen = seen;
      lengths = words-kept.lengths;
      clear = λ s o e. clear (step_words s o.op).state (words-kept.kept s o e);
      cleared = λ s given e. clear (set_up_words s given).state (words-kept.begun s given e);
    }
