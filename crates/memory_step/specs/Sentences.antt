-- Demand 1 of lent words, in sentences: of every state, whatever its words hold, and of every call.
-- Every call has an answer: `memory_step` is a function of the state and the call, and none is left out. So the sentences say what it is: its
-- number and what is left. Its word, its Step and its count are `step_words`'s, and the fault sheet's (`sheet`).
use Rattle.std.specs.Prelude.{ℕ, suc, ◌*◌, ◌≡◌, true, false, ◌⊎◌, List, [], ◌∷◌, get_or, take, drop, eqb, Option}
use Rattle.lists.specs.Chunks.{chunk_at}
use Rattle.lists.specs.Tests.{zeros}
use Rattle.heap.specs.Fault as Fault
use Rattle.heap.specs.Slot.{width}
use Rattle.heap.specs.declared.fault.Fault.{Fault}
use Rattle.model.specs.Lists.{among}
use Rattle.model.specs.Program.{setup_ok}
use Rattle.model.specs.Answer.{number_of}
use Rattle.model.specs.Call.{Operation}
use Rattle.model.specs.declared.call.Op.{Op}
use Rattle.memory_tables.specs.Sizes.{saved_stack_size, saved_frames_size}
use Rattle.memory_world.specs.Memory.{Room}
use Rattle.memory_world.specs.Words.{lengths_of}
use Rattle.memory_step.specs.Step.{MemoryState, is_sound, decoded, looked, set_up_ok, MemoryCall, SetUp, Do, memory_step}

-- the number that a call answers
abbrev pub answer_number : MemoryState → MemoryCall → ℕ
answer_number s k = number_of (memory_step s k).answer

-- 01: "11, 12, 13, 15, 16 change no word."
abbrev pub unchanging : List ℕ
unchanging = 11 ∷ 12 ∷ 13 ∷ 15 ∷ 16 ∷ []

-- 01: "`unwind` takes a fault 1 to 10, or 17 with its word (else 11)"
abbrev pub faults : List ℕ
faults = 1 ∷ 2 ∷ 3 ∷ 4 ∷ 5 ∷ 6 ∷ 7 ∷ 8 ∷ 9 ∷ 10 ∷ 17 ∷ []

pub data NoSuchFault : Op → Type 0 where
  no_such : (f : Fault) (pc : Option ℕ) → among (Fault.number_of f) faults ≡ false → NoSuchFault (Op.Unwind f pc)

-- 01: "words not in use are 0", to the end of each slice
pub record Clear (s : MemoryState) : Type 0 where
  pub stack : zeros (drop s.machine.height s.words.stack) ≡ true
  pub frames : zeros (drop (s.machine.depth * 6) s.words.frames) ≡ true
  pub chain : zeros (drop (s.machine.active * 6) s.words.chain) ≡ true
  pub slots : zeros (drop (s.machine.count * width) s.words.slots) ≡ true
  pub saved_stack : zeros (drop (saved_stack_size (decoded s).setup) s.words.saved_stack) ≡ true
  pub saved_frames : zeros (drop (saved_frames_size (decoded s).setup) s.words.saved_frames) ≡ true
  pub ready : zeros (drop s.machine.ready s.words.ready) ≡ true
  pub finalize : zeros (drop s.machine.finalize s.words.finalize) ≡ true

pub record Sentences : Type 0 where
  -- every slice, the machine and the fuel are as found
  pub unchanged : (s : MemoryState) (k : MemoryCall) → among (answer_number s k) unchanging ≡ true → (memory_step s k).state ≡ s
  -- 11 exactly if the words are not sound, or an unwind gets no such fault ..
  pub unsound : (s : MemoryState) (o : Operation) → is_sound s ≡ false → answer_number s (Do o) ≡ 11
  pub no-fault : (s : MemoryState) (o : Operation) → NoSuchFault o.op → answer_number s (Do o) ≡ 11
  pub eleven : (s : MemoryState) (o : Operation) → answer_number s (Do o) ≡ 11 → (is_sound s ≡ false) ⊎ NoSuchFault o.op
  -- .. or a set-up breaks the closing list, is written otherwise than in its own words, or finds too few words; else it is accepted
  pub set-up : (s : MemoryState) (given : List ℕ) → set_up_ok given s.words ≡ true → answer_number s (SetUp given) ≡ 0
  pub bad-set-up : (s : MemoryState) (given : List ℕ) → set_up_ok given s.words ≡ false → answer_number s (SetUp given) ≡ 11
  -- so there are words enough, and the numbers are in the closing list, wherever a call is accepted
  pub enough : (s : MemoryState) (o : Operation) → eqb (answer_number s (Do o)) 11 ≡ false → Room (decoded s).setup s.words
  pub in-closing-list : (s : MemoryState) (o : Operation) → eqb (answer_number s (Do o)) 11 ≡ false → setup_ok (decoded s).setup ≡ true
  -- a look: nothing on 11 or without a frame; else the stack's words in use, from the base of the top frame, the third of its six words
  pub unseen : (s : MemoryState) → is_sound s ≡ false → looked s ≡ []
  pub frameless : (s : MemoryState) → s.machine.depth ≡ 0 → looked s ≡ []
  pub seen : (s : MemoryState) (i : ℕ) → is_sound s ≡ true → s.machine.depth ≡ suc i
      → looked s ≡ drop (get_or (chunk_at 6 s.words.frames i) 2 0) (take s.machine.height s.words.stack)
  -- slices keep their lengths, and words longer than needed their zeros: after every call on sound words, and after an accepted set-up
  pub lengths : (s : MemoryState) (k : MemoryCall) → lengths_of (memory_step s k).state.words ≡ lengths_of s.words
  pub clear : (s : MemoryState) (o : Operation) → is_sound s ≡ true → Clear (memory_step s (Do o)).state
  pub cleared : (s : MemoryState) (given : List ℕ) → set_up_ok given s.words ≡ true → Clear (memory_step s (SetUp given)).state
