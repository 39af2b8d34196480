-- What a function is lent, and what it leaves and answers, as states of `lent`.
use Rattle.std.specs.Prelude.{◌≡◌, true, List, ℕ}
use Rattle.model.specs.declared.call.Op.{Op}
use Rattle.model.specs.declared.machine.Fuel.{Fuel}
use Rattle.memory_world.specs.Memory.{Lent}
use Rattle.memory_world.specs.declared.machine.Machine.{Machine}
use Rattle.memory_world.specs.declared.machine.Sizes.{Sizes}
use Rattle.machine_state.specs.declared.called.Called.{Called}
use Rattle.model.specs.declared.call.Answer.{Answer}
use Rattle.memory_world.specs.Words.{sizes_of}
use Rattle.memory_world.specs.Decode.{setup_of}
use Rattle.memory_step.specs.Step.{MemoryState, Left, left, is_sound, step_words}

-- the nine slices, by a way to read one
module _ {X : Type 0} where
  abbrev pub nine : X → X → X → X → X → X → X → X → X → (X → List ℕ) → Lent
  nine s f c o r q a z u t =
      record { stack = t s; frames = t f; chain = t c; slots = t o; saved_stack = t r; saved_frames = t q; ready = t a; finalize = t z; setup = t u }

abbrev pub state : Lent → Machine → Fuel → MemoryState
state M m f = record { words = M; machine = m; fuel = f }

-- the words that a call left, and its result
abbrev pub gives : Lent → Called Answer → Left
gives M r = left (state M r.machine r.fuel) r.answer

-- sound words, and the sizes of their set-up
pub record SoundFits (given : Sizes) (s : MemoryState) : Type 0 where
  pub sound : is_sound s ≡ true
  pub sizes : given ≡ sizes_of (setup_of s.words.setup)

pub record Steps (s : MemoryState) (o : Op) (d : Left) : Type 0 where
  pub is : d ≡ step_words s o
  -- so the next call may be made
  pub again : is_sound d.state ≡ true
