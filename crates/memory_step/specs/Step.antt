-- An outer call on lent words, whatever they hold. 01: "Each tests 11 first"; else the words, numbers and fuel are those of what the
-- call leaves, in slices as long as before.
use Rattle.std.specs.Prelude.{ℕ, Bool, ◌&&◌, List, [], length, leb}
use Rattle.lists.specs.Pick.{pick}
use Rattle.heap.specs.declared.fault.Fault.{Fault}
use Rattle.model.specs.World.{World, fresh}
use Rattle.model.specs.Added.{registers}
use Rattle.model.specs.Call.{Operation}
use Rattle.model.specs.Step.{call}
use Rattle.model.specs.declared.machine.Fuel.{Fuel}
use Rattle.model.specs.declared.call.Op.{Op}
use Rattle.model.specs.declared.call.Answer.{Answer}
use Rattle.memory_tables.specs.Sizes.{setup_size}
use Rattle.memory_world.specs.Memory.{Lent}
use Rattle.memory_world.specs.declared.machine.Machine.{Machine}
use Rattle.memory_world.specs.Words.{Lengths, lengths_of, words_in, numbers_of}
use Rattle.memory_world.specs.Decode.{setup_of, world_of}
use Rattle.memory_sound.specs.Words.{setup_held, room_ok, sound_words}

-- all that a call is lent: the nine slices, the machine's numbers, the fuel
pub record MemoryState : Type 0 where
  pub words : Lent
  pub machine : Machine
  pub fuel : Fuel

-- what it leaves of it, and answers
pub record Left : Type 0 where
  pub state : MemoryState
  pub answer : Answer

abbrev pub left : MemoryState → Answer → Left
left s a = record { state = s; answer = a }

-- everything as found, and a number
abbrev pub refuses : MemoryState → Fault → Left
refuses s f = left s (Answer.Refused f)

-- a world in slices of such lengths
abbrev pub state_in : Lengths → World → MemoryState
state_in n w = record { words = words_in n w; machine = numbers_of w; fuel = w.fuel }

abbrev pub is_sound : MemoryState → Bool
is_sound s = sound_words s.words s.machine s.fuel

abbrev pub decoded : MemoryState → World
decoded s = world_of s.words s.machine s.fuel

-- ---- any call but the set-up

-- on sound words: what the call leaves and answers, in the same slices
abbrev pub step_sound : MemoryState → Op → Left
step_sound s o = let did = call o (decoded s) in left (state_in (lengths_of s.words) did.world) did.answer

unfoldable pub step_words : MemoryState → Op → Left
step_words s o = pick (is_sound s) (step_sound s o) (refuses s Fault.Unsound)

-- 01: "a look at the top frame hands back its registers as part of the lent words; without a frame, or on 11, an empty part"
abbrev pub looked : MemoryState → List ℕ
looked s = pick (is_sound s) (registers (decoded s)) []

-- ---- the set-up, of the words given. It does not test the machine that it replaces.

-- 01's closing list, and "lent words enough"
abbrev pub set_up_ok : List ℕ → Lent → Bool
set_up_ok given M = setup_held given && room_ok (setup_of given) M && leb (setup_size (setup_of given)) (length M.setup)

-- a fresh machine, in the same slices, whatever stood there
abbrev pub begins : MemoryState → List ℕ → Left
begins s given = left (state_in (lengths_of s.words) (fresh (setup_of given))) Answer.Accepted

unfoldable pub set_up_words : MemoryState → List ℕ → Left
set_up_words s given = pick (set_up_ok given s.words) (begins s given) (refuses s Fault.Unsound)

-- ---- a call of 01

pub data MemoryCall : Type 0 where
  SetUp : List ℕ → MemoryCall
  Do : Operation → MemoryCall

abbrev pub memory_step : MemoryState → MemoryCall → Left
memory_step s (SetUp given) = set_up_words s given
memory_step s (Do o) = step_words s o.op
