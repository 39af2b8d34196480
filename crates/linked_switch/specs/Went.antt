-- A call done on the words of a sound machine: the call of the model, in words.
use Rattle.std.specs.Prelude.{List, ℕ, ◌^◌, ◌≤◌, ◌<◌, length}
use Rattle.model.specs.declared.call.Op.{Op}
use Rattle.model.specs.declared.call.Answer.{Answer}
use Rattle.model.specs.declared.exec.Step.{Step}
use Rattle.memory_world.specs.Memory.{Lent, Beside}
use Rattle.memory_world.specs.Lendings.{lent}
use Rattle.memory_world.specs.Contract.{Ok, Gives, if_sound, with}
use Rattle.machine_step.specs.Kept.{did}
use Rattle.linked_calls.specs.Words.{machine_in, sizes_in, fuel_in}
use Rattle.linked_switch.specs.Words.{Numbers, Fuelled}

-- a sound world, whose numbers and fuel the words hold, and a pc of 32 bits
pub record Holds (stack frames chain slots saved_stack saved_frames ms fs : List ℕ) (pc : ℕ) : Type 0 where
  pub words : 25 ≤ length ms
  pub tank : 4 ≤ length fs
  pub numbers : Numbers ms ms
  pub fuelled : Fuelled fs fs
  pub narrow : pc < 2 ^ 32
  pub ok : Ok (sizes_in ms) (lent stack frames chain slots saved_stack saved_frames) (with (machine_in ms) (fuel_in fs))

-- the frame on top goes on
abbrev pub goes_on : Answer
goes_on = Answer.Stepped Step.Frame 0

pub record Went (o : Op) (M M' : Beside → Lent) (ms fs ms' fs' : List ℕ) : Type 0 where
  pub met : Gives if_sound (sizes_in ms) (did o) M (with (machine_in ms) (fuel_in fs)) M' (with (machine_in ms') (fuel_in fs')) goes_on
  pub numbers : Numbers ms ms'
  pub fuel : Fuelled fs fs'
