-- coro.rs: exec, a pc stored, an entry, and the word that is sent, on the lent words.
use Rattle.std.specs.Prelude.{◌≡◌, List, ℕ, ◌^◌, ◌≤◌, ◌<◌, Result}
use Rattle.model.specs.declared.coro.Entered.{Entered}
use Rattle.heap.specs.declared.fault.Fault.{Fault}
use Rattle.memory_tables.specs.Does.{RegFits}
use Rattle.memory_world.specs.Lendings.{lent}
use Rattle.memory_world.specs.Contract.{Ok, only}
use Rattle.memory_world.specs.declared.machine.Machine.{Machine}
use Rattle.memory_world.specs.declared.machine.Sizes.{Sizes}
use Rattle.machine_state.specs.Send.{SendFits}

-- a sound world with a frame, and a pc of 32 bits
pub record EntryFits (sizes : Sizes) (stack frames chain slots saved_stack saved_frames : List ℕ) (m : Machine) (pc : ℕ) : Type 0 where
  pub ok : Ok sizes (lent stack frames chain slots saved_stack saved_frames) (only m)
  pub narrow : pc < 2 ^ 32
  pub some : 1 ≤ m.depth

-- .. and a register for the answer
pub record AnswerFits (sizes : Sizes) (stack frames chain slots saved_stack saved_frames : List ℕ) (m : Machine) (pc r : ℕ) : Type 0 where
  pub entry : EntryFits sizes stack frames chain slots saved_stack saved_frames m pc
  pub result : RegFits stack frames m.height m.depth r

-- the register of a coroutine that waits for a word
pub record ArriveFits (stack frames : List ℕ) (height depth : ℕ) (a : Result Entered Fault) : Type 0 where
  pub waits : (x : ℕ) → a ≡ Result.Ok (Entered.Suspended x) → SendFits stack frames height depth x
