-- coro.rs: iter_next, on the lent words.
use Rattle.std.specs.Prelude.{Bool, ◌||◌, List, ℕ, ◌^◌, ◌<◌}
use Rattle.heap.specs.Heap.{TableFits}
use Rattle.heap.specs.declared.object.CoroState.{CoroState}
use Rattle.model.specs.State.{is_returned}
use Rattle.model.specs.Object.{is_done}
use Rattle.model.specs.World.{World}
use Rattle.model.specs.Frames.{put_reg}
use Rattle.model.specs.Heap.{object, set_done}
use Rattle.memory_tables.specs.Does.{RegFits}
use Rattle.memory_world.specs.Lendings.{lent}
use Rattle.memory_world.specs.Contract.{Ok, only}
use Rattle.memory_world.specs.declared.machine.Machine.{Machine}
use Rattle.memory_world.specs.declared.machine.Sizes.{Sizes}

-- the loop is at its end: the iterator is done, or its source has returned
abbrev pub exhausted : ℕ → CoroState → World → Bool
exhausted iter s w = is_done (object w iter) || is_returned s

-- the loop is told so, and its iterator is done
abbrev pub stopped : ℕ → ℕ → World → World
stopped has iter w = put_reg has 0 (set_done iter w)

pub record StopFits (stack frames slots : List ℕ) (m : Machine) (has : ℕ) : Type 0 where
  pub table : TableFits slots m.count
  pub flag : RegFits stack frames m.height m.depth has

-- a sound world, and operands that the gate has tested
pub record NextFits (sizes : Sizes) (stack frames chain slots saved_stack saved_frames : List ℕ) (m : Machine) (pc has iter src : ℕ) : Type 0 where
  pub ok : Ok sizes (lent stack frames chain slots saved_stack saved_frames) (only m)
  pub narrow : pc < 2 ^ 32
  pub flag : RegFits stack frames m.height m.depth has
  pub iterator : RegFits stack frames m.height m.depth iter
  pub source : RegFits stack frames m.height m.depth src
