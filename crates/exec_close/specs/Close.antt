-- coro.rs: exec, CoroClose, on the lent words.
use Rattle.std.specs.Prelude.{List, ℕ, ◌^◌, ◌<◌}
use Rattle.lists.specs.Pick.{pick}
use Rattle.heap.specs.Word.{nil}
use Rattle.heap.specs.declared.object.CoroState.{CoroState}
use Rattle.model.specs.State.{is_created}
use Rattle.model.specs.World.{World}
use Rattle.model.specs.Coro.{finish_coroutine}
use Rattle.memory_tables.specs.Does.{RegFits}
use Rattle.memory_world.specs.Lendings.{lent}
use Rattle.memory_world.specs.Contract.{Ok, only}
use Rattle.memory_world.specs.declared.machine.Machine.{Machine}
use Rattle.memory_world.specs.declared.machine.Sizes.{Sizes}

-- a coroutine that was never entered returns nil
abbrev pub end_created : CoroState → ℕ → World → World
end_created s v w = pick (is_created s) (finish_coroutine v CoroState.Returned nil w) w

-- a sound world, and operands that the gate has tested
pub record CloseFits (sizes : Sizes) (stack frames chain slots saved_stack saved_frames : List ℕ) (m : Machine) (pc dst c src : ℕ) : Type 0 where
  pub ok : Ok sizes (lent stack frames chain slots saved_stack saved_frames) (only m)
  pub narrow : pc < 2 ^ 32
  pub result : RegFits stack frames m.height m.depth dst
  pub coro : RegFits stack frames m.height m.depth c
  pub signal : RegFits stack frames m.height m.depth src
