-- coro.rs: exec, CoroNew, on the lent words.
use Rattle.std.specs.Prelude.{List, ℕ, ◌+◌, ◌-◌, ◌*◌, ◌≤◌, ◌<◌, get_or}
use Rattle.memory_tables.specs.Layout.{base_in}
use Rattle.memory_tables.specs.Does.{RegFits}
use Rattle.memory_world.specs.Lendings.{top_making, plain}
use Rattle.memory_world.specs.Contract.{Ok, only}
use Rattle.memory_world.specs.declared.machine.Machine.{Machine}
use Rattle.memory_world.specs.declared.machine.Sizes.{Sizes}

-- a sound world, one of the set-up's functions, a register of the top frame, and the argument window after it on the stack
pub record NewFits (sizes : Sizes) (stack frames slots saved_stack saved_frames setup : List ℕ) (m : Machine) (dst f argc : ℕ) : Type 0 where
  pub ok : Ok sizes (top_making stack frames slots saved_stack saved_frames setup plain) (only m)
  pub function : f < get_or setup 13 0
  pub few : argc ≤ 255
  pub reg : RegFits stack frames m.height m.depth dst
  pub window : base_in frames (m.depth - 1) + dst + 1 + argc ≤ m.height
