-- coro.rs: coro_returned. The body's frame has been popped: the top frame is the driver's, and ends where the stack does.
use Rattle.std.specs.Prelude.{◌≡◌, Bool, true, List, [], ◌∷◌, ℕ, ◌^◌, ◌<◌, length}
use Rattle.model.specs.Frames.{top_pc}
use Rattle.model.specs.Sound.{driver_lies}
use Rattle.model.specs.declared.machine.Active.{Active}
use Rattle.model.specs.declared.machine.Frame.{Frame}
use Rattle.memory_world.specs.Memory.{Lent, Beside}
use Rattle.memory_world.specs.Rows.{Rowed}
use Rattle.memory_world.specs.Contract.{SomeWorld, only}
use Rattle.memory_world.specs.declared.machine.Machine.{Machine}
use Rattle.memory_world.specs.declared.machine.Sizes.{Sizes}

-- the registers of the innermost coroutine's driver lie in the top frame
abbrev pub last_lies : List Active → ℕ → List Frame → Bool
last_lies [] end fs = true
last_lies (a ∷ chain) end fs = driver_lies a.driver end fs

-- the words stand for such a world, whose rows are in order and whose top pc has 32 bits
pub record ReturnFits (sizes : Sizes) (M : Beside → Lent) (m : Machine) : Type 0 where
  pub held : SomeWorld (λ w. Rowed w.setup w.slots) sizes M (only m)
  pub lies : last_lies held.world.chain (length held.world.stack) held.world.frames ≡ true
  pub pc : top_pc held.world.frames < 2 ^ 32
