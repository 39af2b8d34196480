-- coro.rs: spawn_task; 01: "Hand over": what they ask of the lent words.
use Rattle.memory_world.specs.Memory.{Lent, Beside}
use Rattle.memory_world.specs.Contract.{Ok, only}
use Rattle.memory_world.specs.declared.machine.Machine.{Machine}
use Rattle.memory_world.specs.declared.machine.Sizes.{Sizes}

-- a sound world, of some sizes: a queue that lacks a coroutine has room for it
pub record JoinFits (M : Beside → Lent) (m : Machine) : Type 0 where
  pub sizes : Sizes
  pub ok : Ok sizes M (only m)
