-- coro.rs: exec, Yield, YieldKv and Await, on the lent words.
use Rattle.std.specs.Prelude.{List, ℕ, ◌^◌, ◌<◌, Option, Some}
use Rattle.model.specs.World.{World}
use Rattle.model.specs.Heap.{coro, dyn_int}
use Rattle.model.specs.Exec.{largest_in, larger_of}
use Rattle.memory_tables.specs.Does.{RegFits}
use Rattle.memory_world.specs.Lendings.{lent}
use Rattle.memory_world.specs.Contract.{Ok, only}
use Rattle.memory_world.specs.declared.machine.Machine.{Machine}
use Rattle.memory_world.specs.declared.machine.Sizes.{Sizes}

-- the keys that a YieldKv of the coroutine v leaves
abbrev pub keys_for : ℕ → ℕ → World → Option (ℕ × ℕ)
keys_for v key w = Some (key, larger_of (largest_in (coro w v)) (dyn_int w key))

-- a sound world, and operands that the gate has tested
pub record YieldFits (sizes : Sizes) (stack frames chain slots saved_stack saved_frames : List ℕ) (m : Machine) (pc src : ℕ) : Type 0 where
  pub ok : Ok sizes (lent stack frames chain slots saved_stack saved_frames) (only m)
  pub narrow : pc < 2 ^ 32
  pub sent : RegFits stack frames m.height m.depth src

pub record YieldKvFits (sizes : Sizes) (stack frames chain slots saved_stack saved_frames : List ℕ) (m : Machine) (pc src key : ℕ) : Type 0 where
  pub plain : YieldFits sizes stack frames chain slots saved_stack saved_frames m pc src
  pub named : RegFits stack frames m.height m.depth key
