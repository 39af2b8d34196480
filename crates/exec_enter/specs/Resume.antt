-- coro.rs: exec, Resume and ResumeThrow, on the lent words.
use Rattle.std.specs.Prelude.{List, ℕ, ◌^◌, ◌<◌}
use Rattle.memory_tables.specs.Does.{RegFits}
use Rattle.memory_world.specs.Lendings.{lent}
use Rattle.memory_world.specs.Contract.{Ok, only}
use Rattle.memory_world.specs.declared.machine.Machine.{Machine}
use Rattle.memory_world.specs.declared.machine.Sizes.{Sizes}

-- a sound world, and operands that the gate has tested
pub record ResumeFits (sizes : Sizes) (stack frames chain slots saved_stack saved_frames : List ℕ) (m : Machine) (pc c src : ℕ) : Type 0 where
  pub ok : Ok sizes (lent stack frames chain slots saved_stack saved_frames) (only m)
  pub narrow : pc < 2 ^ 32
  pub coro : RegFits stack frames m.height m.depth c
  pub sent : RegFits stack frames m.height m.depth src
