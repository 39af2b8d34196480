-- coro.rs: exec. An instruction by its row of the calls: its pc, the test of its operands, its arm.
use Rattle.std.specs.Prelude.{◌≡◌, Bool, true, false, ℕ, ◌^◌, ◌<◌}
use Rattle.model.specs.Lists.{is_nil}
use Rattle.model.specs.World.{World, After}
use Rattle.model.specs.Calls.{Instruction, table}
use Rattle.model.specs.declared.call.Op.{Op}
use Rattle.model.specs.declared.exec.Step.{Step}
use Rattle.model.specs.declared.machine.Fuel.{Fuel}
use Rattle.memory_world.specs.Memory.{Lent, Beside}
use Rattle.memory_world.specs.Contract.{Ok, with}
use Rattle.memory_world.specs.declared.machine.Machine.{Machine}
use Rattle.memory_world.specs.declared.machine.Sizes.{Sizes}

-- said of an operation that is an instruction, and of no other
abbrev pub OfInstruction : Op → (ℕ → (World → Bool) → (World → After Step) → Type 0) → Type 0
OfInstruction o said = (pc : ℕ) (operands : World → Bool) (arm : World → After Step) → table o ≡ Instruction pc operands arm → said pc operands arm

-- a sound world with a frame, in which an instruction's operands pass
pub record Past (sizes : Sizes) (M : Beside → Lent) (m : Machine) (fuel : Fuel) (o : Op) : Type 0 where
  pub ok : Ok sizes M (with m fuel)
  pub some : is_nil ok.world.frames ≡ false
  pub passed : OfInstruction o (λ pc operands arm. operands ok.world ≡ true)
  pub narrow : OfInstruction o (λ pc operands arm. pc < 2 ^ 32)

-- ---- the arms stand in three groups, each of which passes on what is none of its own

pub data Suspending : Op → Type 0 where
  yields : (pc dst src : ℕ) → Suspending (Op.Yield pc dst src)
  yields-kv : (pc dst src key : ℕ) → Suspending (Op.YieldKv pc dst src key)
  awaits : (pc dst src : ℕ) → Suspending (Op.Await pc dst src)

pub data Entering : Op → Type 0 where
  resumes : (pc dst coro src : ℕ) → Entering (Op.Resume pc dst coro src)
  throws : (pc dst coro src : ℕ) → Entering (Op.ResumeThrow pc dst coro src)
  closes : (pc dst coro src : ℕ) → Entering (Op.CoroClose pc dst coro src)
  draws : (pc has iter val src : ℕ) → Entering (Op.IterNext pc has iter val src)
