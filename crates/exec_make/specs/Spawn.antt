-- coro.rs: exec, Spawn, on the lent words.
use Rattle.std.specs.Prelude.{List, ℕ, ◌^◌, ◌≤◌, ◌<◌, None}
use Rattle.heap.specs.Word.{nil}
use Rattle.model.specs.World.{World, After, and_then}
use Rattle.model.specs.Frames.{store_pc}
use Rattle.model.specs.Cleanup.{charge}
use Rattle.model.specs.Machine.{push_frame}
use Rattle.model.specs.Exec.{hooked, call_hook}
use Rattle.model.specs.declared.exec.Step.{Step}
use Rattle.model.specs.declared.machine.Cont.{Cont}
use Rattle.memory_tables.specs.Layout.{function_in}
use Rattle.memory_world.specs.declared.machine.Machine.{Machine}
use Rattle.memory_world.specs.declared.machine.Sizes.{Sizes}
use Rattle.machine_state.specs.Frame.{CallFits}
use Rattle.exec_make.specs.Indirect.{IndirectFits}

-- the hook's frame, with the coroutine c in its first register
abbrev pub hook_frame : ℕ → ℕ → ℕ → ℕ → World → After Step
hook_frame hook pc dst c w = and_then (push_frame hook nil (Cont.Value dst) (store_pc pc w)) (hooked w c)

-- .. after its unit was paid
abbrev pub hook_paid : ℕ → ℕ → ℕ → ℕ → World → After Step
hook_paid hook pc dst c w = and_then (charge None w) (call_hook hook pc dst c)

-- a frame that calls, and a hook with a register
pub record HookFits (sizes : Sizes) (stack frames setup : List ℕ) (m : Machine) (pc hook : ℕ) : Type 0 where
  pub call : CallFits sizes stack frames setup m pc hook
  pub register : 1 ≤ (function_in setup hook).regs

pub record SpawnFits (sizes : Sizes) (stack frames slots saved_stack saved_frames setup : List ℕ) (m : Machine) (pc dst callee argc : ℕ) : Type 0 where
  pub indirect : IndirectFits sizes stack frames slots saved_stack saved_frames setup m dst callee argc
  pub narrow : pc < 2 ^ 32
