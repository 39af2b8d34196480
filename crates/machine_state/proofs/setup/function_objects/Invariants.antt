-- `function_objects` meets its contract: after i turns the objects of i functions stand there. Assumes nothing.
use Prim.Native.Nat.{◌-◌, ◌≤◌}
use mathlib.Core.Path.{◌≡◌}
use lib.ListN.{length}
use Rattle.memory_world.specs.Memory.{Slots}
use Rattle.machine_state.specs.Setup.{function_slots}
use Rattle.machine_state.proofs.setup.function_objects.Given as goal

abbrev pub invariant-loop-i : goal.invariant-loop-i
invariant-loop-i l = (l.i ≤ l.n) × (length l.slots ≡ length l.initial.slots) × Slots (function_slots l.i) l.slots l.i

abbrev pub decreases-loop-i : goal.decreases-loop-i
decreases-loop-i l = l.n - l.i
