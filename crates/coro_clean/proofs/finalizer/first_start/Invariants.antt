-- `first_start` meets its contract: the first of the words that are left is the first of all. Assumes nothing.
use Prim.Native.Nat.{◌≤◌, ◌-◌}
use Rattle.coro_clean.specs.Start.{starts}
use Rattle.coro_clean.proofs.Search.{Ahead}
use Rattle.coro_clean.proofs.finalizer.first_start.Given as goal

abbrev pub invariant-loop-i : goal.invariant-loop-i
invariant-loop-i l = (l.i ≤ l.m.finalize) × Ahead (starts l.slots l.m l.sizes) l.finalize l.m.finalize l.i

abbrev pub decreases-loop-i : goal.decreases-loop-i
decreases-loop-i l = l.m.finalize - l.i
