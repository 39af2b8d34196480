-- `held_rows` meets its contract: what is left, marked on the present marks, is the whole marked on none. Assumes nothing.
use Rattle.std.proofs.Common.{◌≡◌, ◌-◌, ◌≤◌, Bool, false, length, drop, replicate}
use Rattle.heap.specs.Heap.{slots_of}
use Rattle.coro_create.specs.Row.{marked}
use Rattle.coro_create.proofs.row.held_rows.Given as goal

abbrev pub invariant-loop-i : goal.invariant-loop-i
invariant-loop-i l = (l.i ≤ l.count) × (length l.held ≡ 64) × (marked (slots_of l.count l.slots) (replicate {A = Bool} 64 false) ≡ marked (drop l.i (slots_of l.count l.slots)) l.held)

abbrev pub decreases-loop-i : goal.decreases-loop-i
decreases-loop-i l = l.count - l.i
