-- `fail_all` meets its contract: those that are left fail in the present world as all do in that of the start. The measure is the number
-- of active coroutines. Assumes nothing.
use Rattle.memory_world.specs.Lendings.{plain}
use Rattle.coro_end.specs.Last.{ending}
use Rattle.coro_end.proofs.Failing.{Along}
use Rattle.coro_end.proofs.abort.fail_all.Given as goal

abbrev pub invariant-loop-n : goal.invariant-loop-n
invariant-loop-n l = Along l.sizes (ending l.initial.chain l.initial.slots l.initial.saved_stack l.initial.saved_frames plain) l.initial.n (ending l.chain l.slots l.saved_stack l.saved_frames plain) l.n

abbrev pub decreases-loop-n : goal.decreases-loop-n
decreases-loop-n l = l.n.active
