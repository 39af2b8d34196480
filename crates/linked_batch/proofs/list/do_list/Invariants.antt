-- `do_list` meets its contract: what is left, done to the present, is the whole done to the start. Assumes nothing.
use Rattle.memory_world.specs.Lendings.{plain}
use Rattle.outer_call.specs.State.{nine}
use Rattle.linked_calls.specs.Host.{host}
use Rattle.linked_batch.proofs.Going.{Going}
use Rattle.linked_batch.proofs.list.do_list.Given as goal

abbrev pub invariant-loop-i : goal.invariant-loop-i
invariant-loop-i l = Going (host (nine l.initial.stack l.initial.frames l.initial.chain l.initial.slots l.initial.saved_stack l.initial.saved_frames l.initial.ready l.initial.finalize l.setup plain) l.initial.machine l.initial.fuel) l.calls l.initial.answers l.n (host (nine l.stack l.frames l.chain l.slots l.saved_stack l.saved_frames l.ready l.finalize l.setup plain) l.machine l.fuel) l.answers l.i
