-- `run_list` meets its contract: what is left, done to the present, is the whole done to the start. Assumes nothing.
use Rattle.memory_world.specs.Lendings.{plain}
use Rattle.outer_call.specs.State.{nine, state}
use Rattle.outer_run.proofs.Along.{Along}
use Rattle.outer_run.proofs.list.run_list.Given as goal

abbrev pub invariant-loop-i : goal.invariant-loop-i
invariant-loop-i l =
    Along l.sizes l.calls l.initial.answers l.n (state (nine l.initial.stack l.initial.frames l.initial.chain l.initial.slots l.initial.saved_stack l.initial.saved_frames l.initial.ready l.initial.finalize l.setup plain) l.initial.k l.initial.f)
    (state (nine l.stack l.frames l.chain l.slots l.saved_stack l.saved_frames l.ready l.finalize l.setup plain) l.k l.f) l.answers l.i
