-- `play` meets its contract: what is left, done to the present, is the whole done to the start. Assumes nothing.
use Rattle.memory_world.specs.Lendings.{plain}
use Rattle.outer_call.specs.State.{nine, state}
use Rattle.furnace.specs.Watch.{watched}
use Rattle.furnace.proofs.Playing.{Along}
use Rattle.furnace.proofs.play.Given as goal

abbrev pub invariant-loop-i : goal.invariant-loop-i
invariant-loop-i l =
    Along (watched (state (nine l.initial.stack l.initial.frames l.initial.chain l.initial.slots l.initial.saved_stack l.initial.saved_frames l.initial.ready l.initial.finalize l.setup plain) l.initial.k l.initial.f) l.initial.notes l.initial.count)
    (watched (state (nine l.stack l.frames l.chain l.slots l.saved_stack l.saved_frames l.ready l.finalize l.setup plain) l.k l.f) l.notes l.count) l.i
