-- `play` meets its contract: what is left, done to the present, is the whole done to the start. Assumes nothing.
use Rattle.std.proofs.Common.{refl}
use Rattle.memory_world.specs.Lendings.{plain}
use Rattle.outer_call.specs.State.{nine, state}
use Rattle.furnace.specs.Watch.{watched, none}
use Rattle.furnace.proofs.Playing.{along-more}
use Rattle.furnace.proofs.play.Goals as goal

pub loop-i-preserved : goal.loop-i-preserved
loop-i-preserved c =
    let a = c.args in
    let l = c.loop-i in
    let kept = c.turn-did.auto in
    along-more
    (watched (state (nine a.stack.now a.frames.now a.chain.now a.slots.now a.saved_stack.now a.saved_frames.now a.ready.now a.finalize.now a.setup.now plain) a.m a.fuel) a.notes.now none)
    (watched (state (nine l.stack l.frames l.chain l.slots l.saved_stack l.saved_frames l.ready l.finalize a.setup.now plain) l.k l.f) l.notes l.count)
    _ l.i l.invariant c.loop-i-test.true c.call-op.result c.call-op.ensures c.turn-did.ensures
    (record { stack = kept.stack; frames = kept.frames; chain = kept.chain; slots = kept.slots; saved_stack = kept.saved_stack; saved_frames = kept.saved_frames; ready = kept.ready; finalize = kept.finalize; setup = refl })
    kept.notes
