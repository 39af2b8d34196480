-- `turn` meets its contract: the call is the outer call, noted before and counted after. Assumes nothing.
use Rattle.memory_world.specs.Lendings.{plain}
use Rattle.outer_call.specs.State.{nine, state}
use Rattle.furnace.proofs.Playing.{watched-is}
use Rattle.furnace.proofs.turn.Goals as goal

pub returns : goal.returns
returns c =
    let a = c.args in
    watched-is (state (nine a.stack.now a.frames.now a.chain.now a.slots.now a.saved_stack.now a.saved_frames.now a.ready.now a.finalize.now a.setup.now plain) a.m a.fuel) a.notes.now a.count a.op
    _ _ _ _ c.call-called.ensures c.before-was.ensures.0 c.before-was.ensures.1 c.after-told.ensures
