-- `put` meets its contract. Assumes nothing.
use Rattle.model.specs.Frames.{put_at}
use Rattle.memory_world.specs.Memory.{on_stack, on_frames}
use Rattle.memory_world.proofs.Turn.{turn-stack}
use Rattle.machine_state.proofs.frame.put.Goals as goal

pub returns : goal.returns
returns c =
    λ l w b rep. turn-stack l w (on_stack c.args.stack.now (on_frames c.args.frames.now b.words))
    c.args.m b.fuel rep (put_at w.frames c.args.r c.args.v w.stack) _ c.args.m.height
    (c.put_reg.ensures w.stack w.frames rep.stack rep.frames)
