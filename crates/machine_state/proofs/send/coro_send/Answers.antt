-- `coro_send` meets its contract: a word put, and a pc stepped. Assumes nothing.
use Rattle.model.specs.World.{with_stack}
use Rattle.model.specs.Frames.{put_at, on_top, step_pc}
use Rattle.memory_world.specs.Memory.{on_stack}
use Rattle.memory_world.specs.Lendings.{top, plain}
use Rattle.memory_world.proofs.Turn.{turn-stack, turn-frames}
use Rattle.machine_state.proofs.send.coro_send.Goals as goal

pub returns : goal.returns
returns c =
    λ l w b rep. let M = top c.args.stack.now c.args.frames.now plain b in
    let xs = put_at w.frames c.args.dst c.args.v w.stack in
    let p = turn-stack l w M c.args.m b.fuel rep xs c.put_reg.new.stack c.args.m.height
    (c.put_reg.ensures w.stack w.frames rep.stack rep.frames) in
    turn-frames l (with_stack xs w) (on_stack c.put_reg.new.stack M) c.args.m b.fuel p (on_top step_pc w.frames) _ c.args.m.depth
    (c.step_pc.ensures w.frames rep.frames)
