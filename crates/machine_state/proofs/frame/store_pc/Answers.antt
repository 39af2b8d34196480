-- `store_pc` meets its contract. Assumes nothing.
use Rattle.model.specs.Frames.{on_top, set_pc}
use Rattle.memory_world.specs.Memory.{on_frames}
use Rattle.memory_world.proofs.Turn.{turn-frames}
use Rattle.machine_state.proofs.frame.store_pc.Goals as goal

pub returns : goal.returns
returns c =
    λ l w b rep. turn-frames l w (on_frames c.args.frames.now b.words) c.args.m b.fuel rep (on_top (set_pc c.args.pc) w.frames) _
    c.args.m.depth (c.store_pc.ensures w.frames rep.frames)
