-- `pop` meets its contract. Assumes nothing.
use Rattle.memory_world.specs.Lendings.{top, plain}
use Rattle.machine_state.proofs.Frames.{pop-rep}
use Rattle.machine_state.proofs.frame.pop.Goals as goal

pub returns : goal.returns
returns c =
    let a = c.args in
    λ l w b rep.
    pop-rep l w (top a.stack.now a.frames.now plain b) a.m b.fuel rep c.requires.depth.some c.cut.new.stack c.pop_frame.new.frames _
    c.base_at-base.ensures c.cut.ensures c.pop_frame.ensures
