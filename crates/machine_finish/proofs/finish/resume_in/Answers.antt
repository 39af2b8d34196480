-- `resume_in` meets the definition: the caller's pc steps, or it is refused. Assumes nothing.
use Rattle.memory_world.specs.Lendings.{frame, plain}
use Rattle.machine_finish.proofs.Ends.{resumes, resumes-not}
use Rattle.machine_finish.proofs.finish.resume_in.Goals as goal

pub returns-in-Ok : goal.returns-in-Ok
returns-in-Ok c =
    let a = c.args in
    λ l w b rep. resumes l (frame c.next_pc.new.frames plain b) a.m b.fuel w a.r tt c.in-Ok.is (c.next_pc.ensures l w b rep)

pub returns-in-Err : goal.returns-in-Err
returns-in-Err c =
    let a = c.args in
    λ l w b rep. resumes-not l (frame a.frames.now plain b) a.m b.fuel w a.r c.in-Err.f c.in-Err.is rep
