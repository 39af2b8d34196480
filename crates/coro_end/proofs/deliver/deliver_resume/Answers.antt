-- `deliver_resume` meets the definition, event by event. Assumes nothing.
use Rattle.memory_world.specs.Lendings.{top, plain}
use Rattle.coro_end.proofs.Delivery.{sent, resume-yielded, resume-awaiting, resume-ignored}
use Rattle.coro_end.proofs.deliver.deliver_resume.Goals as goal

pub returns-in-Yielded : goal.returns-in-Yielded
returns-in-Yielded c =
    λ l w b rep. resume-yielded l _ c.args.m b.fuel w c.args.e c.args.dst c.in-Yielded.payload c.in-Yielded.key
    c.in-Yielded.is (sent l (top c.args.stack.now c.args.frames.now plain b) c.args.m b.fuel w rep _ _ c.args.dst
    c.in-Yielded.payload c.coro_send.ensures)

pub returns-in-Awaiting : goal.returns-in-Awaiting
returns-in-Awaiting c =
    λ l w b rep. resume-awaiting l _ c.args.m b.fuel w c.args.e c.args.dst c.in-Awaiting.payload c.in-Awaiting.is
    (sent l (top c.args.stack.now c.args.frames.now plain b) c.args.m b.fuel w rep _ _ c.args.dst c.in-Awaiting.payload
    c.coro_send-in-Awaiting.ensures)

pub returns-in-CloseIgnored : goal.returns-in-CloseIgnored
returns-in-CloseIgnored c = λ l w b rep. resume-ignored l _ c.args.m b.fuel w c.args.e c.args.dst c.in-CloseIgnored.is rep
