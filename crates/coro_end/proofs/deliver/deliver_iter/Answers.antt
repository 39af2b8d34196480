-- `deliver_iter` meets the definition, event by event. Assumes nothing.
use Rattle.coro_end.proofs.Delivery.{iter-yielded, iter-awaiting, iter-ignored}
use Rattle.coro_end.proofs.deliver.deliver_iter.Goals as goal

pub returns-in-Yielded : goal.returns-in-Yielded
returns-in-Yielded c =
    λ l w b rep. iter-yielded l _ c.args.m b.fuel w c.args.e c.args.has c.args.val c.args.iter c.in-Yielded.payload
    c.in-Yielded.key c.in-Yielded.is (c.iter_yielded.ensures l w b rep)

pub returns-in-Awaiting : goal.returns-in-Awaiting
returns-in-Awaiting c = λ l w b rep. iter-awaiting l _ c.args.m b.fuel w c.args.e c.args.has c.args.val c.args.iter _ c.in-Awaiting.is rep

pub returns-in-CloseIgnored : goal.returns-in-CloseIgnored
returns-in-CloseIgnored c = λ l w b rep. iter-ignored l _ c.args.m b.fuel w c.args.e c.args.has c.args.val c.args.iter c.in-CloseIgnored.is rep
