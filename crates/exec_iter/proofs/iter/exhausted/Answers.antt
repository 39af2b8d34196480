-- `exhausted` meets its contract, by what the iterator says and then its source. Assumes nothing.
use mathlib.Core.Path.{◌∙◌}
use Rattle.memory_world.specs.Lendings.{table, plain}
use Rattle.exec_iter.proofs.Looped.{done-in, end-done, end-returned}
use Rattle.exec_iter.proofs.iter.exhausted.Goals as goal

pub returns-then-is_done : goal.returns-then-is_done
returns-then-is_done c =
    λ l w b rep. end-done c.args.iter c.args.s w
    (done-in l (table c.args.slots.now plain b) c.args.m b.fuel w rep c.args.iter _ c.is_done.ensures ∙ c.if-is_done.true)

pub returns : goal.returns
returns c =
    λ l w b rep. end-returned c.args.iter c.args.s w c.is_returned.result
    (done-in l (table c.args.slots.now plain b) c.args.m b.fuel w rep c.args.iter _ c.is_done.ensures ∙ c.if-is_done.false) c.is_returned.ensures
