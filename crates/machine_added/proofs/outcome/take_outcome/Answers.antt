-- `take_outcome` meets its contract. Assumes nothing.
use Rattle.machine_added.proofs.Granting.{taken}
use Rattle.machine_added.proofs.outcome.take_outcome.Goals as goal

pub returns : goal.returns
returns c = λ l w b rep. taken l b.words c.args.m _ b.fuel w _ rep c.untold.ensures c.outcome_in-o.ensures
