-- `outcome_of` meets its contract, event by event. Assumes nothing.
use mathlib.Core.Path.{sym, ap}
use Rattle.model.specs.Coro.{outcome_of}
use Rattle.coro_end.proofs.deliver.outcome_of.Goals as goal

pub returns-in-Yielded : goal.returns-in-Yielded
returns-in-Yielded c = sym (ap outcome_of c.in-Yielded.is)

pub returns-in-Awaiting : goal.returns-in-Awaiting
returns-in-Awaiting c = sym (ap outcome_of c.in-Awaiting.is)
