-- `entered_as` meets its contract, by the state. Assumes nothing.
use mathlib.Core.Path.{ap}
use Rattle.model.specs.State.{is_created}
use Rattle.coro_enter.proofs.Parts.{fresh-as, waits-as}
use Rattle.coro_enter.proofs.enter.entered_as.Goals as goal

pub returns-in-Created : goal.returns-in-Created
returns-in-Created c = fresh-as c.args.c c.in-Created.is

pub returns-in-Running : goal.returns-in-Running
returns-in-Running c = waits-as c.args.c (ap is_created c.in-Running.is)

pub returns-in-Yielded : goal.returns-in-Yielded
returns-in-Yielded c = waits-as c.args.c (ap is_created c.in-Yielded.is)

pub returns-in-Awaiting : goal.returns-in-Awaiting
returns-in-Awaiting c = waits-as c.args.c (ap is_created c.in-Awaiting.is)

pub returns-in-Returned : goal.returns-in-Returned
returns-in-Returned c = waits-as c.args.c (ap is_created c.in-Returned.is)

pub returns-in-Failed : goal.returns-in-Failed
returns-in-Failed c = waits-as c.args.c (ap is_created c.in-Failed.is)
