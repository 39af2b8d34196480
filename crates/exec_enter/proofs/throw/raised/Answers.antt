-- `raised` meets its contract, by what the entry answered. Assumes nothing.
use mathlib.Core.Path.{sym, ap}
use Rattle.exec_enter.specs.Throw.{raised}
use Rattle.exec_enter.proofs.throw.raised.Goals as goal

pub returns-in-Ok : goal.returns-in-Ok
returns-in-Ok c = sym (ap (raised c.args.v) c.in-Ok.is)

pub returns-in-Err : goal.returns-in-Err
returns-in-Err c = sym (ap (raised c.args.v) c.in-Err.is)
