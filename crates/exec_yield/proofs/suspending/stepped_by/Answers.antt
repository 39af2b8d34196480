-- `stepped_by` meets its contract. Assumes nothing.
use mathlib.Core.Path.{sym, ap}
use Rattle.exec_yield.specs.Suspend.{stepped_by}
use Rattle.exec_yield.proofs.suspending.stepped_by.Goals as goal

pub returns-in-Ok : goal.returns-in-Ok
returns-in-Ok c = ap stepped_by (sym c.in-Ok.is)

pub returns-in-Err : goal.returns-in-Err
returns-in-Err c = ap stepped_by (sym c.in-Err.is)
