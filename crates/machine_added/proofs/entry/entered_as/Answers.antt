-- `entered_as` meets its contract. Assumes nothing.
use mathlib.Core.Path.{sym, ap}
use Rattle.model.specs.Added.{host_arrive}
use Rattle.machine_added.proofs.Entering.{accepts}
use Rattle.machine_added.proofs.entry.entered_as.Goals as goal

pub returns-in-Ok : goal.returns-in-Ok
returns-in-Ok c = λ v w. accepts v w _ _ c.in-Ok.is

pub returns-in-Err : goal.returns-in-Err
returns-in-Err c = λ v w. sym (ap (λ x. (host_arrive v w x).answer) c.in-Err.is)
