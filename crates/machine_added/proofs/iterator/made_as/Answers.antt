-- `made_as` meets its contract. Assumes nothing.
use mathlib.Core.Path.{sym, ap}
use Rattle.model.specs.Added.{answer_made}
use Rattle.machine_added.proofs.iterator.made_as.Goals as goal

pub returns-in-Ok : goal.returns-in-Ok
returns-in-Ok c = λ w. sym (ap (λ x. (answer_made w x).answer) c.in-Ok.is)

pub returns-in-Err : goal.returns-in-Err
returns-in-Err c = λ w. sym (ap (λ x. (answer_made w x).answer) c.in-Err.is)
