-- `pushed_as` meets its contract. Assumes nothing.
use mathlib.Core.Path.{sym, ap}
use Rattle.model.specs.Added.{pushed_or}
use Rattle.machine_added.proofs.call.pushed_as.Goals as goal

pub returns-in-Ok : goal.returns-in-Ok
returns-in-Ok c = λ w u. sym (ap (λ x. (pushed_or w u x).answer) c.in-Ok.is)

pub returns-in-Err : goal.returns-in-Err
returns-in-Err c = λ w u. sym (ap (λ x. (pushed_or w u x).answer) c.in-Err.is)
