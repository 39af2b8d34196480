-- `told_stop` meets its contract, by cases of what is told. Assumes nothing.
use mathlib.Core.Path.{sym, ap}
use Rattle.std.specs.Prelude.{Some}
use Rattle.memory_world.specs.Told.{told}
use Rattle.coro_end.proofs.deliver.told_stop.Goals as goal

pub returns-in-Yielded : goal.returns-in-Yielded
returns-in-Yielded c = sym (ap (λ s. told (Some s)) c.in-Yielded.is)

pub returns-in-Awaiting : goal.returns-in-Awaiting
returns-in-Awaiting c = sym (ap (λ s. told (Some s)) c.in-Awaiting.is)

pub returns-in-Returned : goal.returns-in-Returned
returns-in-Returned c = sym (ap (λ s. told (Some s)) c.in-Returned.is)

pub returns-in-Failed : goal.returns-in-Failed
returns-in-Failed c = sym (ap (λ s. told (Some s)) c.in-Failed.is)

pub returns-in-CloseIgnored : goal.returns-in-CloseIgnored
returns-in-CloseIgnored c = sym (ap (λ s. told (Some s)) c.in-CloseIgnored.is)
