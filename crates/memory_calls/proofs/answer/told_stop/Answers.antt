-- `told_stop` meets its contract, by what the coroutine did. Assumes nothing.
use mathlib.Core.Path.{sym, ap}
use Rattle.memory_calls.specs.Answer.{told_stop}
use Rattle.memory_calls.proofs.answer.told_stop.Goals as goal

pub returns-in-Yielded : goal.returns-in-Yielded
returns-in-Yielded c = sym (ap told_stop c.in-Yielded.is)

pub returns-in-Awaiting : goal.returns-in-Awaiting
returns-in-Awaiting c = sym (ap told_stop c.in-Awaiting.is)

pub returns-in-Returned : goal.returns-in-Returned
returns-in-Returned c = sym (ap told_stop c.in-Returned.is)

pub returns-in-Failed : goal.returns-in-Failed
returns-in-Failed c = sym (ap told_stop c.in-Failed.is)

pub returns-in-CloseIgnored : goal.returns-in-CloseIgnored
returns-in-CloseIgnored c = sym (ap told_stop c.in-CloseIgnored.is)
