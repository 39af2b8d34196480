-- `told_outcome` meets its contract, by the outcome. Assumes nothing.
use mathlib.Core.Path.{sym, ap, ◌∙◌}
use Rattle.memory_world.specs.Told.{told}
use Rattle.memory_calls.proofs.answer.told_outcome.Goals as goal

pub returns-in-None : goal.returns-in-None
returns-in-None c = sym (ap told c.in-None.is)

pub returns-in-Some : goal.returns-in-Some
returns-in-Some c = c.told_stop.ensures ∙ sym (ap told c.in-Some.is)
