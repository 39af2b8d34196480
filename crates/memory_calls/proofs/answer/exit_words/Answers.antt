-- `exit_words` meets its contract, by the word. Assumes nothing.
use mathlib.Core.Path.{sym, ap}
use Rattle.memory_calls.specs.Answer.{exit_words}
use Rattle.memory_calls.proofs.answer.exit_words.Goals as goal

pub returns-in-None : goal.returns-in-None
returns-in-None c = sym (ap exit_words c.in-None.is)

pub returns-in-Some : goal.returns-in-Some
returns-in-Some c = sym (ap exit_words c.in-Some.is)
