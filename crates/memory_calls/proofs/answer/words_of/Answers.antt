-- `words_of` meets its contract, by the answer. Assumes nothing.
use mathlib.Core.Path.{sym, ap, ◌∙◌}
use Rattle.memory_calls.specs.Answer.{answer_words}
use Rattle.memory_calls.proofs.Answers.{stepped, took}
use Rattle.memory_calls.proofs.answer.words_of.Goals as goal

pub returns-in-Accepted : goal.returns-in-Accepted
returns-in-Accepted c = sym (ap answer_words c.in-Accepted.is)

pub returns-in-Word : goal.returns-in-Word
returns-in-Word c = sym (ap answer_words c.in-Word.is)

pub returns-in-Refused : goal.returns-in-Refused
returns-in-Refused c = rw (c.number.ensures, c.word.ensures) (sym (ap answer_words c.in-Refused.is))

pub returns-in-Stepped : goal.returns-in-Stepped
returns-in-Stepped c =
    let t = c.told_step-t.result in
    stepped t.0 t.1 t.2 c.in-Stepped.step c.in-Stepped.taken c.told_step-t.ensures ∙ sym (ap answer_words c.in-Stepped.is)

pub returns-in-Cleanup : goal.returns-in-Cleanup
returns-in-Cleanup c = sym (ap answer_words c.in-Cleanup.is)

pub returns-in-Unpaid : goal.returns-in-Unpaid
returns-in-Unpaid c = sym (ap answer_words c.in-Unpaid.is)

pub returns-in-Exit : goal.returns-in-Exit
returns-in-Exit c = c.exit_words.ensures ∙ sym (ap answer_words c.in-Exit.is)

pub returns-in-Resume : goal.returns-in-Resume
returns-in-Resume c = sym (ap answer_words c.in-Resume.is)

pub returns-in-Caught : goal.returns-in-Caught
returns-in-Caught c = sym (ap answer_words c.in-Caught.is)

pub returns-in-Stopped : goal.returns-in-Stopped
returns-in-Stopped c = sym (ap answer_words c.in-Stopped.is)

pub returns-in-Took : goal.returns-in-Took
returns-in-Took c = took c.told_outcome-t.result c.in-Took.o c.told_outcome-t.ensures ∙ sym (ap answer_words c.in-Took.is)
