-- `cont_in` meets its contract, by the continuation. Assumes nothing.
use mathlib.Core.Path.{sym, ap, ◌∙◌}
use Rattle.model.specs.Added.{cont_allowed}
use Rattle.exec_instruction.proofs.operands.cont_in.Goals as goal

pub returns-in-Entry : goal.returns-in-Entry
returns-in-Entry c = λ w b. sym (ap (cont_allowed w) c.in-Entry.is)

pub returns-in-Write : goal.returns-in-Write
returns-in-Write c = λ w b. c.in_frame.ensures w b ∙ sym (ap (cont_allowed w) c.in-Write.is)

pub returns-in-Dyn : goal.returns-in-Dyn
returns-in-Dyn c = λ w b. c.in_frame-in-Dyn.ensures w b ∙ sym (ap (cont_allowed w) c.in-Dyn.is)

pub returns-in-Value : goal.returns-in-Value
returns-in-Value c = λ w b. c.in_frame-in-Value.ensures w b ∙ sym (ap (cont_allowed w) c.in-Value.is)

pub returns-in-Discard : goal.returns-in-Discard
returns-in-Discard c = λ w b. sym (ap (cont_allowed w) c.in-Discard.is)

pub returns-in-Coro : goal.returns-in-Coro
returns-in-Coro c = λ w b. sym (ap (cont_allowed w) c.in-Coro.is)
