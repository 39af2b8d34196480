-- `bank_of` meets its contract, by the code. Assumes nothing.
use borrow.Author.Tests.{ne_eqb}
use Rattle.lists.specs.Pick.{pick}
use Rattle.linked_calls.proofs.numbers.bank_of.Goals as goal

pub returns-then-code-eq0 : goal.returns-then-code-eq0
unfolding pick
returns-then-code-eq0 c = rw c.if-code-eq0.true

pub returns : goal.returns
unfolding pick
returns c = rw (ne_eqb c.args.code 0 c.if-code-eq0.false)
