-- `opt_of` meets its contract, by the code. Assumes nothing.
use borrow.Author.Tests.{ne_eqb}
use Rattle.lists.specs.Pick.{pick}
use Rattle.memory_calls.proofs.codes.opt_of.Goals as goal

pub returns-then-n-eq0 : goal.returns-then-n-eq0
unfolding pick
returns-then-n-eq0 c = rw c.if-n-eq0.true

pub returns : goal.returns
unfolding pick
returns c = rw (ne_eqb c.args.n 0 c.if-n-eq0.false, c.as_pc.ensures)
