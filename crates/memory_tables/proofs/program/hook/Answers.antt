-- `hook` meets its contract, by its test. Assumes nothing.
use Rattle.std.proofs.Common.{ne_eqb}
use Rattle.lists.specs.Pick.{pick}
use Rattle.memory_tables.proofs.program.hook.Goals as goal

pub returns-then-setup-eq0 : goal.returns-then-setup-eq0
unfolding pick
returns-then-setup-eq0 c = rw c.if-setup-eq0.true

pub returns : goal.returns
unfolding pick
returns c = rw (ne_eqb _ _ c.if-setup-eq0.false)
