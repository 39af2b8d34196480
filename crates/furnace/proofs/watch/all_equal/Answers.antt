-- `all_equal` meets its contract. Assumes nothing.
use Rattle.furnace.proofs.Words.{none-woken, some-woken}
use Rattle.furnace.proofs.watch.all_equal.Goals as goal

pub returns-else-wakes-ne0 : goal.returns-else-wakes-ne0
returns-else-wakes-ne0 c = none-woken c.args.wakes c.args.equal c.if-wakes-ne0.false

pub returns-then-wakes-ne0 : goal.returns-then-wakes-ne0
returns-then-wakes-ne0 c = some-woken c.args.wakes c.args.equal c.if-wakes-ne0.true
