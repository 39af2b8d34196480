-- `close_ready` meets its contract. Assumes nothing.
use borrow.Author.Rules.{rules}
use Rattle.machine_state.proofs.fuel.close_ready.Goals as goal

pub returns-else-running : goal.returns-else-running
returns-else-running c = rw c.if-running.false (search rules)
