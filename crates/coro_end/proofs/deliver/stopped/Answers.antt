-- `stopped` meets its contract by that of `told_stop`. Assumes nothing.
use Rattle.coro_end.proofs.deliver.stopped.Goals as goal

pub returns : goal.returns
returns c = rw c.told_stop-outcome.ensures
