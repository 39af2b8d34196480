-- `coro_of` meets its contract: each field is its word. Assumes nothing.
use Rattle.heap.proofs.slot.coro_of.Goals as goal

pub returns : goal.returns
returns c = rw c.of_code.ensures
