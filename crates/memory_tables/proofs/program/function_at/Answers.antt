-- `function_at` meets its contract: three words and the handlers. Assumes nothing.
use Rattle.memory_tables.proofs.program.function_at.Goals as goal

pub returns : goal.returns
returns c = rw c.handlers_from-handlers.ensures
