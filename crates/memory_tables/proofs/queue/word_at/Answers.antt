-- `word_at` meets its contract. Assumes nothing.
use Rattle.memory_tables.proofs.Queues.{peeks}
use Rattle.memory_tables.proofs.queue.word_at.Goals as goal

pub returns : goal.returns
returns c = let begin = c.args in peeks begin.queue.now begin.i
