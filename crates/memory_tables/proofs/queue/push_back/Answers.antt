-- `push_back` meets its contract: a store after the words. Assumes nothing.
use Rattle.memory_tables.proofs.Doing.{pushes-back}
use Rattle.memory_tables.proofs.queue.push_back.Goals as goal

pub returns : goal.returns
returns c = pushes-back c.args.queue.now c.args.n c.args.v c.requires
