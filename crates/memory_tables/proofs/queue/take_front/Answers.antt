-- `take_front` meets its contract: words move to the front, and the last places are cut. Assumes nothing.
use Rattle.memory_tables.proofs.Queues.{takes_front}
use Rattle.memory_tables.proofs.queue.take_front.Goals as goal

pub returns : goal.returns
returns c =
    takes_front c.args.queue.now c.move_down.new.s c.cut.new.stack c.args.n c.args.k
    c.requires.0 c.move_down.ensures c.cut.ensures
