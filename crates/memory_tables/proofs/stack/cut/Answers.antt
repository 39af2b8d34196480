-- `cut` meets its contract: the part that is lent comes back as zeros. Assumes nothing.
use Rattle.memory_tables.proofs.Doing.{cuts}
use Rattle.memory_tables.proofs.stack.cut.Goals as goal

pub returns : goal.returns
returns c = cuts c.args.stack.now c.clear_words.new.s c.args.height c.args.base c.requires.0 c.requires.1 c.clear_words.ensures
