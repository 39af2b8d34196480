-- `clear_part` meets its contract: the part that is lent comes back as zeros. Assumes nothing.
use Rattle.memory_tables.proofs.Padded.{cleared}
use Rattle.memory_tables.proofs.runs.clear_part.Goals as goal

pub returns : goal.returns
returns c = cleared c.args.ws.now c.clear_words.new.s c.args.at c.args.n c.requires c.clear_words.ensures
