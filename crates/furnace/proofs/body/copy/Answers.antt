-- `copy` meets its contract. Assumes nothing.
use Rattle.memory_tables.proofs.Padded.{moved}
use Rattle.furnace.proofs.body.copy.Goals as goal

pub returns : goal.returns
returns c = moved c.args.notes.now c.args.frames.now c.copy_words.new.dst c.args.to c.args.from c.args.n c.requires.1 c.copy_words.ensures
