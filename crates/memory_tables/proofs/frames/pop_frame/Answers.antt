-- `pop_frame` meets its contract: the part that is lent comes back as zeros. Assumes nothing.
use Rattle.memory_tables.specs.Layout.{frame_words}
use Rattle.memory_tables.proofs.Codes.{length-frame}
use Rattle.memory_tables.proofs.Doing.{pops-cleared}
use Rattle.memory_tables.proofs.frames.pop_frame.Goals as goal

pub returns : goal.returns
returns c =
    pops-cleared frame_words length-frame c.args.frames.now c.clear_words.new.s c.args.depth c.requires.0 c.requires.1
    c.clear_words.ensures
