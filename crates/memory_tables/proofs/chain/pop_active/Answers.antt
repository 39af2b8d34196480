-- `pop_active` meets its contract: the part that is lent comes back as zeros. Assumes nothing.
use Rattle.memory_tables.specs.Layout.{active_words}
use Rattle.memory_tables.proofs.Codes.{length-active}
use Rattle.memory_tables.proofs.Doing.{pops-cleared}
use Rattle.memory_tables.proofs.chain.pop_active.Goals as goal

pub returns : goal.returns
returns c =
    pops-cleared active_words length-active c.args.chain.now c.clear_words.new.s c.args.n c.requires.0 c.requires.1
    c.clear_words.ensures
