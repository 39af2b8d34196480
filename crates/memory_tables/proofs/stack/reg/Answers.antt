-- `reg` meets its contract: a word of the stack. Assumes nothing.
use Rattle.memory_tables.proofs.Doing.{gets}
use Rattle.memory_tables.proofs.stack.reg.Goals as goal

pub returns : goal.returns
returns c =
    let a = c.args in
    gets a.stack.now a.frames.now a.height a.depth a.r c.requires c.base_at-low.result c.base_at-low.ensures
