-- `put_reg` meets its contract: a store to the stack. Assumes nothing.
use Rattle.memory_tables.proofs.Doing.{puts}
use Rattle.memory_tables.proofs.stack.put_reg.Goals as goal

pub returns : goal.returns
returns c =
    let a = c.args in
    puts a.stack.now a.frames.now a.height a.depth a.r a.v c.requires c.base_at-base.result c.base_at-base.ensures
