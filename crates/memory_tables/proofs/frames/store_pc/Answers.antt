-- `store_pc` meets its contract: a store to the top frame. Assumes nothing.
use Rattle.memory_tables.proofs.Doing.{stores}
use Rattle.memory_tables.proofs.frames.store_pc.Goals as goal

pub returns : goal.returns
returns c = stores c.args.frames.now c.args.depth c.args.pc c.requires.0
