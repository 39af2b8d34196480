-- `step_pc` meets its contract: a store to the top frame. Assumes nothing.
use Rattle.memory_tables.proofs.Doing.{steps}
use Rattle.memory_tables.proofs.frames.step_pc.Goals as goal

pub returns : goal.returns
returns c = steps c.args.frames.now c.args.depth c.wrapping_add_u32.result c.requires.0 c.wrapping_add_u32.ensures.value
