-- `frame_at` meets its contract: six words read. Assumes nothing.
use Rattle.memory_tables.proofs.Codes.{frame-read}
use Rattle.memory_tables.proofs.frame.frame_at.Goals as goal

pub returns : goal.returns
returns c = frame-read c.args.frames.now c.args.i c.cont_of-cont.result c.cont_of-cont.ensures
