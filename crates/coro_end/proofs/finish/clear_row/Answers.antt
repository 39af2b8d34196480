-- `clear_row` meets its contract: the two parts of the row are cleared. Assumes nothing.
use Rattle.coro_end.proofs.finish.clear_row.Goals as goal

pub returns : goal.returns
returns c = record { regs = c.clear_part.ensures; frames = c.clear_part-2.ensures }
