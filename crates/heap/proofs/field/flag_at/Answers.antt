-- `flag_at` meets its contract. Assumes nothing.
use mathlib.Core.Path.{ap}
use Rattle.heap.specs.Slot.{is_set}
use Rattle.heap.proofs.field.flag_at.Goals as goal

pub returns : goal.returns
returns c = ap is_set c.word_at.ensures
