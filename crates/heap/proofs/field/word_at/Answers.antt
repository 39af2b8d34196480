-- `word_at` meets its contract. Assumes nothing.
use mathlib.Core.Path.{sym}
use Rattle.lists.proofs.Tables.{chunk-get}
use Rattle.heap.proofs.field.word_at.Goals as goal

pub returns : goal.returns
returns c = sym (chunk-get 20 c.args.i c.args.k c.args.slots.now c.requires.1)
