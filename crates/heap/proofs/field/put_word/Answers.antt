-- `put_word` meets its contract. Assumes nothing.
use Rattle.lists.proofs.Tables.{chunk-set}
use Rattle.heap.proofs.field.put_word.Goals as goal

pub returns : goal.returns
returns c = let a = c.args in chunk-set 20 a.i a.k a.v a.slots.now c.requires.1
