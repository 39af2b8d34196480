-- `put_closing` meets its contract. Assumes nothing.
use native.Mathlib.Omega.{arith}
use lib.ListN.{length-set}
use Rattle.lists.proofs.Tables.{chunk-set-two}
use Rattle.heap.proofs.field.put_closing.Goals as goal

pub bounds-slots-b-2 : goal.bounds-slots-b-2
bounds-slots-b-2 c = simp length-set (omega arith)

pub shape_of-slots : goal.shape_of-slots
shape_of-slots c = simp length-set

pub returns : goal.returns
returns c = let a = c.args in chunk-set-two 20 a.i 3 17 1 a.signal a.slots.now (omega arith) (omega arith)
