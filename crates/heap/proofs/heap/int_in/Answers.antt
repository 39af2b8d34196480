-- `int_in` meets its contract, by cases. Assumes nothing.
use Rattle.heap.proofs.heap.int_in.Goals as goal

pub returns-in-Int : goal.returns-in-Int
returns-in-Int c = rw c.in-Int.is
