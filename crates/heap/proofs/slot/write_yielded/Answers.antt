-- `write_yielded` meets its contract: seven words are written. Assumes nothing.
use native.Mathlib.Omega.{arith}
use lib.ListN.{length-set}
use Rattle.heap.proofs.slot.write_yielded.Goals as goal

pub bounds-s-8 : goal.bounds-s-8
bounds-s-8 c = simp length-set (omega arith)

pub bounds-s-9 : goal.bounds-s-9
bounds-s-9 c = simp length-set (omega arith)

pub bounds-s-12 : goal.bounds-s-12
bounds-s-12 c = simp length-set (omega arith)

pub bounds-s-13 : goal.bounds-s-13
bounds-s-13 c = simp length-set (omega arith)

pub bounds-s-14 : goal.bounds-s-14
bounds-s-14 c = simp length-set (omega arith)

pub bounds-s-15 : goal.bounds-s-15
bounds-s-15 c = simp length-set (omega arith)

pub shape_of-s : goal.shape_of-s
shape_of-s c = simp length-set

pub returns : goal.returns
returns c = rw c.code.ensures
