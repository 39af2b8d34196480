-- `write_suspended` meets its contract: eleven words are written. Assumes nothing.
use native.Mathlib.Omega.{arith}
use lib.ListN.{length-set}
use Rattle.heap.proofs.slot.write_suspended.Goals as goal

pub bounds-s-3 : goal.bounds-s-3
bounds-s-3 c = simp length-set (omega arith)

pub bounds-s-8 : goal.bounds-s-8
bounds-s-8 c = simp length-set (omega arith)

pub bounds-s-9 : goal.bounds-s-9
bounds-s-9 c = simp length-set (omega arith)

pub bounds-s-10 : goal.bounds-s-10
bounds-s-10 c = simp length-set (omega arith)

pub bounds-s-11 : goal.bounds-s-11
bounds-s-11 c = simp length-set (omega arith)

pub bounds-s-12 : goal.bounds-s-12
bounds-s-12 c = simp length-set (omega arith)

pub bounds-s-13 : goal.bounds-s-13
bounds-s-13 c = simp length-set (omega arith)

pub bounds-s-14 : goal.bounds-s-14
bounds-s-14 c = simp length-set (omega arith)

pub bounds-s-15 : goal.bounds-s-15
bounds-s-15 c = simp length-set (omega arith)

pub bounds-s-17 : goal.bounds-s-17
bounds-s-17 c = simp length-set (omega arith)

pub shape_of-s : goal.shape_of-s
shape_of-s c = simp length-set

pub returns : goal.returns
returns c = rw c.code.ensures
