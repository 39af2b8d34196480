-- `write_entered` meets its contract: five words are written. Assumes nothing.
use native.Mathlib.Omega.{arith}
use lib.ListN.{length-set}
use Rattle.heap.proofs.slot.write_entered.Goals as goal

pub bounds-s-11-2 : goal.bounds-s-11-2
bounds-s-11-2 c = simp length-set (omega arith)

pub returns : goal.returns
returns c = rw (c.code.ensures, c.larger-maxframes.ensures, c.larger-maxregs.ensures)
