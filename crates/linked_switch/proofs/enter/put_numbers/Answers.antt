-- `put_numbers` meets its contract: three stores. Assumes nothing.
use native.Mathlib.Omega.{arith}
use lib.ListN.{length-set}
use Rattle.linked_switch.proofs.enter.put_numbers.Goals as goal

pub bounds-machine-1 : goal.bounds-machine-1
bounds-machine-1 c = simp length-set (omega arith)

pub bounds-machine-2 : goal.bounds-machine-2
bounds-machine-2 c = simp length-set (omega arith)
