-- `rows_ok` meets its contract: the slots from i on passed, and the set has their rows. Assumes nothing.
use Rattle.memory_world.specs.Decode.{setup_of}
use Rattle.check_tables.specs.Queue.{in_set}
use Rattle.check_machine.proofs.Holding.{RowsSoFar}
use Rattle.check_machine.proofs.Ranging.{Ranged}
use Rattle.check_machine.proofs.rows.rows_ok.Given as goal

abbrev pub invariant-loop-i : goal.invariant-loop-i
invariant-loop-i l = RowsSoFar l.sizes (setup_of l.setup) l.saved_stack l.saved_frames (in_set l.set) l.slots l.count l.mask l.i × Ranged l.slots l.count l.i
