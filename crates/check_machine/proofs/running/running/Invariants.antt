-- `running` meets its contract: the active ones passed so far run, and the set has their slots. Assumes nothing.
use Prim.Native.Nat.{◌-◌}
use Rattle.heap.specs.Heap.{slots_of}
use Rattle.check_machine.proofs.Chained.{Passed}
use Rattle.check_machine.proofs.running.running.Given as goal

abbrev pub invariant-loop-k : goal.invariant-loop-k
invariant-loop-k l = Passed (slots_of l.count l.slots) l.chain l.n l.k l.seen
