-- `entries_ok` meets its contract: read from its end, what has been read is marked, and stands there once. Assumes nothing.
use Prim.Native.Nat.{◌-◌}
use Rattle.check_tables.proofs.Entries.{Entries}
use Rattle.check_tables.proofs.queue.entries_ok.Given as goal

abbrev pub invariant-loop-i : goal.invariant-loop-i
invariant-loop-i l = Entries l.task l.slots l.q l.n l.count l.seen l.i
