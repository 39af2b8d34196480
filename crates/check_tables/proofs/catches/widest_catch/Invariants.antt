-- `widest_catch` meets its contract: read from the last, what was found is the widest of those from j on. Assumes nothing.
use mathlib.Core.Path.{◌≡◌}
use Prim.Native.Nat.{◌-◌, ◌≤◌}
use lib.ListN.{take, drop}
use Rattle.memory_tables.specs.Layout.{handlers_from}
use Rattle.check_tables.specs.Frames.{catch_width}
use Rattle.check_tables.proofs.catches.widest_catch.Given as goal

abbrev pub invariant-loop-j : goal.invariant-loop-j
invariant-loop-j l = (l.j ≤ l.n) × (l.most ≡ catch_width (drop l.j (take l.n (handlers_from 8 l.setup l.at))))
