-- `catches` meets its contract: the widths of the functions passed so far. Assumes nothing.
use mathlib.Core.Path.{◌≡◌}
use Prim.Native.Nat.{ℕ, ◌-◌, ◌≤◌, ◌<◌}
use lib.ListN.{length, get_or}
use Rattle.check_tables.proofs.Widths.{width}
use Rattle.check_tables.proofs.catches.catches.Given as goal

abbrev pub invariant-loop-i : goal.invariant-loop-i
invariant-loop-i l = (l.i ≤ l.n) × (length l.need ≡ 32) × ((j : ℕ) → j < l.i → get_or l.need j 0 ≡ width l.setup j)
