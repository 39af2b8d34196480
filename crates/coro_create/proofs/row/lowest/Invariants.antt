-- `lowest` meets its contract: each row passed has a mark. Assumes nothing.
use Rattle.std.proofs.Common.{◌≡◌, ◌-◌, ◌≤◌, false, length, get_or}
use Rattle.coro_create.specs.Row.{lowest_by}
use Rattle.coro_create.proofs.row.lowest.Given as goal

abbrev pub invariant-loop-i : goal.invariant-loop-i
invariant-loop-i l = (l.i ≤ l.rows) × (l.rows ≤ 64) × (length l.held ≡ 64) × (lowest_by (λ n. get_or l.held n false) l.rows 0 ≡ lowest_by (λ n. get_or l.held n false) (l.rows - l.i) l.i)

abbrev pub decreases-loop-i : goal.decreases-loop-i
decreases-loop-i l = l.rows - l.i
