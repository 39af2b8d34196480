-- `all_zero` meets its contract: what was joined and what is left decide the whole. Assumes nothing.
use mathlib.Core.Path.{◌≡◌}
use Rattle.lists.specs.Tests.{zeros}
use Rattle.lists.proofs.Joined.{left}
use Rattle.lists.proofs.all_zero.Given as goal

abbrev pub invariant-loop-w : goal.invariant-loop-w
invariant-loop-w l = zeros l.s ≡ left l.s l.any l.w-index
