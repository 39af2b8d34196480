-- `owner` meets its contract: those above do not own the frame. Assumes nothing.
use Rattle.std.proofs.Common.{◌≡◌}
use Rattle.furnace.specs.Watch.{owner_in}
use Rattle.furnace.proofs.watch.owner.Given as goal

abbrev pub invariant-loop-k : goal.invariant-loop-k
invariant-loop-k l = owner_in l.chain l.n l.i ≡ owner_in l.chain l.k l.i
