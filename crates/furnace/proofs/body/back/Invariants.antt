-- `back` meets its contract: the words compared so far are as they should be. Assumes nothing.
use Rattle.std.proofs.Common.{◌≡◌, ◌+◌, ◌*◌, true, get_or}
use Rattle.lists.specs.Tests.{all_below}
use Rattle.furnace.specs.Watch.{word_back}
use Rattle.furnace.proofs.body.back.Given as goal

abbrev pub invariant-loop-p : goal.invariant-loop-p
invariant-loop-p l = all_below l.p (λ q. word_back l.sent l.n l.from l.to q (get_or l.notes (l.at + 17 + q) 0) (get_or l.frames (l.floor * 6 + q) 0)) ≡ true
