-- `woke` meets its contract: what is left decides the whole. Assumes nothing.
use Rattle.std.proofs.Common.{◌≡◌, drop}
use Rattle.memory_calls.specs.Codes.{same}
use Rattle.furnace.specs.Watch.{sent_to}
use Rattle.furnace.proofs.watch.woke.Given as goal

abbrev pub invariant-loop-i : goal.invariant-loop-i
invariant-loop-i l = same (sent_to l.sent l.place l.held) l.back ≡ same (drop l.i (sent_to l.sent l.place l.held)) (drop l.i l.back)
