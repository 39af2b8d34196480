-- `wanted` meets its contract. Assumes nothing.
use Rattle.furnace.proofs.Words.{sent-there, sent-elsewhere, sent-none}
use Rattle.furnace.proofs.watch.wanted.Goals as goal

pub returns-then-i-place : goal.returns-then-i-place
returns-then-i-place c = let a = c.args in sent-there a.sent a.place _ a.i a.held.now c.in-Some.is c.if-i-place.true c.requires

pub returns-else-i-place : goal.returns-else-i-place
returns-else-i-place c = let a = c.args in sent-elsewhere a.sent a.place a.i a.held.now c.if-i-place.false

pub returns-in-None : goal.returns-in-None
returns-in-None c = let a = c.args in sent-none a.sent a.place a.i a.held.now c.in-None.is
