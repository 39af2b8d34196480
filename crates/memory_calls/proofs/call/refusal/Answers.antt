-- `refusal` meets its contract, by the test and by whether a frame stands. Assumes nothing.
use Rattle.memory_calls.proofs.Gates.{no-frame, in_frame, idle, busy}
use Rattle.memory_calls.proofs.call.refusal.Goals as goal

pub returns-then-depth-eq0 : goal.returns-then-depth-eq0
returns-then-depth-eq0 c = let a = c.args in no-frame a.g a.depth c.in-Frame.is c.if-depth-eq0.true

pub returns-then-depth-eq0-2 : goal.returns-then-depth-eq0-2
returns-then-depth-eq0-2 c = let a = c.args in idle a.g a.depth c.in-Host.is c.if-depth-eq0-2.true

pub returns-else-depth-eq0 : goal.returns-else-depth-eq0
returns-else-depth-eq0 c = let a = c.args in in_frame a.g a.depth c.in-Frame.is c.if-depth-eq0.false

pub returns-else-depth-eq0-2 : goal.returns-else-depth-eq0-2
returns-else-depth-eq0-2 c = let a = c.args in busy a.g a.depth c.in-Host.is c.if-depth-eq0-2.false
