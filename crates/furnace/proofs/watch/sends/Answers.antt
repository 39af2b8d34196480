-- `sends` meets its contract, arm by arm. Assumes nothing.
use Rattle.std.proofs.Common.{sym, ap}
use Rattle.furnace.proofs.Watching.{sends-word, no-sends}
use Rattle.furnace.specs.Watch.{sent_by}
use Rattle.furnace.proofs.watch.sends.Goals as goal

pub returns-in-Sends : goal.returns-in-Sends
returns-in-Sends c =
    let a = c.args in
    sends-word a.stack.now a.frames.now a.m a.p _ _ _ c.in-Sends.is c.top_base.ensures c.register.ensures

pub returns-in-Hands : goal.returns-in-Hands
returns-in-Hands c =
    let a = c.args in
    ap (sent_by a.stack.now a.frames.now a.m) (sym c.in-Hands.is)

pub returns-in_default : goal.returns-in_default
returns-in_default c =
    let a = c.args in
    no-sends a.stack.now a.frames.now a.m a.p c.in_default.in_default-own.keys3
