-- `entered` meets its contract: it starts, or it is woken. Assumes nothing.
use Rattle.std.proofs.Common.{ap, ◌∙◌}
use Rattle.furnace.specs.Watch.{coro_in, note_of}
use Rattle.furnace.proofs.Watching.{starts, wakes}
use Rattle.furnace.proofs.tell.entered.Goals as goal

-- it is the note of the coroutine that was entered
pub returns-then-n-eq0 : goal.returns-then-n-eq0
returns-then-n-eq0 c =
    let a = c.args in
    starts a.stack.now a.frames.now a.chain.now a.m a.sent a.notes.now a.count _ _
    (c.note_of-at.ensures ∙ ap note_of (c.coroutine-c.ensures ∙ ap (coro_in a.chain.now) c.saturating_sub.ensures)) c.at_most-n.ensures c.if-n-eq0.true

pub returns : goal.returns
returns c =
    let a = c.args in
    wakes a.stack.now a.frames.now a.chain.now a.m a.sent a.notes.now a.count _ _
    (c.note_of-at.ensures ∙ ap note_of (c.coroutine-c.ensures ∙ ap (coro_in a.chain.now) c.saturating_sub.ensures)) c.at_most-n.ensures c.if-n-eq0.false _ c.woken.ensures
