-- `after` meets its contract: somebody was entered, or nobody. Assumes nothing.
use Rattle.std.proofs.Common.{get_or, ap}
use Rattle.furnace.proofs.Watching.{enters, stays}
use Rattle.furnace.proofs.tell.after.Goals as goal

pub returns-then-was-m : goal.returns-then-was-m
returns-then-was-m c =
    let a = c.args in
    enters a.stack.now a.frames.now a.chain.now a.m a.answer a.was a.notes.now a.count _ _ (ap (λ xs. get_or xs 0 0) c.words_of-told.ensures) c.if-was-m.true c.arrives-sent.ensures _ c.entered.ensures

pub returns-then-m-was : goal.returns-then-m-was
returns-then-m-was c = let a = c.args in stays a.stack.now a.frames.now a.chain.now a.m a.answer a.was a.notes.now a.count c.if-was-m.false

pub returns-else-m-was : goal.returns-else-m-was
returns-else-m-was c = let a = c.args in stays a.stack.now a.frames.now a.chain.now a.m a.answer a.was a.notes.now a.count c.if-was-m.false
