-- `event_of` meets its contract, by its two tests. Assumes nothing.
use mathlib.Core.Path.{sym, ◌∙◌}
use Rattle.coro_suspend.proofs.Parts.{awaits, ignored, yielded}
use Rattle.coro_suspend.proofs.suspend.event_of.Goals as goal

pub returns-then-is_awaiting : goal.returns-then-is_awaiting
returns-then-is_awaiting c = let a = c.args in awaits a.s a.payload a.closing a.key (sym c.is_awaiting.ensures ∙ c.if-is_awaiting.true)

pub returns-then-closing : goal.returns-then-closing
returns-then-closing c = let a = c.args in ignored a.s a.payload a.closing a.key (sym c.is_awaiting.ensures ∙ c.if-is_awaiting.false) c.if-closing.true

pub returns : goal.returns
returns c = let a = c.args in yielded a.s a.payload a.closing a.key (sym c.is_awaiting.ensures ∙ c.if-is_awaiting.false) c.if-closing.false
