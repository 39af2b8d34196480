-- `signal_after` meets its contract. Assumes nothing.
use mathlib.Core.Path.{sym, ap, ◌∙◌}
use Rattle.lists.specs.Pick.{pick, pick_true, pick-false}
use Rattle.heap.specs.Word.{nil}
use Rattle.coro_suspend.proofs.suspend.signal_after.Goals as goal

pub returns-then-ignored : goal.returns-then-ignored
returns-then-ignored c = let a = c.args in sym (ap (λ b. pick b nil a.signal) c.if-ignored.true ∙ pick_true _ _)

pub returns-else-ignored : goal.returns-else-ignored
returns-else-ignored c = let a = c.args in sym (ap (λ b. pick b nil a.signal) c.if-ignored.false ∙ pick-false _ _)
