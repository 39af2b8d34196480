-- `closing_after` meets its contract. Assumes nothing.
use mathlib.Core.Path.{sym, ap, ◌∙◌}
use mathlib.Core.Bool.{false}
use Rattle.lists.specs.Pick.{pick, pick_true, pick-false}
use Rattle.coro_suspend.proofs.suspend.closing_after.Goals as goal

pub returns-then-ignored : goal.returns-then-ignored
returns-then-ignored c = let a = c.args in sym (ap (λ b. pick b false a.closing) c.if-ignored.true ∙ pick_true _ _)

pub returns-else-ignored : goal.returns-else-ignored
returns-else-ignored c = let a = c.args in sym (ap (λ b. pick b false a.closing) c.if-ignored.false ∙ pick-false _ _)
