-- `short` meets its contract. Assumes nothing.
use mathlib.Core.Path.{sym, ap, ◌∙◌}
use Rattle.lists.specs.Pick.{pick_true, pick-false}
use Rattle.linked_calls.specs.Host.{short}
use Rattle.linked_calls.proofs.tested.short.Goals as goal

pub returns-then-ok : goal.returns-then-ok
returns-then-ok c = sym (ap short c.if-ok.true ∙ pick_true 14 11)

pub returns : goal.returns
returns c = sym (ap short c.if-ok.false ∙ pick-false 14 11)
