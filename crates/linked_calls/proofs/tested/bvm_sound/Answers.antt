-- `bvm_sound` meets its contract. Assumes nothing.
use mathlib.Core.Path.{sym, ap, ◌∙◌}
use Rattle.lists.specs.Pick.{pick_true, pick-false}
use Rattle.linked_calls.specs.Host.{one_or}
use Rattle.linked_calls.proofs.tested.bvm_sound.Goals as goal

pub returns-then-tested : goal.returns-then-tested
returns-then-tested c = sym (ap one_or (sym c.tested.ensures ∙ c.if-tested.true) ∙ pick_true 1 0)

pub returns : goal.returns
returns c = sym (ap one_or (sym c.tested.ensures ∙ c.if-tested.false) ∙ pick-false 1 0)
