-- `halted` meets its contract. Assumes nothing.
use mathlib.Core.Path.{ap, ◌∙◌}
use Rattle.lists.specs.Pick.{pick_true, pick-false}
use Rattle.model.specs.Machine.{stop_or}
use Rattle.machine_unwind.specs.Turns.{on}
use Rattle.machine_unwind.proofs.turn.halted.Goals as goal

pub returns-then-stops : goal.returns-then-stops
returns-then-stops c = λ w. ap (stop_or on w) c.if-stops.true ∙ pick_true _ _

pub returns : goal.returns
returns c = λ w. ap (stop_or on w) c.if-stops.false ∙ pick-false _ _
