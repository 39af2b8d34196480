-- `state_at` meets its contract. Assumes nothing.
use mathlib.Core.Path.{ap, ◌∙◌}
use Rattle.heap.specs.Object.{state_of}
use Rattle.heap.proofs.field.state_at.Goals as goal

pub returns : goal.returns
returns c = c.of_code.ensures ∙ ap state_of c.word_at.ensures
