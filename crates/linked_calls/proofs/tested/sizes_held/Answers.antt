-- `sizes_held` meets its contract. Assumes nothing.
use mathlib.Core.Path.{ap₂, ◌∙◌}
use Rattle.linked_calls.specs.Host.{same_sizes}
use Rattle.linked_calls.proofs.tested.sizes_held.Goals as goal

pub sizes_of-a-requires : goal.sizes_of-a-requires
sizes_of-a-requires c = c.requires.numbers

pub sizes-b-requires : goal.sizes-b-requires
sizes-b-requires c = c.requires.setup

pub returns : goal.returns
returns c = c.same_sizes.ensures ∙ ap₂ same_sizes c.sizes_of-a.ensures c.sizes-b.ensures.words
