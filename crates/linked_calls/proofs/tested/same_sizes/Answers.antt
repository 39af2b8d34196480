-- `same_sizes` meets its contract: one equation after the other. Assumes nothing.
use Rattle.linked_calls.proofs.tested.same_sizes.Goals as goal

pub returns : goal.returns
returns c = cc
