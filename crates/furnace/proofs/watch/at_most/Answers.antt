-- `at_most` meets its contract. Assumes nothing.
use Rattle.std.proofs.Common.{◌∙◌}
use Rattle.furnace.proofs.Words.{at-most-min}
use Rattle.furnace.proofs.watch.at_most.Goals as goal

pub returns : goal.returns
returns c = c.min.ensures ∙ at-most-min c.args.most c.args.n
