-- `sizes` meets its contract. Assumes nothing.
use Rattle.memory_world.proofs.Widest.{told}
use Rattle.memory_world.proofs.sizes.sizes.Goals as goal

pub returns : goal.returns
returns c =
    told c.args.setup.now c.limits-limits.result c.costs-costs.result c.row_words-width.result
    c.limits-limits.ensures c.costs-costs.ensures c.row_words-width.ensures
