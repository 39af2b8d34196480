-- `put_setup` meets its contract: the whole slice is one row. Assumes nothing.
use mathlib.Core.Path.{◌∙◌}
use Rattle.machine_state.proofs.Fresh.{whole_row}
use Rattle.machine_state.proofs.setup.put_setup.Goals as goal

pub returns : goal.returns
returns c = c.fill_row.ensures ∙ whole_row c.args.setup.now c.args.given.now c.requires
