-- `own_base` meets its contract. Assumes nothing.
use Rattle.std.proofs.Common.{ap, ◌∙◌}
use Rattle.memory_tables.specs.Layout.{base_in}
use Rattle.furnace.specs.Watch.{floor_in}
use Rattle.furnace.proofs.watch.own_base.Goals as goal

pub returns : goal.returns
returns c = c.base.ensures ∙ ap (base_in c.args.frames.now) (c.floor.ensures ∙ ap (floor_in c.args.chain.now) c.saturating_sub.ensures)
