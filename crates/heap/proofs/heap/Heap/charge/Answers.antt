-- `Heap::charge` meets its contract. Assumes nothing.
use mathlib.Core.Path.{sym, ◌∙◌}
use Rattle.lists.specs.Pick.{pick}
use Rattle.heap.proofs.heap.Heap.charge.Goals as goal

pub returns-then-fits : goal.returns-then-fits
unfolding pick
returns-then-fits c = rw (sym c.fits.ensures ∙ c.if-fits.true, c.sat_add.ensures)

pub returns-else-fits : goal.returns-else-fits
unfolding pick
returns-else-fits c = rw (sym c.fits.ensures ∙ c.if-fits.false)
