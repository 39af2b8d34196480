-- `Heap::lacks` meets its contract: memory is tested before slots. Assumes nothing.
use mathlib.Core.Path.{sym, ◌∙◌}
use borrow.Author.Tests.{lt-ltb, le-ltb}
use Rattle.lists.specs.Pick.{pick}
use Rattle.heap.proofs.heap.Heap.lacks.Goals as goal

pub returns-then-not-fits : goal.returns-then-not-fits
unfolding pick
returns-then-not-fits c = rw (sym c.fits.ensures ∙ c.if-not-fits.true)

pub returns-then-self : goal.returns-then-self
unfolding pick
returns-then-self c = rw (sym c.fits.ensures ∙ c.if-not-fits.false, lt-ltb _ _ c.if-self.true)

pub returns-else-self : goal.returns-else-self
unfolding pick
returns-else-self c = rw (sym c.fits.ensures ∙ c.if-not-fits.false, le-ltb _ _ c.if-self.false)
