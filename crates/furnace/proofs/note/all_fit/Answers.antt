-- `all_fit` meets its contract. Assumes nothing.
use Rattle.std.proofs.Common.{Bool, ◌&&◌, sym, ap, ◌∙◌}
use Rattle.furnace.specs.Watch.{frames_fit}
use Rattle.furnace.proofs.note.all_fit.Goals as goal

pub returns-else-fits : goal.returns-else-fits
returns-else-fits c = let a = c.args in c.if-fits.false ∙ sym (ap (λ (b : Bool). b && (frames_fit a.frames.now a.floor a.depth)) (sym c.fits.ensures ∙ c.if-fits.false))

pub returns-then-fits : goal.returns-then-fits
returns-then-fits c = let a = c.args in c.fit.ensures ∙ sym (ap (λ (b : Bool). b && (frames_fit a.frames.now a.floor a.depth)) (sym c.fits.ensures ∙ c.if-fits.true))
