-- `refuel` meets its contract. Assumes nothing.
use mathlib.Core.Path.{sym, ap, ◌∙◌}
use Rattle.model.specs.Fuel.{fuel_of}
use Rattle.model.specs.Added.{refuel}
use Rattle.machine_added.proofs.fuel.refuel.Goals as goal

pub returns-in-None : goal.returns-in-None
returns-in-None c = sym (ap (λ b. refuel b c.args.n c.args.f) c.in-None.is ∙ ap (λ b. fuel_of c.args.n b c.args.f.ready) c.in-None.is)

pub returns-in-Some : goal.returns-in-Some
returns-in-Some c = sym (ap (λ b. refuel b c.args.n c.args.f) c.in-Some.is)
