-- An outcome comes back from its words, so two outcomes have not the same words. Assumes nothing.
use mathlib.Core.Path.{◌≡◌, refl}
use Rattle.lists.specs.Pick.{pick}
use Rattle.std.specs.Prelude.{Option, Some, None}
use Rattle.model.specs.declared.machine.Stop.{Stop}
use Rattle.memory_world.specs.Told.{told, outcome_in}

pub told_back : (o : Option Stop) → outcome_in (told o) ≡ o
unfolding pick
told_back None = refl
told_back (Some (Stop.Yielded v)) = refl
told_back (Some (Stop.Awaiting v)) = refl
told_back (Some (Stop.Returned v)) = refl
told_back (Some (Stop.Failed v f p)) = refl
told_back (Some Stop.CloseIgnored) = refl
