-- `place` meets its contract: nothing if the words are not sound, else as `look` says. Assumes nothing.
use mathlib.Core.Path.{refl, sym, ◌∙◌}
use mathlib.Core.Bool.{true, false}
use Rattle.claims_sound.proofs.Tests.{no_false}
use Rattle.outer_call.proofs.look.place.Goals as goal

pub returns-then-not-ok : goal.returns-then-not-ok
returns-then-not-ok c = record { sees = λ e. absurd (no_false (sym c.if-not-ok.true ∙ e)); empty = λ e. refl }

pub look-requires : goal.look-requires
look-requires c = c.requires c.if-not-ok.false

pub returns : goal.returns
returns c = record { sees = λ e. c.look.ensures; empty = λ e. absurd (no_false (sym e ∙ c.if-not-ok.false)) }
