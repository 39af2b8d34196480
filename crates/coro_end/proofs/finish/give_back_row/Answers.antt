-- `give_back_row` meets its contract, whether the coroutine is finished or not. Assumes nothing.
use mathlib.Core.Path.{refl, sym, ◌∙◌}
use Rattle.claims_sound.proofs.Tests.{no_true}
use Rattle.coro_end.proofs.finish.give_back_row.Goals as goal

pub returns-then-is_finished : goal.returns-then-is_finished
returns-then-is_finished c = record { row = λ e. no_true (sym (sym c.is_finished.ensures ∙ c.if-is_finished.true) ∙ e); none = λ e. (refl, refl) }

pub clear_row-requires : goal.clear_row-requires
clear_row-requires c = c.requires.row (sym c.is_finished.ensures ∙ c.if-is_finished.false)

pub returns : goal.returns
returns c = record { row = λ e. c.clear_row.ensures; none = λ e. no_true (sym e ∙ sym c.is_finished.ensures ∙ c.if-is_finished.false) }
