-- `passed` meets its contract: what the definition answers of each continuation. Assumes nothing.
use mathlib.Core.Path.{sym, ap, ◌∙◌}
use Rattle.model.specs.Frames.{is_coro}
use Rattle.model.specs.Machine.{escape}
use Rattle.claims_sound.proofs.Tests.{no_true}
use Rattle.machine_unwind.specs.Turns.{on}
use Rattle.machine_unwind.proofs.turn.passed.Goals as goal

pub returns-in-Entry : goal.returns-in-Entry
returns-in-Entry c = λ w f pc. ap (λ k. escape k c.args.value f pc on w) c.in-Entry.is

pub returns-in-Write : goal.returns-in-Write
returns-in-Write c = λ w f pc. ap (λ k. escape k c.args.value f pc on w) c.in-Write.is

pub returns-in-Dyn : goal.returns-in-Dyn
returns-in-Dyn c = λ w f pc. ap (λ k. escape k c.args.value f pc on w) c.in-Dyn.is

pub returns-in-Value : goal.returns-in-Value
returns-in-Value c = λ w f pc. ap (λ k. escape k c.args.value f pc on w) c.in-Value.is

pub returns-in-Discard : goal.returns-in-Discard
returns-in-Discard c = λ w f pc. ap (λ k. escape k c.args.value f pc on w) c.in-Discard.is

pub returns-in-Coro : goal.returns-in-Coro
returns-in-Coro c = no_true (sym (ap is_coro c.in-Coro.is) ∙ c.requires)
