-- `called` meets its contract, by what the word names and the set-up says. Assumes nothing.
use mathlib.Core.Path.{sym, ◌∙◌}
use Prim.Native.Nat.{◌<◌}
use native.Mathlib.Omega.{arith}
use lib.ListN.{get_or}
use borrow.Author.Tests.{ltb-true, not-true, not-false}
use Rattle.memory_world.specs.Memory.{Lent, Beside}
use Rattle.exec_make.specs.Indirect.{table_setup}
use Rattle.memory_world.specs.Lendings.{plain}
use Rattle.exec_make.proofs.Callee.{no-callee, no-function, other-count, is-callee}
use Rattle.exec_make.proofs.indirect.called.Lts as lts
use Rattle.exec_make.proofs.indirect.called.Reads as reads
use Rattle.exec_make.proofs.indirect.called.Tie as tie
use Rattle.exec_make.proofs.indirect.called.Goals as goal

abbrev Start : Type 0
Start = lts.Start tie.the-claims reads.Pre reads.Post

-- `called` meets its contract, by what the word names and the set-up says. Assumes nothing.
abbrev mem : Start → Beside → Lent
mem s b = table_setup s.args.slots.now s.args.setup.now plain b

pub returns-then-not-is_function : goal.returns-then-not-is_function
returns-then-not-is_function c =
    λ l w b rep.
    no-function l w (mem c.before.before.before.before.before.before.before b) c.args.m b.fuel rep c.args.v.0 c.args.argc c.in-Ok.f (sym c.in-Ok.is ∙ c.callee.ensures)
    (sym c.is_function.ensures ∙ c.if-not-is_function.true)

pub params_at-requires : goal.params_at-requires
params_at-requires c =
    let h : c.in-Ok.f < get_or c.args.setup.now 13 0 = ltb-true _ _ (sym c.is_function.ensures ∙ c.if-not-is_function.false) in
    omega (arith, c.requires.functions)

pub returns-then-params_at-argc : goal.returns-then-params_at-argc
returns-then-params_at-argc c =
    λ l w b rep.
    other-count l w (mem c.before.before.before.before.before.before.before.before.before b) c.args.m b.fuel rep c.args.v.0 c.args.argc c.in-Ok.f (sym c.in-Ok.is ∙ c.callee.ensures)
    (sym c.is_function.ensures ∙ c.if-not-is_function.false) (λ z. c.if-params_at-argc.true (c.params_at.ensures ∙ z))

pub returns-in-Err : goal.returns-in-Err
returns-in-Err c =
    λ l w b rep.
    no-callee l w (mem c.before.before.before.before.before b) c.args.m b.fuel rep c.args.v.0 c.args.argc c.in-Err.g (sym c.in-Err.is ∙ c.callee.ensures)

pub returns-else-params_at-argc : goal.returns-else-params_at-argc
returns-else-params_at-argc c =
    λ l w b rep.
    is-callee l w (mem c.before.before.before.before.before.before.before.before.before b) c.args.m b.fuel rep c.args.v.0 c.args.argc c.in-Ok.f (sym c.in-Ok.is ∙ c.callee.ensures)
    (sym c.is_function.ensures ∙ c.if-not-is_function.false) (sym c.params_at.ensures ∙ c.if-params_at-argc.false)
