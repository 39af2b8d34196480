-- `set_done` meets the definition: the mark, where the word names an iterator. Assumes nothing.
use mathlib.Core.Path.{sym, ◌∙◌}
use mathlib.Core.Bool.{true}
use Rattle.memory_world.specs.Lendings.{table, plain}
use Rattle.coro_end.proofs.Iterators.{iter-words, iter-absent, iter-changed}
use Rattle.coro_end.proofs.iter.set_done.Goals as goal

pub put_iter-requires : goal.put_iter-requires
put_iter-requires c =
    iter-words c.args.m.count c.args.slots.now c.args.v.0 c.in-Some.x.slot c.in-Some.x.src
    c.in-Some.x.done c.in-Some.x.key (sym c.in-Some.is ∙ c.iter_at.ensures) c.requires

pub returns-in-Some : goal.returns-in-Some
returns-in-Some c =
    λ l w b rep. iter-changed l (table c.args.slots.now plain b) c.args.m b.fuel w rep c.args.v.0 (λ _. true) (λ k. k)
    c.in-Some.x.slot c.in-Some.x.src c.in-Some.x.done c.in-Some.x.key _
    (sym c.in-Some.is ∙ c.iter_at.ensures) c.put_iter.ensures

pub returns-in-None : goal.returns-in-None
returns-in-None c =
    λ l w b rep. iter-absent l (table c.args.slots.now plain b) c.args.m b.fuel w rep c.args.v.0 (λ _. true) (λ k. k)
    (sym c.in-None.is ∙ c.iter_at.ensures)
