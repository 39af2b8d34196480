-- `iter_at` meets its contract, by what the word names. Assumes nothing.
use mathlib.Core.Path.{sym, ap, ◌∙◌}
use Rattle.heap.specs.Heap.{slots_of}
use Rattle.heap.proofs.Lookups.{found-words}
use Rattle.coro_end.specs.Iter.{iter_by}
use Rattle.coro_end.proofs.Iterators.{iter-here}
use Rattle.coro_end.proofs.iter.iter_at.Goals as goal

pub object_at-requires : goal.object_at-requires
object_at-requires c = found-words c.args.count c.args.slots.now c.args.v.0 c.in-Some.i (sym c.in-Some.is ∙ c.get.ensures) c.requires

pub returns-in-None : goal.returns-in-None
returns-in-None c = ap (iter_by (slots_of c.args.count c.args.slots.now)) (sym c.in-None.is ∙ c.get.ensures)

pub returns-in-Empty : goal.returns-in-Empty
returns-in-Empty c =
    iter-here c.args.count c.args.slots.now c.args.v.0 c.in-Some.i _ c.object_at.result
    (sym c.in-Some.is ∙ c.get.ensures) c.in-Empty.is c.object_at.ensures

pub returns-in-Func : goal.returns-in-Func
returns-in-Func c =
    iter-here c.args.count c.args.slots.now c.args.v.0 c.in-Some.i _ c.object_at.result
    (sym c.in-Some.is ∙ c.get.ensures) c.in-Func.is c.object_at.ensures

pub returns-in-Int : goal.returns-in-Int
returns-in-Int c =
    iter-here c.args.count c.args.slots.now c.args.v.0 c.in-Some.i _ c.object_at.result
    (sym c.in-Some.is ∙ c.get.ensures) c.in-Int.is c.object_at.ensures

pub returns-in-Iter : goal.returns-in-Iter
returns-in-Iter c =
    iter-here c.args.count c.args.slots.now c.args.v.0 c.in-Some.i _ c.object_at.result
    (sym c.in-Some.is ∙ c.get.ensures) c.in-Iter.is c.object_at.ensures

pub returns-in-Error : goal.returns-in-Error
returns-in-Error c =
    iter-here c.args.count c.args.slots.now c.args.v.0 c.in-Some.i _ c.object_at.result
    (sym c.in-Some.is ∙ c.get.ensures) c.in-Error.is c.object_at.ensures

pub returns-in-Coro : goal.returns-in-Coro
returns-in-Coro c =
    iter-here c.args.count c.args.slots.now c.args.v.0 c.in-Some.i _ c.object_at.result
    (sym c.in-Some.is ∙ c.get.ensures) c.in-Coro.is c.object_at.ensures
