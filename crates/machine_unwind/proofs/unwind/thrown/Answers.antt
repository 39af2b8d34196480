-- `thrown` meets its contract, by the fault's number. Assumes nothing.
use mathlib.Core.Path.{refl, ap}
use Rattle.heap.specs.Word.{nil}
use Rattle.model.specs.Object.{Object}
use Rattle.memory_world.specs.Lendings.{table, plain}
use Rattle.machine_unwind.proofs.Raising.{thrown-word, thrown-object, thrown-passes}
use Rattle.machine_unwind.proofs.unwind.thrown.Goals as goal

pub returns-then-kind-eq17 : goal.returns-then-kind-eq17
returns-then-kind-eq17 c =
    let a = c.args in
    λ w b rep at.
    thrown-word a.sizes (table a.slots.now plain b) a.m b.fuel w a.fault a.at at c.number-kind.result c.number-kind.ensures c.if-kind-eq17.true _ c.word.ensures rep

pub returns-then-kind-le8 : goal.returns-then-kind-le8
returns-then-kind-le8 c =
    let a = c.args in
    λ w b rep at.
    thrown-object a.sizes _ _ b.fuel w a.fault a.at at c.number-kind.result c.number-kind.ensures c.if-kind-eq17.false c.if-kind-le8.true a.sizes.costs.error _ (ap (λ k. k.error) rep.sizes.costs)
    (c.alloc_plain.ensures (Object.Error c.number-kind.result a.at.func a.at.pc nil) refl refl w b rep)

pub returns : goal.returns
returns c =
    let a = c.args in
    λ w b rep at.
    thrown-passes a.sizes (table a.slots.now plain b) a.m b.fuel w a.fault a.at at c.number-kind.result c.number-kind.ensures c.if-kind-eq17.false c.if-kind-le8.false rep
