-- `not_a` meets its contract, by the word's class. Assumes nothing.
use mathlib.Core.Path.{ap, ap₂, sym, ◌∙◌}
use Rattle.heap.specs.Object.{is_filled}
use Rattle.heap.specs.Table.{get, not_a}
use Rattle.heap.specs.Heap.{slots_of}
use Rattle.heap.specs.declared.value.Class.{Class}
use Rattle.heap.specs.declared.object.Object.TheVariants.{Empty}
use Rattle.heap.proofs.heap.not_a.Goals as goal

pub returns-in-Nil : goal.returns-in-Nil
returns-in-Nil c = ap (λ (k : Class). not_a k (get Empty is_filled (slots_of c.args.count c.args.slots.now) c.args.w.0)) (sym c.in-Nil.is ∙ c.class.ensures)

pub returns-in-None : goal.returns-in-None
returns-in-None c = ap₂ not_a (sym c.in-Ref.is ∙ c.class.ensures) (sym c.in-None.is ∙ c.get.ensures)

pub returns-in-Some : goal.returns-in-Some
returns-in-Some c = ap₂ not_a (sym c.in-Ref.is ∙ c.class.ensures) (sym c.in-Some.is ∙ c.get.ensures)

pub returns-in-Int : goal.returns-in-Int
returns-in-Int c = ap (λ (k : Class). not_a k (get Empty is_filled (slots_of c.args.count c.args.slots.now) c.args.w.0)) (sym c.in-Int.is ∙ c.class.ensures)

pub returns-in-Opaque : goal.returns-in-Opaque
returns-in-Opaque c = ap (λ (k : Class). not_a k (get Empty is_filled (slots_of c.args.count c.args.slots.now) c.args.w.0)) (sym c.in-Opaque.is ∙ c.class.ensures)
