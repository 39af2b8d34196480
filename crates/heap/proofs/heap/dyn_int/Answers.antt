-- `dyn_int` meets its contract, by the word's class and what it names. Assumes nothing.
use mathlib.Core.Path.{ap, sym, ◌∙◌}
use Rattle.heap.specs.Object.{is_filled, int_of}
use Rattle.heap.specs.Table.{dyn_int_at, dyn_int_by}
use Rattle.heap.specs.Heap.{slots_of}
use Rattle.heap.specs.declared.object.Object.TheVariants.{Empty}
use Rattle.heap.proofs.Lookups.{found-words, found-object}
use Rattle.heap.proofs.heap.dyn_int.Goals as goal

pub object_at-requires : goal.object_at-requires
object_at-requires c = found-words c.args.count c.args.slots.now c.in-Ref.o.0 c.in-Some.i (sym c.in-Some.is ∙ c.get.ensures) c.requires

pub returns-in-Nil : goal.returns-in-Nil
returns-in-Nil c = ap (dyn_int_by Empty is_filled int_of (slots_of c.args.count c.args.slots.now)) (sym c.in-Nil.is ∙ c.class.ensures)

pub returns-in-None : goal.returns-in-None
returns-in-None c =
    let xs = slots_of c.args.count c.args.slots.now in
    ap (dyn_int_at Empty is_filled int_of xs) (sym c.in-None.is ∙ c.get.ensures) ∙ ap (dyn_int_by Empty is_filled int_of xs) (sym c.in-Ref.is ∙ c.class.ensures)

pub returns-in-Some : goal.returns-in-Some
returns-in-Some c =
    let xs = slots_of c.args.count c.args.slots.now in
    let found = sym c.in-Some.is ∙ c.get.ensures in
    c.int_in.ensures
    ∙ ap int_of (c.object_at.ensures ∙ found-object c.args.count c.args.slots.now c.in-Ref.o.0 c.in-Some.i found)
    ∙ ap (dyn_int_at Empty is_filled int_of xs) found
    ∙ ap (dyn_int_by Empty is_filled int_of xs) (sym c.in-Ref.is ∙ c.class.ensures)

pub returns-in-Int : goal.returns-in-Int
returns-in-Int c = ap (dyn_int_by Empty is_filled int_of (slots_of c.args.count c.args.slots.now)) (sym c.in-Int.is ∙ c.class.ensures)

pub returns-in-Opaque : goal.returns-in-Opaque
returns-in-Opaque c = ap (dyn_int_by Empty is_filled int_of (slots_of c.args.count c.args.slots.now)) (sym c.in-Opaque.is ∙ c.class.ensures)
