-- `is_done` meets its contract, by what the word names. Assumes nothing.
use mathlib.Core.Path.{sym, ap, ◌∙◌}
use Rattle.heap.specs.Object.{is_done}
use Rattle.heap.specs.Heap.{slots_of}
use Rattle.heap.specs.Kind.{done_by}
use Rattle.heap.proofs.Lookups.{found-words, found-object}
use Rattle.heap.proofs.kind.is_done.Goals as goal

pub done_at-requires : goal.done_at-requires
done_at-requires c =
    let a = c.args in
    found-words a.count a.slots.now a.w.0 c.in-Some.i (sym c.in-Some.is ∙ c.get.ensures) c.requires

pub returns : goal.returns
returns c =
    let a = c.args in
    let found = sym c.in-Some.is ∙ c.get.ensures in
    c.done_at.ensures
    ∙ ap is_done (found-object a.count a.slots.now a.w.0 c.in-Some.i found)
    ∙ ap (done_by (slots_of a.count a.slots.now)) found
