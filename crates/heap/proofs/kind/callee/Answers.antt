-- `callee` meets its contract, by what the word names. Assumes nothing.
use mathlib.Core.Path.{sym, ap, ◌∙◌}
use Rattle.heap.specs.Heap.{slots_of}
use Rattle.heap.specs.Kind.{as_callee, callee_by}
use Rattle.heap.proofs.Lookups.{found-words, found-object}
use Rattle.heap.proofs.kind.callee.Goals as goal

pub callee_at-requires : goal.callee_at-requires
callee_at-requires c =
    let a = c.args in
    found-words a.count a.slots.now a.w.0 c.in-Some.i (sym c.in-Some.is ∙ c.get.ensures) c.requires

pub returns : goal.returns
returns c =
    let a = c.args in
    let found = sym c.in-Some.is ∙ c.get.ensures in
    c.callee_at.ensures
    ∙ ap as_callee (found-object a.count a.slots.now a.w.0 c.in-Some.i found)
    ∙ ap (callee_by (slots_of a.count a.slots.now) a.w.0) found
