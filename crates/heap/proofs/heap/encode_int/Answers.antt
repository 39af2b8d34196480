-- `encode_int` meets its contract. Assumes nothing.
use mathlib.Core.Path.{ap, sym, ◌∙◌}
use Rattle.heap.specs.Heap.{encode_by}
use Rattle.std.specs.Prelude.{Option}
use Rattle.heap.specs.declared.value.Word.{Word}
use Rattle.heap.proofs.heap.encode_int.Goals as goal

pub returns-in-Some : goal.returns-in-Some
returns-in-Some c =
    let a = c.args in
    ap (λ (x : Option Word). encode_by x a.slots.now a.h a.bytes a.n) (sym c.in-Some.is ∙ c.inline_int.ensures)

pub returns-in-None : goal.returns-in-None
returns-in-None c =
    let a = c.args in
    c.alloc.ensures ∙ ap (λ (x : Option Word). encode_by x a.slots.now a.h a.bytes a.n) (sym c.in-None.is ∙ c.inline_int.ensures)
