-- `int_to_dyn` meets its contract. Assumes nothing.
use mathlib.Core.Path.{ap, sym, ◌∙◌}
use Rattle.heap.specs.Heap.{int_by}
use Rattle.std.specs.Prelude.{Option, ℕ}
use Rattle.heap.proofs.heap.int_to_dyn.Goals as goal

pub returns-in-Some : goal.returns-in-Some
returns-in-Some c =
    let a = c.args in
    c.encode_int.ensures ∙ ap (λ (x : Option ℕ). int_by x a.slots.now a.h a.bytes) (sym c.in-Some.is ∙ c.value.ensures)

pub returns-in-None : goal.returns-in-None
returns-in-None c =
    let a = c.args in
    ap (λ (x : Option ℕ). int_by x a.slots.now a.h a.bytes) (sym c.in-None.is ∙ c.value.ensures)
