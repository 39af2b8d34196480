-- `alloc` meets its contract: refused by what is lacking, or put into the next slot. Assumes nothing.
use mathlib.Core.Path.{sym, ◌∙◌}
use native.Mathlib.Omega.{arith}
use Rattle.heap.proofs.Charges.{slot-left, slot-words}
use Rattle.heap.proofs.heap.alloc.Goals as goal

pub put_slot-requires : goal.put_slot-requires
put_slot-requires c =
    let a = c.args in
    slot-words a.slots.now a.h a.bytes a.o c.in_ok-lacks.field-0 (sym c.in_ok-lacks.was ∙ c.lacks.ensures) c.requires

pub overflow_cast-i : goal.overflow_cast-i
overflow_cast-i c =
    let a = c.args in
    let k = slot-left a.slots.now a.h a.bytes a.o c.in_ok-lacks.field-0 (sym c.in_ok-lacks.was ∙ c.lacks.ensures) in
    let m = c.requires.slots in
    record { fits = omega arith }
