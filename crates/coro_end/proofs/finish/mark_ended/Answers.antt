-- `mark_ended` meets its contract: it writes the record of a coroutine that has ended. Assumes nothing.
use mathlib.Core.Path.{ap₂, ◌∙◌}
use Prim.Native.Nat.{ℕ}
use Rattle.heap.specs.Heap.{put_slot}
use Rattle.heap.specs.Table.{slot}
use Rattle.heap.specs.declared.object.CoroObj.{CoroObj}
use Rattle.heap.specs.declared.object.Object.TheVariants as O
use Rattle.coro_end.proofs.finish.mark_ended.Goals as goal

pub returns : goal.returns
returns c =
    let a = c.args in
    c.put_slot.ensures
    ∙ ap₂ (λ (t : ℕ) (x : CoroObj). put_slot a.slots.now a.i (slot t (O.Coro x))) c.tag-tag.ensures c.ended-d.ensures
