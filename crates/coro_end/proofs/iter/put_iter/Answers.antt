-- `put_iter` meets its contract. Assumes nothing.
use mathlib.Core.Path.{ap, ◌∙◌}
use Prim.Native.Nat.{ℕ}
use Rattle.heap.specs.Heap.{put_slot}
use Rattle.heap.specs.Table.{slot}
use Rattle.heap.specs.declared.object.Object.TheVariants as O
use Rattle.coro_end.proofs.iter.put_iter.Goals as goal

pub returns : goal.returns
returns c =
    c.put_slot.ensures
    ∙ ap (λ (t : ℕ). put_slot c.args.slots.now c.args.i (slot t (O.Iter c.args.src c.args.done c.args.key)))
    c.tag-tag.ensures
