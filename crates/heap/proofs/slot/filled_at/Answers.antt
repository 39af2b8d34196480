-- `filled_at` meets its contract: the second of the slot's words tells. Assumes nothing.
use mathlib.Core.Path.{sym, ap, ◌∙◌}
use native.Mathlib.Omega.{arith}
use Rattle.lists.specs.Chunks.{chunk_at}
use Rattle.lists.proofs.Tables.{chunk-get}
use Rattle.heap.specs.Slot.{fills}
use Rattle.heap.proofs.Slots.{filled-kind}
use Rattle.heap.proofs.slot.filled_at.Goals as goal

pub returns : goal.returns
returns c =
    let i = c.args.i in
    let ws = c.args.slots.now in
    c.fills.ensures ∙ ap fills (sym (chunk-get 20 i 1 ws (omega arith))) ∙ sym (filled-kind (chunk_at 20 ws i))
