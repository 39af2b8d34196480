-- `tag_at` meets its contract: the first of the slot's words. Assumes nothing.
use mathlib.Core.Path.{sym, ◌∙◌, ap}
use Prim.Native.Nat.{◌*◌}
use native.Mathlib.Omega.{arith}
use native.Mathlib.Nat.{add-zero}
use lib.ListN.{get_or, drop}
use lib.Seq.{get_or-take, get_or-drop}
use Rattle.heap.proofs.slot.tag_at.Goals as goal

pub returns : goal.returns
returns c =
    let b = c.args.i * 20 in
    let ws = c.args.slots.now in
    sym (get_or-take 20 (drop b ws) 0 0 (omega arith) ∙ get_or-drop b ws 0 0 ∙ ap (λ n. get_or ws n 0) (add-zero b))
