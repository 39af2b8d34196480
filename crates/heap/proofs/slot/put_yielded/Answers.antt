-- `put_yielded` meets its contract: the part that is lent comes back with the words of a yield changed. Assumes nothing.
use mathlib.Core.Path.{◌≡◌, ap, ap₂, ◌∙◌}
use mathlib.Core.List.{List, ◌++◌}
use Prim.Native.Nat.{ℕ, ◌+◌, ◌*◌, ◌-◌}
use native.Mathlib.Omega.{arith}
use lib.ListN.{take, drop}
use Rattle.heap.specs.Slot.{yielded_words}
use Rattle.heap.proofs.slot.put_yielded.Goals as goal

pub returns : goal.returns
returns c =
    let a = c.args in
    let b = a.i * 20 in
    let ws = a.slots.now in
    let e : (b + 20) - b ≡ 20 = omega arith in
    ap₂ (λ (n : ℕ) (ys : List ℕ). take b ws ++ (ys ++ drop n (drop b ws))) e
    (c.write_yielded.ensures ∙ ap (λ (n : ℕ). yielded_words a.regs a.frames a.waiting a.payload a.key a.largest (take n (drop b ws))) e)
