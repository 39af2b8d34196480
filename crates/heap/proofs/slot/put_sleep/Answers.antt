-- `put_sleep` meets its contract: the part that is lent comes back with the words of a suspension changed. Assumes nothing.
use mathlib.Core.Path.{◌≡◌, ap, ap₂, ◌∙◌}
use mathlib.Core.List.{List, ◌++◌}
use Prim.Native.Nat.{ℕ, ◌+◌, ◌*◌, ◌-◌}
use native.Mathlib.Omega.{arith}
use lib.ListN.{take, drop}
use Rattle.heap.specs.Slot.{suspended_words}
use Rattle.heap.proofs.slot.put_sleep.Goals as goal

pub returns : goal.returns
returns c =
    let b = c.args.i * 20 in
    let ws = c.args.slots.now in
    let e : (b + 20) - b ≡ 20 = omega arith in
    ap₂ (λ (n : ℕ) (ys : List ℕ). take b ws ++ (ys ++ drop n (drop b ws))) e
    (c.write_suspended.ensures ∙ ap (λ (n : ℕ). suspended_words c.args.c (take n (drop b ws))) e)
