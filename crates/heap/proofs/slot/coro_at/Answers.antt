-- `coro_at` meets its contract: the part that is lent is the slot's words. Assumes nothing.
use mathlib.Core.Path.{◌≡◌, ap, ◌∙◌}
use Prim.Native.Nat.{ℕ, ◌+◌, ◌*◌, ◌-◌}
use native.Mathlib.Omega.{arith}
use lib.ListN.{take, drop}
use Rattle.heap.specs.Slot.{coro_at}
use Rattle.heap.proofs.slot.coro_at.Goals as goal

pub returns : goal.returns
returns c =
    let b = c.args.i * 20 in
    let e : (b + 20) - b ≡ 20 = omega arith in
    c.coro_of.ensures ∙ ap (λ (n : ℕ). coro_at (take n (drop b c.args.slots.now))) e
