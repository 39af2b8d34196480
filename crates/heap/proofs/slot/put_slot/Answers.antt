use mathlib.Core.Path.{◌≡◌, ap₂, ◌∙◌}
use mathlib.Core.List.{List, ◌++◌}
use Prim.Native.Nat.{ℕ, ◌+◌, ◌*◌, ◌-◌}
use native.Mathlib.Omega.{arith}
use lib.ListN.{take, drop}
use Rattle.heap.proofs.slot.put_slot.Goals as goal

pub returns : goal.returns
returns c =
    let b = c.args.i * 20 in
    let ws = c.args.slots.now in
    let e : (b + 20) - b ≡ 20 = omega arith in
    ap₂ (λ (n : ℕ) (ys : List ℕ). take b ws ++ (ys ++ drop n (drop b ws))) e (c.copy_words.ensures ∙ c.words_of-words.ensures)
