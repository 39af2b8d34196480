-- `Word::inline_int` meets its contract: 48 bits, or a large integer between. Assumes nothing.
use mathlib.Core.Path.{◌≡◌, refl, ap}
use mathlib.Core.Bool.{Bool, true, false}
use Prim.Native.Nat.{ℕ, suc, ◌-◌, ◌≤◌, ◌<◌, ◌^◌}
use native.Mathlib.Omega.{arith}
use borrow.Author.Tests.{lt-ltb, le-ltb, ltb-true, ltb-false}
use lib.Dec.{ltb}
use Rattle.lists.specs.Pick.{pick}
use Rattle.heap.specs.Coding.{of_bits}
use Rattle.heap.specs.Int.{inline_of}
use Rattle.std.specs.Prelude.{Some, None}
use Rattle.heap.proofs.Coding.{low, high}
use Rattle.heap.proofs.value.Word.inline_int.Goals as goal

large : (n : ℕ) (b : Bool) → ltb n (2 ^ 63) ≡ b → 2 ^ 47 ≤ n → n < 2 ^ 64 - 2 ^ 47 → None ≡ inline_of (of_bits 63 n)
unfolding pick
large n true e h k = rw (low 63 n (ltb-true n (2 ^ 63) e), le-ltb n (2 ^ 47) h)
large n false e h k = rw (high 63 n (ltb-false n (2 ^ 63) e), le-ltb (2 ^ 64 - suc n) (2 ^ 47) (omega arith))

pub returns-then-bits-lt-SIGN : goal.returns-then-bits-lt-SIGN
unfolding pick
returns-then-bits-lt-SIGN c = let n = c.args.bits in rw (low 63 n (omega arith), lt-ltb n (2 ^ 47) (omega arith))

pub returns-then-bits-lt-LEAST : goal.returns-then-bits-lt-LEAST
returns-then-bits-lt-LEAST c = let n = c.args.bits in large n (ltb n (2 ^ 63)) refl (omega arith) (omega arith)

pub returns-else-bits-lt-LEAST : goal.returns-else-bits-lt-LEAST
unfolding pick
returns-else-bits-lt-LEAST c =
    let n = c.args.bits in
    let f = c.ranges.bits in
    rw (high 63 n (omega arith), lt-ltb (2 ^ 64 - suc n) (2 ^ 47) (omega arith)) (ap (λ (k : ℕ). Some (record { 0 = k })) (omega arith))
