-- `next_key` meets its contract: one more on 64 bits is one more on integers, but for the largest. Assumes nothing.
use mathlib.Core.Path.{◌≡◌, refl, ap}
use mathlib.Core.Bool.{Bool, true, false}
use Prim.Native.Nat.{ℕ, suc, ◌+◌, ◌-◌, ◌<◌, ◌^◌}
use native.Mathlib.Omega.{arith}
use borrow.Author.Tests.{lt-ltb, ltb-true, ltb-false}
use lib.Dec.{ltb}
use Rattle.lists.specs.Pick.{pick}
use Rattle.heap.specs.Int.{next_key}
use Rattle.std.specs.Prelude.{Some}
use Rattle.heap.proofs.Coding.{low, high}
use Rattle.heap.proofs.int.next_key.Goals as goal

-- `next_key` meets its contract: one more on 64 bits is one more on integers, but for the largest. Assumes nothing.
next : (n : ℕ) (b : Bool) → ltb n (2 ^ 63) ≡ b → n < 2 ^ 64 → (n ≡ 2 ^ 63 - 1 → ⊥) → (n ≡ 2 ^ 64 - 1 → ⊥) → Some (n + 1) ≡ next_key n
unfolding pick
next n true e f h k =
    let l = ltb-true n (2 ^ 63) e in
    rw (low 63 n l) (rw (lt-ltb (n + 1) (2 ^ 63) (omega arith)))
next n false e f h k =
    let l = ltb-false n (2 ^ 63) e in
    rw (high 63 n l)
    (rw (lt-ltb 1 (suc (2 ^ 64 - suc n)) (omega arith), lt-ltb (suc (2 ^ 64 - suc n) - 2) (2 ^ 63) (omega arith)) (ap Some (omega arith)))

pub returns-then-largest-eq-MOST_INT : goal.returns-then-largest-eq-MOST_INT
unfolding pick
returns-then-largest-eq-MOST_INT c = rw c.if-largest-eq-MOST_INT.true

pub returns-then-largest-eq-MINUS_ONE : goal.returns-then-largest-eq-MINUS_ONE
unfolding pick
returns-then-largest-eq-MINUS_ONE c = rw c.if-largest-eq-MINUS_ONE.true

pub returns-else-largest-eq-MINUS_ONE : goal.returns-else-largest-eq-MINUS_ONE
returns-else-largest-eq-MINUS_ONE c =
    let n = c.args.largest in
    next n (ltb n (2 ^ 63)) refl c.ranges.largest.fits c.if-largest-eq-MOST_INT.false c.if-largest-eq-MINUS_ONE.false
