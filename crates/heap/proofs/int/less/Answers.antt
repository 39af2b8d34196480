-- `less` meets its contract: of two numbers of 64 bits those from 2^63 up are the negative ones. Assumes nothing.
use mathlib.Core.Path.{◌≡◌, refl, sym, ◌∙◌}
use mathlib.Core.Bool.{Bool, true, false, beq, true≢false}
use Prim.Native.Nat.{ℕ, suc, ◌-◌, ◌<◌, ◌^◌}
use native.Mathlib.Omega.{arith}
use borrow.Author.Tests.{lt-ltb, le-ltb, ltb-true, ltb-false}
use lib.Dec.{ltb}
use Rattle.heap.specs.Int.{less_bits}
use Rattle.heap.proofs.Coding.{low, high}
use Rattle.heap.proofs.int.less.Goals as goal

-- `less` meets its contract: of two numbers of 64 bits those from 2^63 up are the negative ones. Assumes nothing.
-- the order of two complements
turned : (a b : ℕ) (t : Bool) → ltb a b ≡ t → a < 2 ^ 64 → b < 2 ^ 64 → ltb (2 ^ 64 - suc b) (2 ^ 64 - suc a) ≡ t
turned a b true e f g = lt-ltb (2 ^ 64 - suc b) (2 ^ 64 - suc a) (omega (arith, ltb-true a b e))
turned a b false e f g = le-ltb (2 ^ 64 - suc b) (2 ^ 64 - suc a) (omega (arith, ltb-false a b e))

-- both signs, and whether they are the same
same : (a b : ℕ) (s t : Bool) → ltb a (2 ^ 63) ≡ s → ltb b (2 ^ 63) ≡ t → beq s t ≡ true → a < 2 ^ 64 → b < 2 ^ 64 → ltb a b ≡ less_bits a b
same a b true true e f h j k = rw (low 63 a (ltb-true a (2 ^ 63) e), low 63 b (ltb-true b (2 ^ 63) f))
same a b false false e f h j k = rw (high 63 a (ltb-false a (2 ^ 63) e), high 63 b (ltb-false b (2 ^ 63) f), turned a b (ltb a b) refl j k)
same a b true false e f h j k = absurd (true≢false (sym h))
same a b false true e f h j k = absurd (true≢false (sym h))

other : (a b : ℕ) (s t : Bool) → ltb a (2 ^ 63) ≡ s → ltb b (2 ^ 63) ≡ t → beq s t ≡ false → ltb b (2 ^ 63) ≡ less_bits a b
other a b true false e f h = f ∙ rw (low 63 a (ltb-true a (2 ^ 63) e), high 63 b (ltb-false b (2 ^ 63) f))
other a b false true e f h = f ∙ rw (high 63 a (ltb-false a (2 ^ 63) e), low 63 b (ltb-true b (2 ^ 63) f))
other a b true true e f h = absurd (true≢false h)
other a b false false e f h = absurd (true≢false h)

pub returns-then-a-b : goal.returns-then-a-b
returns-then-a-b c =
    let a = c.args in
    let f = c.ranges in
    same a.a a.b (ltb a.a (2 ^ 63)) (ltb a.b (2 ^ 63)) refl refl c.if-a-b.true f.a.fits f.b.fits

pub returns-else-a-b : goal.returns-else-a-b
returns-else-a-b c =
    let a = c.args in
    other a.a a.b (ltb a.a (2 ^ 63)) (ltb a.b (2 ^ 63)) refl refl c.if-a-b.false
