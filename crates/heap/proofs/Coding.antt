-- Range and coding in two's complement, for any width h + 1. Assumes nothing.
use mathlib.Core.Path.{◌≡◌, refl, ap}
use mathlib.Core.Bool.{Bool, true, false}
use Prim.Native.Nat.{ℕ, suc, ◌+◌, ◌-◌, ◌*◌, ◌≤◌, ◌<◌, ◌^◌}
use native.Mathlib.Omega.{arith}
use native.Mathlib.Nat.{pow-suc}
use native.Mathlib.Numerals.{add-one}
use lib.IntN.{ℤ, pos, negsuc}
use lib.Dec.{ltb}
use lib.Signed.{mag}
use borrow.Author.Tests.{lt-ltb, le-ltb, ltb-true, ltb-false}
use Rattle.lists.specs.Pick.{pick}
use Rattle.heap.specs.Coding.{bits_of, of_bits}
use Rattle.heap.specs.Int.{exact_in}
use Rattle.std.specs.Prelude.{Some, None}

-- 2 ^ (h + 1) is twice 2 ^ h
pub double : (h : ℕ) → 2 ^ (h + 1) ≡ 2 ^ h * 2
double h = rw (add-one, pow-suc)

-- the lower half of the numbers of h + 1 bits are the integers from 0 up, the upper half those from -1 down
pub low : (h n : ℕ) → n < 2 ^ h → of_bits h n ≡ pos n
unfolding pick
low h n f = rw (lt-ltb n (2 ^ h) f)

pub high : (h n : ℕ) → 2 ^ h ≤ n → of_bits h n ≡ negsuc (2 ^ (h + 1) - suc n)
unfolding pick
high h n f = rw (le-ltb n (2 ^ h) f)

-- decoding a coded integer of the range gives it back
pub of-bits : (h : ℕ) (z : ℤ) → mag z < 2 ^ h → of_bits h (bits_of h z) ≡ z
of-bits h (pos n) r = low h n r
of-bits h (negsuc n) r =
    let d : 2 ^ (h + 1) ≡ 2 ^ h * 2 = double h in
    rw (high h (2 ^ (h + 1) - suc n) (omega arith)) (ap negsuc (omega arith))

halves : (h n : ℕ) (b : Bool) → ltb n (2 ^ h) ≡ b → n < 2 ^ (h + 1)
    → (bits_of h (of_bits h n) ≡ n) × (mag (of_bits h n) < 2 ^ h)
halves h n true e f = let l = ltb-true n (2 ^ h) e in rw (low h n l) (refl, l)
halves h n false e f =
    let l = ltb-false n (2 ^ h) e in
    let d : 2 ^ (h + 1) ≡ 2 ^ h * 2 = double h in
    rw (high h n l) (omega arith, omega arith)

-- coding a decoded number of h + 1 bits gives it back
pub bits-of : (h n : ℕ) → n < 2 ^ (h + 1) → bits_of h (of_bits h n) ≡ n
bits-of h n f = (halves h n (ltb n (2 ^ h)) refl f).0

-- what is decoded is in the range
pub of_range : (h n : ℕ) → n < 2 ^ (h + 1) → mag (of_bits h n) < 2 ^ h
of_range h n f = (halves h n (ltb n (2 ^ h)) refl f).1

-- what is coded has h + 1 bits
pub bits_below : (h : ℕ) (z : ℤ) → mag z < 2 ^ h → bits_of h z < 2 ^ (h + 1)
bits_below h (pos n) r = omega (arith, double h)
bits_below h (negsuc n) r = omega (arith, double h)

-- ---- h + 1 bits read at a signed and at an unsigned type of that width

-- signed, they are always in the range
pub signed-fits : (h n : ℕ) → n < 2 ^ (h + 1) → Some n ≡ exact_in h (of_bits h n)
unfolding pick
signed-fits h n f = rw (lt-ltb (mag (of_bits h n)) (2 ^ h) (of_range h n f), bits-of h n f)

-- unsigned, the lower half of them is, and the upper half is not
pub unsigned-fits : (h n : ℕ) → n < 2 ^ h → Some n ≡ exact_in h (pos n)
unfolding pick
unsigned-fits h n f = rw (lt-ltb n (2 ^ h) f)

pub unsigned-over : (h n : ℕ) → 2 ^ h ≤ n → None ≡ exact_in h (pos n)
unfolding pick
unsigned-over h n f = rw (le-ltb n (2 ^ h) f)
