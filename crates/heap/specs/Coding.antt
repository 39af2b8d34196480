-- Signed integers of any width h + 1, from -2^h to 2^h - 1, and their bits of two's complement.
-- 01: "Range and coding are proved for any width, then cited for i64 and u64."
use Rattle.std.specs.Prelude.{ℕ, suc, ◌+◌, ◌-◌, ◌^◌, Bool, ℤ, pos, negsuc, ltb}
use Rattle.std.specs.Int.Signed.{mag}
use Rattle.lists.specs.Pick.{pick}

-- from -2^h to 2^h - 1
abbrev pub in_range : ℕ → ℤ → Bool
in_range h z = ltb (mag z) (2 ^ h)

-- the h + 1 bits of z, as a number
abbrev pub bits_of : ℕ → ℤ → ℕ
bits_of h (pos n) = n
bits_of h (negsuc n) = 2 ^ (h + 1) - suc n

-- the integer that has those bits
abbrev pub of_bits : ℕ → ℕ → ℤ
of_bits h n = pick (ltb n (2 ^ h)) (pos n) (negsuc (2 ^ (h + 1) - suc n))
