-- int.rs: value, at i64 and u64; conv's integer words. A signed integer is stored as its 64 bits of two's complement.
use Rattle.std.specs.Prelude.{ℕ, Bool, ℤ, pos, ◌+ℤ◌, Option, Some, None}
use Rattle.std.specs.Int.Signed.{lt_z}
use Rattle.lists.specs.Pick.{pick}
use Rattle.heap.specs.Coding.{in_range, bits_of, of_bits}
use Rattle.heap.specs.Word.{int_word}
use Rattle.heap.specs.declared.int.IntTy.{IntTy}
use Rattle.heap.specs.declared.int.IntTy.TheVariants as T
use Rattle.heap.specs.declared.value.Word.{Word}

-- int.rs: value, the exact value of register bits read at a type
abbrev pub value_of : IntTy → ℕ → ℤ
value_of T.I64 n = of_bits 63 n
value_of T.U64 n = pos n

-- the bits of a signed integer of h + 1 bits, or out of its range
abbrev pub exact_in : ℕ → ℤ → Option ℕ
exact_in h z = pick (in_range h z) (Some (bits_of h z)) None

-- .. of 64 bits. 01: "A u64 above 2^63 - 1 gives 7."
abbrev pub exactly : ℤ → Option ℕ
exactly z = exact_in 63 z

-- dynv: inline_int. 01: "Integers from -2^47 to 2^47 - 1 are [inline words]; others are integer objects."
abbrev pub inline_of : ℤ → Option Word
inline_of z = pick (in_range 47 z) (Some (record { 0 = int_word z })) None

-- coro.rs: auto_key, the key after the largest so far. 01: "at 2^63 - 1 it answers 7"
abbrev pub next_key : ℕ → Option ℕ
next_key largest = exactly (of_bits 63 largest +ℤ pos 1)

-- the order of two integers, on their bits
abbrev pub less_bits : ℕ → ℕ → Bool
less_bits a b = lt_z (of_bits 63 a) (of_bits 63 b)
