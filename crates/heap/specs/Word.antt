-- Words. 01: Leaves the listed files lack; value.rs: Obj.
use Rattle.std.specs.Prelude.{ℕ, ◌+◌, ◌*◌, ◌/◌, ◌%◌, ◌^◌, ℤ, eqb}
use Rattle.lists.specs.Pick.{pick}
use Rattle.heap.specs.Coding.{bits_of, of_bits}
use Rattle.heap.specs.declared.value.Class.{Class}
use Rattle.heap.specs.declared.value.Class.TheVariants as C

-- 01: "Nil is word 0."
abbrev pub nil : ℕ
nil = 0

-- 01: "References are 2^48 up to 2^49 - 1: slot in bits 0-31, tag in bits 32-47."
abbrev pub reference : ℕ → ℕ → ℕ
reference slot tag = 2 ^ 48 + tag * 2 ^ 32 + slot

abbrev pub slot_of : ℕ → ℕ
slot_of w = w % 2 ^ 32

abbrev pub tag_of : ℕ → ℕ
tag_of w = w / 2 ^ 32 % 2 ^ 16

-- 01: "Integers from -2^47 to 2^47 - 1 are top sixteen bits FFFE (hex) and 48 bits of two's complement"
abbrev pub int_word : ℤ → ℕ
int_word z = 0xFFFE * 2 ^ 48 + bits_of 47 z

-- the top sixteen bits of a word
abbrev pub top_of : ℕ → ℕ
top_of w = w / 2 ^ 48

-- 01 names nil, references and integers; every other word is opaque and never followed. A handle is the word itself, as in value.rs.
abbrev pub class_of : ℕ → Class
class_of w =
    pick (eqb w nil) C.Nil
    (pick (eqb (top_of w) 1) (C.Ref (record { 0 = w }))
    (pick (eqb (top_of w) 0xFFFE) (C.Int (bits_of 63 (of_bits 47 (w % 2 ^ 48))))
    C.Opaque))
