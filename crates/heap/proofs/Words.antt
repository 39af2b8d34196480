-- The classes of words: what the constructors make, and what a class says of the word. `class_of` is a function, so every
-- word has exactly one class. Assumes nothing.
use mathlib.Core.Path.{◌≡◌, refl, ap}
use mathlib.Core.Bool.{Bool, true, false}
use Prim.Native.Nat.{ℕ, ◌+◌, ◌/◌, ◌%◌, ◌<◌, ◌^◌}
use native.Mathlib.Omega.{arith}
use borrow.Author.Tests.{ne_eqb, eqb-true}
use lib.Dec.{eqb}
use lib.IntN.{ℤ}
use lib.Signed.{mag}
use Rattle.lists.specs.Pick.{pick}
use Rattle.heap.specs.Coding.{bits_of, of_bits}
use Rattle.heap.specs.Word.{nil, reference, slot_of, tag_of, top_of, int_word, class_of}
use Rattle.heap.specs.declared.value.Class.{Class}
use Rattle.heap.specs.declared.value.Class.TheVariants as C
use Rattle.heap.proofs.Coding.{of-bits, bits-of, bits_below}

-- ---- decode after encode

pub slot-of : (s t : ℕ) → s < 2 ^ 32 → t < 2 ^ 16 → slot_of (reference s t) ≡ s
slot-of s t h k = omega arith

pub tag-of : (s t : ℕ) → s < 2 ^ 32 → t < 2 ^ 16 → tag_of (reference s t) ≡ t
tag-of s t h k = let d : reference s t / 2 ^ 32 ≡ 2 ^ 16 + t = omega arith in rw d (turned t k)
  where
    turned : (t : ℕ) → t < 2 ^ 16 → (2 ^ 16 + t) % 2 ^ 16 ≡ t
    turned t k = omega arith

pub class-nil : class_of nil ≡ C.Nil
unfolding pick
class-nil = refl

pub class-ref : (s t : ℕ) → s < 2 ^ 32 → t < 2 ^ 16 → class_of (reference s t) ≡ C.Ref (record { 0 = reference s t })
unfolding pick
class-ref s t hs ht =
    let w = reference s t in
    let h : w / 2 ^ 48 ≡ 1 = omega arith in
    rw (ne_eqb w 0 (λ e. omega arith), h)

pub class_int : (z : ℤ) → mag z < 2 ^ 47 → class_of (int_word z) ≡ C.Int (bits_of 63 z)
unfolding pick
class_int z r =
    let w = int_word z in
    let l : bits_of 47 z < 2 ^ 48 = bits_below 47 z r in
    let h : w / 2 ^ 48 ≡ 0xFFFE = omega arith in
    let a : w % 2 ^ 48 ≡ bits_of 47 z = omega arith in
    rw (ne_eqb w 0 (λ e. omega arith), h, a) (ap (λ (y : ℤ). C.Int (bits_of 63 y)) (of-bits 47 z r))

-- ---- encode after decode

-- the class by the three tests
abbrev by_tests : Bool → Bool → Bool → ℕ → Class
by_tests a b c w = pick a C.Nil (pick b (C.Ref (record { 0 = w })) (pick c (C.Int (bits_of 63 (of_bits 47 (w % 2 ^ 48)))) C.Opaque))

differ : {A : Type 0} → ◌≡◌ {A = ℕ} 0 1 → A
differ e = absurd (omega arith)

nil-by : (a b c : Bool) (w : ℕ) → by_tests a b c w ≡ C.Nil → a ≡ true
unfolding pick
nil-by true b c w e = refl
nil-by false true c w e = differ cc
nil-by false false true w e = differ cc
nil-by false false false w e = differ cc

-- a word of the class nil is nil
pub nil-back : (w : ℕ) → class_of w ≡ C.Nil → w ≡ nil
nil-back w e = eqb-true w nil (nil-by (eqb w nil) (eqb (top_of w) 1) (eqb (top_of w) 0xFFFE) w e)

abbrev word_in : Class → ℕ
word_in C.Nil = 0
word_in (C.Ref o) = o.0
word_in (C.Int n) = 0
word_in C.Opaque = 0

ref-by : (a b c : Bool) (w v : ℕ) → by_tests a b c w ≡ C.Ref (record { 0 = v }) → (b ≡ true) × (w ≡ v)
unfolding pick
ref-by true b c w v e = differ cc
ref-by false true c w v e = (refl, ap word_in e)
ref-by false false true w v e = differ cc
ref-by false false false w v e = differ cc

-- a reference is that of its slot and tag
pub ref_back : (w v : ℕ) → w < 2 ^ 64 → class_of w ≡ C.Ref (record { 0 = v }) → (w ≡ v) × (reference (slot_of w) (tag_of w) ≡ w)
ref_back w v f e =
    let p = ref-by (eqb w nil) (eqb (top_of w) 1) (eqb (top_of w) 0xFFFE) w v e in
    let h : w / 2 ^ 48 ≡ 1 = eqb-true (top_of w) 1 p.0 in
    (p.1, omega arith)

int-by : (a b c : Bool) (w n : ℕ) → by_tests a b c w ≡ C.Int n → (c ≡ true) × (bits_of 63 (of_bits 47 (w % 2 ^ 48)) ≡ n)
unfolding pick
int-by true b c w n e = differ cc
int-by false true c w n e = differ cc
int-by false false true w n e = (refl, cc)
int-by false false false w n e = differ cc

-- an integer's word is that of its integer
pub int-back : (w n : ℕ) → class_of w ≡ C.Int n → (int_word (of_bits 47 (w % 2 ^ 48)) ≡ w) × (bits_of 63 (of_bits 47 (w % 2 ^ 48)) ≡ n)
int-back w n e =
    let p = int-by (eqb w nil) (eqb (top_of w) 1) (eqb (top_of w) 0xFFFE) w n e in
    let h : w / 2 ^ 48 ≡ 0xFFFE = eqb-true (top_of w) 0xFFFE p.0 in
    let b : bits_of 47 (of_bits 47 (w % 2 ^ 48)) ≡ w % 2 ^ 48 = bits-of 47 (w % 2 ^ 48) (omega arith) in
    (rw b (omega arith), p.1)
