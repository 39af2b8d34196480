-- `Word::class` meets its contract: the tests are those of `class_of`, and 48 bits are widened to 64. Assumes nothing.
use mathlib.Core.Path.{◌≡◌, ap}
use Prim.Native.Nat.{ℕ, ◌+◌, ◌/◌, ◌%◌, ◌≤◌, ◌<◌, ◌^◌}
use native.Mathlib.Omega.{arith}
use borrow.Author.Tests.{eq-eqb, ne_eqb}
use Rattle.lists.specs.Pick.{pick}
use Rattle.heap.specs.Coding.{bits_of, of_bits}
use Rattle.heap.specs.Word.{class_of}
use Rattle.heap.specs.declared.value.Class.TheVariants as C
use Rattle.heap.proofs.Coding.{low, high}
use Rattle.heap.proofs.value.Word.class.Goals as goal

-- `Word::class` meets its contract: the tests are those of `class_of`, and 48 bits are widened to 64. Assumes nothing.
-- 48 bits of two's complement, as 64
low48 : (n : ℕ) → n < 2 ^ 47 → n ≡ bits_of 63 (of_bits 47 n)
low48 n h = rw (low 47 n h)

high48 : (n : ℕ) → 2 ^ 47 ≤ n → n < 2 ^ 48 → n + 0xFFFF_0000_0000_0000 ≡ bits_of 63 (of_bits 47 n)
high48 n h k = rw (high 47 n h) (omega arith)

-- an integer's word, whose bits are m at 64
int : (w m : ℕ) → (w ≡ 0 → ⊥) → (w / 2 ^ 48 ≡ 1 → ⊥) → w / 2 ^ 48 ≡ 0xFFFE → m ≡ bits_of 63 (of_bits 47 (w % 2 ^ 48)) → C.Int m ≡ class_of w
unfolding pick
int w m a b e h = rw (ne_eqb w 0 a, ne_eqb (w / 2 ^ 48) 1 b, eq-eqb (w / 2 ^ 48) 0xFFFE e) (ap C.Int h)

pub returns-then-w-eq-NIL : goal.returns-then-w-eq-NIL
unfolding pick
returns-then-w-eq-NIL c = rw (eq-eqb _ _ c.if-w-eq-NIL.true)

pub returns-then-top-eq-REF_TAG : goal.returns-then-top-eq-REF_TAG
unfolding pick
returns-then-top-eq-REF_TAG c = rw (ne_eqb _ _ c.if-w-eq-NIL.false, eq-eqb _ _ c.if-top-eq-REF_TAG.true)

pub returns-then-n-lt-SIGN : goal.returns-then-n-lt-SIGN
returns-then-n-lt-SIGN c =
    let w = c.args.self.0 in
    int w _ c.if-w-eq-NIL.false c.if-top-eq-REF_TAG.false c.if-top-eq-INT_TAG.true (low48 (w % 2 ^ 48) c.if-n-lt-SIGN.true)

pub returns-else-n-lt-SIGN : goal.returns-else-n-lt-SIGN
returns-else-n-lt-SIGN c =
    let w = c.args.self.0 in
    int w _ c.if-w-eq-NIL.false c.if-top-eq-REF_TAG.false c.if-top-eq-INT_TAG.true (high48 (w % 2 ^ 48) c.if-n-lt-SIGN.false (omega arith))

pub returns-else-top-eq-INT_TAG : goal.returns-else-top-eq-INT_TAG
unfolding pick
returns-else-top-eq-INT_TAG c = rw (ne_eqb _ _ c.if-w-eq-NIL.false, ne_eqb _ _ c.if-top-eq-REF_TAG.false, ne_eqb _ _ c.if-top-eq-INT_TAG.false)
