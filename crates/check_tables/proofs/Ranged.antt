-- What `all` over a range answers is the test of each number below its end. Assumes nothing.
use mathlib.Core.Path.{◌≡◌, refl, sym, ap, ◌∙◌}
use mathlib.Core.Bool.{Bool, true, false, ◌&&◌}
use Prim.Native.Nat.{ℕ, zero, suc, ◌+◌}
use native.Mathlib.Omega.{arith}
use Rattle.std.specs.List.{range_with_len, list_all}
use Rattle.lists.specs.Tests.{all_below}
use Rattle.check_tables.proofs.Bools.{and_assoc}

and_true : (b : Bool) → (b && true) ≡ b
and_true true = refl
and_true false = refl

-- the last number's test can be taken out
last_out : (a n : ℕ) (t : ℕ → Bool) → list_all t (range_with_len a (suc n)) ≡ (list_all t (range_with_len a n) && t (a + n))
last_out a zero t = let e : a ≡ a + 0 = omega arith in and_true (t a) ∙ ap t e
last_out a (suc n) t =
    let e : a + 1 + n ≡ a + suc n = omega arith in
    ap (λ (b : Bool). t a && b) (last_out (a + 1) n t ∙ ap (λ (k : ℕ). list_all t (range_with_len (a + 1) n) && t k) e)
    ∙ sym (and_assoc (t a) (list_all t (range_with_len (a + 1) n)) (t (a + suc n)))

pub all-range : (n : ℕ) (t : ℕ → Bool) → list_all t (range_with_len 0 n) ≡ all_below n t
all-range zero t = refl
all-range (suc n) t =
    let e : 0 + n ≡ n = omega arith in
    last_out 0 n t ∙ ap (λ (k : ℕ). list_all t (range_with_len 0 n) && t k) e ∙ ap (λ (b : Bool). b && t n) (all-range n t)
