-- The bits of a word, and a set of the numbers below 4096 in 64 words. Assumes nothing.
use mathlib.Core.Path.{◌≡◌, refl, ap, sym, subst}
use mathlib.Core.Bool.{Bool, true, false, ◌||◌}
use mathlib.Core.List.{List}
use mathlib.Core.Logic.{◌⊎◌, inl, inr, ⊎_elim}
use Prim.Native.Nat.{ℕ, zero, suc, ◌+◌, ◌*◌, ◌-◌, ◌/◌, ◌%◌, ◌^◌, ◌<◌, ◌≤◌}
use native.Mathlib.Nat.{div-eq_of_lt, div_self, mod-lt, mul-mod_left, pow-suc, one-mul, zero-div}
use native.Mathlib.Omega.{arith}
use lib.Dec.{eqb, ltb}
use lib.ListN.{length, get_or, set, replicate}
use lib.Seq.{get_or-set_same, get_or-set_other}
use lib.Pow.{pow_pos, pow-lt, pow-add, shl_exact, shl-shr}
use lib.Bits.{bit_or, or_shr, or_mod}
use Rattle.check_tables.specs.Queue.{bit_at, in_set}
use borrow.Author.Tests.{eq-eqb, ne_eqb, eqb-true, eqb-false, ltb-true, ltb-false}

eq-or-ne : (a b : ℕ) → (a ≡ b) ⊎ (a ≡ b → ⊥)
eq-or-ne a b = go (eqb a b) refl where
  go : (t : Bool) → eqb a b ≡ t → (a ≡ b) ⊎ (a ≡ b → ⊥)
  go true e = inl (eqb-true a b e)
  go false e = inr (eqb-false a b e)

lt-or-ge : (a b : ℕ) → (a < b) ⊎ (b ≤ a)
lt-or-ge a b = go (ltb a b) refl where
  go : (t : Bool) → ltb a b ≡ t → (a < b) ⊎ (b ≤ a)
  go true e = inl (ltb-true a b e)
  go false e = inr (ltb-false a b e)

-- a power of two has one bit
high_bit : (j d : ℕ) → 2 ^ (suc d + j) / 2 ^ j % 2 ≡ 0
high_bit j d = rw (pow-add 2 (suc d) j, shl-shr (2 ^ suc d) j, pow-suc 2 d, mul-mod_left (2 ^ d) 2)

power-bit : (i j : ℕ) → eqb (2 ^ i / 2 ^ j % 2) 1 ≡ eqb j i
power-bit i j = ⊎_elim same (λ e. ⊎_elim low (high e) (lt-or-ge i j)) (eq-or-ne j i) where
  same : j ≡ i → eqb (2 ^ i / 2 ^ j % 2) 1 ≡ eqb j i
  same e = rw (eq-eqb j i e, e, div_self (pow_pos i))

  low : i < j → eqb (2 ^ i / 2 ^ j % 2) 1 ≡ eqb j i
  low h = rw (ne_eqb j i (λ e. omega arith), div-eq_of_lt (pow-lt h))

  high : (j ≡ i → ⊥) → j ≤ i → eqb (2 ^ i / 2 ^ j % 2) 1 ≡ eqb j i
  high n h = let d : i ≡ suc (i - j - 1) + j = omega arith in rw (ne_eqb j i n) (subst (λ (k : ℕ). eqb (2 ^ k / 2 ^ j % 2) 1 ≡ false) (sym d) (rw (high_bit j (i - j - 1))))

-- a bit of two words' or
or-two : (x y : ℕ) → x < 2 → y < 2 → eqb (bit_or x y) 1 ≡ eqb y 1 || eqb x 1
or-two zero zero h k = refl
or-two zero (suc zero) h k = refl
or-two (suc zero) zero h k = refl
or-two (suc zero) (suc zero) h k = refl
or-two (suc (suc x)) y h k = absurd (omega arith)
or-two zero (suc (suc y)) h k = absurd (omega arith)
or-two (suc zero) (suc (suc y)) h k = absurd (omega arith)

or-bit : (a b j : ℕ) → bit_at (bit_or a b) j ≡ bit_at b j || bit_at a j
or-bit a b j = rw (or_shr a b j, or_mod (a / 2 ^ j) (b / 2 ^ j) 1) (or-two _ _ (mod-lt (a / 2 ^ j) (omega arith)) (mod-lt (b / 2 ^ j) (omega arith)))

-- what the code's shift and or do
pub set-bit : (w i j : ℕ) → i < 64 → bit_at (bit_or w ((1 * 2 ^ i) % 2 ^ 64)) j ≡ eqb j i || bit_at w j
set-bit w i j h = rw (shl_exact {a = 1} 1 i 64 (omega arith) (omega arith), one-mul, or-bit w (2 ^ i) j, power-bit i j)

pub no-bit : (j : ℕ) → bit_at 0 j ≡ false
no-bit j = rw zero-div

no_word : (k n : ℕ) → ◌≡◌ {A = ℕ} (get_or (replicate {A = ℕ} n 0) k 0) 0
no_word k zero = refl
no_word zero (suc n) = refl
no_word (suc k) (suc n) = no_word k n

pub empty-set : (x : ℕ) → in_set (replicate {A = ℕ} 64 0) x ≡ false
empty-set x = rw (no_word (x / 64) 64) (no-bit (x % 64))

-- x is put into the set
pub put-set : (ws : List ℕ) (v x y : ℕ) → x / 64 < length ws → ((j : ℕ) → bit_at v j ≡ eqb j (x % 64) || bit_at (get_or ws (x / 64) 0) j) → in_set (set ws (x / 64) v) y ≡ eqb y x || in_set ws y
put-set ws v x y h e = ⊎_elim inside outside (eq-or-ne (y / 64) (x / 64)) where
  agree : y / 64 ≡ x / 64 → y % 64 ≡ x % 64 → eqb (y % 64) (x % 64) ≡ eqb y x
  agree s t = rw (eq-eqb (y % 64) (x % 64) t, eq-eqb y x (omega arith))

  part : (y % 64 ≡ x % 64 → ⊥) → eqb (y % 64) (x % 64) ≡ eqb y x
  part t = rw (ne_eqb (y % 64) (x % 64) t, ne_eqb y x (λ u. t (ap (λ (n : ℕ). n % 64) u)))

  inside : y / 64 ≡ x / 64 → in_set (set ws (x / 64) v) y ≡ eqb y x || in_set ws y
  inside s = rw (s, get_or-set_same ws (x / 64) v 0 h, e (y % 64), ⊎_elim (agree s) part (eq-or-ne (y % 64) (x % 64)))

  outside : (y / 64 ≡ x / 64 → ⊥) → in_set (set ws (x / 64) v) y ≡ eqb y x || in_set ws y
  outside n = rw (get_or-set_other ws (x / 64) (y / 64) v 0 n, ne_eqb y x (λ u. n (ap (λ (k : ℕ). k / 64) u)))
