-- A number that is none of the first k is k at least. Assumes nothing.
use mathlib.Core.Path.{◌≡◌}
use Prim.Native.Nat.{ℕ, zero, suc, zero-le, ◌≤◌}
use native.Mathlib.Omega.{arith}

-- as the last arm of a match has it
abbrev pub Other : ℕ → ℕ → Type 0
Other n zero = Unit
Other n (suc k) = Other n k × (n ≡ k → ⊥)

next : (n k : ℕ) → k ≤ n → (n ≡ k → ⊥) → suc k ≤ n
next n k h e = omega arith

pub past : (n k : ℕ) → Other n k → k ≤ n
past n zero o = zero-le
past n (suc k) o = next n k (past n k o.0) o.1
