-- Operands in the ranges of their types are what `typed` asks. Assumes nothing.
use mathlib.Core.Path.{◌≡◌, refl, ap, ◌∙◌}
use mathlib.Core.Bool.{Bool, true, ◌&&◌}
use mathlib.Core.List.{List, ◌∷◌}
use Prim.Native.Nat.{ℕ, ◌^◌, ◌<◌}
use native.Mathlib.Omega.{arith}
use borrow.Author.Tests.{lt-ltb}
use Rattle.model.specs.Call.{is_reg, are_regs, is_pc, is_word, typed}
use Rattle.model.specs.declared.call.Op.{Op}

pub both : (a b : Bool) → a ≡ true → b ≡ true → a && b ≡ true
both a b h k = rw (h, k)

pub no_more : true ≡ true
no_more = refl

-- an operand after the other, each below its bound
pub ruleset in-range = (both, lt-ltb, no_more, arith)

pub as-op : {o k : Op} → o ≡ k → typed k ≡ true → typed o ≡ true
as-op e h = ap typed e ∙ h

pub pc : (n : ℕ) → n < 2 ^ 32 → is_pc n ≡ true
pc n h = lt-ltb n (2 ^ 32) h

pub word : (n : ℕ) → n < 2 ^ 64 → is_word n ≡ true
word n h = lt-ltb n (2 ^ 64) h

pub and-regs : (n : ℕ) (ns : List ℕ) → n < 2 ^ 16 → are_regs ns ≡ true → are_regs (n ∷ ns) ≡ true
and-regs n ns h k = both (is_reg n) (are_regs ns) (lt-ltb n (2 ^ 16) h) k
