-- Which test stands before that of the operands, by the code. Assumes nothing.
use mathlib.Core.Path.{◌≡◌, refl}
use Prim.Native.Nat.{ℕ, ◌≤◌, ◌<◌}
use native.Mathlib.Omega.{arith}
use borrow.Author.Tests.{eq-eqb, ne_eqb, eqb-false, lt-ltb, le-ltb}
use mathlib.Core.Bool.{Bool, true, false}
use lib.Dec.{eqb, ltb}
use Rattle.lists.specs.Pick.{pick}
use Rattle.heap.specs.declared.fault.Fault.{Fault}
use Rattle.memory_calls.specs.Call.{no_fault, gate_by, refusal}
use Rattle.memory_calls.specs.declared.call.Gate.{Gate}

module _ (n a : ℕ) where
  pub low : n < 14 → Gate.Frame ≡ gate_by n a
  unfolding pick
  low h = rw (lt-ltb n 14 h)

  pub unwinds : n ≡ 15 → no_fault a ≡ true → Gate.NoFault ≡ gate_by n a
  unfolding pick
  unwinds h k = rw (h, k)

  pub unwinds-it : n ≡ 15 → no_fault a ≡ false → Gate.Operand ≡ gate_by n a
  unfolding pick
  unwinds-it h k = rw (h, k)

  -- 14 and 16
  pub middle : 14 ≤ n → (n ≡ 15 → ⊥) → n < 17 → Gate.Operand ≡ gate_by n a
  unfolding pick
  middle h k l =
      rw (le-ltb n 14 h, ne_eqb n 19 (λ z. omega arith), ne_eqb n 20 (λ z. omega arith), ne_eqb n 17 (λ z. omega arith), ne_eqb n 18 (λ z. omega arith), ne_eqb n 15 k)

  -- 17 and 18
  pub hosts : 17 ≤ n → n < 19 → Gate.Host ≡ gate_by n a
  unfolding pick
  hosts h l = go (eqb n 17) refl
    where
      go : (b : Bool) → eqb n 17 ≡ b → Gate.Host ≡ gate_by n a
      go true e = rw (le-ltb n 14 (omega arith), ne_eqb n 19 (λ z. omega arith), ne_eqb n 20 (λ z. omega arith), e)
      go false e = rw (le-ltb n 14 (omega arith), ne_eqb n 19 (λ z. omega arith), ne_eqb n 20 (λ z. omega arith), e, eq-eqb n 18 (let k = eqb-false n 17 e in omega (arith, k)))

  -- 19 and 20
  pub frames : 19 ≤ n → n < 21 → Gate.Frame ≡ gate_by n a
  unfolding pick
  frames h l = go (eqb n 19) refl
    where
      go : (b : Bool) → eqb n 19 ≡ b → Gate.Frame ≡ gate_by n a
      go true e = rw (le-ltb n 14 (omega arith), e)
      go false e = rw (le-ltb n 14 (omega arith), e, eq-eqb n 20 (let k = eqb-false n 19 e in omega (arith, k)))

  pub high : 21 ≤ n → Gate.Operand ≡ gate_by n a
  unfolding pick
  high h =
      rw (le-ltb n 14 (omega arith), ne_eqb n 19 (λ z. omega arith), ne_eqb n 20 (λ z. omega arith), ne_eqb n 17 (λ z. omega arith), ne_eqb n 18 (λ z. omega arith), ne_eqb n 15 (λ z. omega arith))

-- ---- by whether a frame stands

module _ (g : Gate) (d : ℕ) where
  pub no-frame : g ≡ Gate.Frame → d ≡ 0 → Fault.NoFrame ≡ refusal g (eqb d 0)
  unfolding pick
  no-frame h k = rw (h, k)

  pub in_frame : g ≡ Gate.Frame → (d ≡ 0 → ⊥) → Fault.BadOperand ≡ refusal g (eqb d 0)
  unfolding pick
  in_frame h k = rw (h, ne_eqb d 0 k)

  pub idle : g ≡ Gate.Host → d ≡ 0 → Fault.BadOperand ≡ refusal g (eqb d 0)
  unfolding pick
  idle h k = rw (h, k)

  pub busy : g ≡ Gate.Host → (d ≡ 0 → ⊥) → Fault.Busy ≡ refusal g (eqb d 0)
  unfolding pick
  busy h k = rw (h, ne_eqb d 0 k)
