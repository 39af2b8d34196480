-- An outcome's four words, by its number. Assumes nothing.
use mathlib.Core.Path.{◌≡◌, refl, sym, ap, ◌∙◌}
use mathlib.Core.Bool.{Bool, true, false, ◌&&◌, ◌||◌}
use Prim.Native.Nat.{ℕ, zero, suc, ◌^◌, ◌≤◌, ◌<◌}
use native.Mathlib.Omega.{arith}
use lib.Dec.{eqb, ltb}
use borrow.Author.Tests.{eqb-true, eq-eqb, ne_eqb, lt-ltb, le-ltb}
use Rattle.lists.specs.Pick.{pick}
use Rattle.std.specs.Prelude.{Option, Some, None}
use Rattle.model.specs.Sound.{outcome_range, is_none}
use Rattle.model.specs.declared.machine.Stop.{Stop}
use Rattle.memory_world.specs.Told.{told, outcome_in}
use Rattle.memory_world.specs.declared.machine.Told.{Told}
use Rattle.memory_sound.specs.Words.{outcome_held}
use Rattle.claims_sound.proofs.Tests.{no_true, and_left, and_right}
use Rattle.check_tables.proofs.Bools.{fails, eqb-flip}
use Rattle.check_machine.specs.Numbers.{outcome_test}

-- six numbers
told-small : (o : Option Stop) → (told o).0 ≤ 5
told-small None = omega arith
told-small (Some (Stop.Yielded v)) = omega arith
told-small (Some (Stop.Awaiting v)) = omega arith
told-small (Some (Stop.Returned v)) = omega arith
told-small (Some (Stop.Failed v f p)) = omega arith
told-small (Some Stop.CloseIgnored) = omega arith

-- only a failure has a function and a pc
plain_of : (a b c d e : Bool) (v f p : ℕ) → e ≡ false
    → let o = told (pick a None (pick b (Some (Stop.Yielded v)) (pick c (Some (Stop.Awaiting v)) (pick d (Some (Stop.Returned v)) (pick e (Some (Stop.Failed v f p)) (Some Stop.CloseIgnored)))))) in
    (o.2 ≡ 0) × (o.3 ≡ 0)
unfolding pick
plain_of true b c d e v f p h = (refl, refl)
plain_of false true c d e v f p h = (refl, refl)
plain_of false false true d e v f p h = (refl, refl)
plain_of false false false true e v f p h = (refl, refl)
plain_of false false false false true v f p h = no_true h
plain_of false false false false false v f p h = (refl, refl)

module _ (t : Told) where
  abbrev u : Told
  u = told (outcome_in t)

  record Same : Type 0 where
    first : u.0 ≡ t.0
    third : u.2 ≡ t.2
    fourth : u.3 ≡ t.3

  same_of : outcome_test t ≡ true → Same
  same_of h =
      let a = eqb u.0 t.0 in
      let b = a && eqb u.1 t.1 in
      let c = b && eqb u.2 t.2 in
      let h₃ = and_left (outcome_held t) (outcome_range (outcome_in t)) h in
      let h₂ = and_left c (eqb u.3 t.3) h₃ in
      let h₁ = and_left b (eqb u.2 t.2) h₂ in
      record {
        first = eqb-true u.0 t.0 (and_left a (eqb u.1 t.1) h₁);
        third = eqb-true u.2 t.2 (and_right b (eqb u.2 t.2) h₂);
        fourth = eqb-true u.3 t.3 (and_right c (eqb u.3 t.3) h₃);
      }

  pub past : 5 < t.0 → false ≡ outcome_test t
  past h = sym (fails (outcome_test t) (eqb u.0 t.0) (λ e. eq-eqb u.0 t.0 (same_of e).first) (ne_eqb u.0 t.0 (λ q. let s = told-small (outcome_in t) in omega arith)))

  module _ (other : t.0 ≡ 4 → ⊥) where
    plain : (u.2 ≡ 0) × (u.3 ≡ 0)
    plain = plain_of (eqb t.0 0) (eqb t.0 1) (eqb t.0 2) (eqb t.0 3) (eqb t.0 4) t.1 t.2 t.3 (ne_eqb t.0 4 other)

    pub third-not : (t.2 ≡ 0 → ⊥) → false ≡ outcome_test t
    third-not h = sym (fails (outcome_test t) (eqb t.2 0) (λ e. eq-eqb t.2 0 (sym (same_of e).third ∙ plain.0)) (ne_eqb t.2 0 h))

    pub fourth-not : (t.3 ≡ 0 → ⊥) → false ≡ outcome_test t
    fourth-not h = sym (fails (outcome_test t) (eqb t.3 0) (λ e. eq-eqb t.3 0 (sym (same_of e).fourth ∙ plain.1)) (ne_eqb t.3 0 h))

  -- a failure
  failed : t.0 ≡ 4 → outcome_test t ≡ (ltb t.2 (2 ^ 32) && ltb t.3 (2 ^ 32))
  unfolding pick
  failed e = rw (e, eq-eqb t.1 t.1 refl, eq-eqb t.2 t.2 refl, eq-eqb t.3 t.3 refl)

  pub far-func : t.0 ≡ 4 → 2 ^ 32 ≤ t.2 → false ≡ outcome_test t
  far-func e h = sym (failed e ∙ ap (λ b. b && ltb t.3 (2 ^ 32)) (le-ltb t.2 (2 ^ 32) h))

  pub by-pc : t.0 ≡ 4 → t.2 < 2 ^ 32 → ltb t.3 (2 ^ 32) ≡ outcome_test t
  by-pc e h = sym (failed e ∙ ap (λ b. b && ltb t.3 (2 ^ 32)) (lt-ltb t.2 (2 ^ 32) h))

  -- the others
  trues : (b : Bool) → b ≡ ((b && true) && true) && true
  trues true = refl
  trues false = refl

  pub no_word : t.0 ≡ 0 → t.2 ≡ 0 → t.3 ≡ 0 → eqb t.1 0 ≡ outcome_test t
  unfolding pick
  no_word e f g = eqb-flip t.1 0 ∙ (rw (e, f, g) (trues (eqb 0 t.1)))

  pub ignored : t.0 ≡ 5 → t.2 ≡ 0 → t.3 ≡ 0 → eqb t.1 0 ≡ outcome_test t
  unfolding pick
  ignored e f g = eqb-flip t.1 0 ∙ (rw (e, f, g) (trues (eqb 0 t.1)))

  one : (n : ℕ) → t.0 ≡ n → 0 < n → n < 4 → t.2 ≡ 0 → t.3 ≡ 0 → true ≡ outcome_test t
  unfolding pick
  one zero e h k f g = absurd (omega arith)
  one (suc zero) e h k f g = rw (e, f, g, eq-eqb t.1 t.1 refl)
  one (suc (suc zero)) e h k f g = rw (e, f, g, eq-eqb t.1 t.1 refl)
  one (suc (suc (suc zero))) e h k f g = rw (e, f, g, eq-eqb t.1 t.1 refl)
  one (suc (suc (suc (suc n)))) e h k f g = absurd (omega arith)

  pub word : t.0 ≤ 5 → (t.0 ≡ 0 → ⊥) → (t.0 ≡ 4 → ⊥) → (t.0 ≡ 5 → ⊥) → t.2 ≡ 0 → t.3 ≡ 0 → true ≡ outcome_test t
  word l a b c f g = one t.0 refl (omega arith) (omega arith) f g

-- ---- fuel

pub no-bank : (o : Option ℕ) (b : Bool) → o ≡ None → true ≡ (is_none o || b)
no-bank o b e = sym (ap (λ x. is_none x || b) e)

pub a-bank : (o : Option ℕ) (n : ℕ) (b : Bool) → o ≡ Some n → b ≡ (is_none o || b)
a-bank o n b e = sym (ap (λ x. is_none x || b) e)
