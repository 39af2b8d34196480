-- What a machine in words has that passes the test. Assumes nothing.
use Prim.Native.Nat.{ℕ, ◌-◌, ◌≤◌}
use native.Mathlib.Omega.{arith}
use mathlib.Core.Path.{◌≡◌, refl, sym, ap, ◌∙◌, subst}
use mathlib.Core.Bool.{Bool, true, false, ◌&&◌, ◌||◌}
use mathlib.Core.Logic.{◌⊎◌, inl, inr}
use lib.ListN.{length, get_or}
use lib.Dec.{eqb, leb}
use borrow.Author.Tests.{leb-true, eqb-true, eq-eqb}
use Rattle.std.specs.Prelude.{Option, Some, None}
use Rattle.model.specs.declared.machine.Stop.{Stop}
use Rattle.claims_sound.proofs.Tests.{and_left, and_right, both}
use Rattle.memory_world.specs.Told.{told, outcome_in}
use Rattle.memory_world.specs.declared.machine.Told.{Told}
use Rattle.memory_sound.specs.Words.{outcome_held}
use Rattle.memory_sound.proofs.Passed.{passed}
use Rattle.linked_calls.specs.Host.{Host, state_of, passes_test}
use Rattle.linked_calls.proofs.Hosts.{numbers, sound, sizes}
use Rattle.claims_linked.specs.Library.{Passes}
use Rattle.claims_linked.proofs.Words.{bank_set, numbers-each}

told-small : (o : Option Stop) → (told o).0 ≤ 5
told-small None = omega arith
told-small (Some (Stop.Yielded v)) = omega arith
told-small (Some (Stop.Awaiting v)) = omega arith
told-small (Some (Stop.Returned v)) = omega arith
told-small (Some (Stop.Failed v f p)) = omega arith
told-small (Some Stop.CloseIgnored) = omega arith

held_small : (t : Told) → outcome_held t ≡ true → t.0 ≤ 5
held_small t h =
    let u = told (outcome_in t) in
    let a = eqb u.0 t.0 in
    let b = a && eqb u.1 t.1 in
    let c = b && eqb u.2 t.2 in
    let e = eqb-true u.0 t.0 (and_left a (eqb u.1 t.1) (and_left b (eqb u.2 t.2) (and_left c (eqb u.3 t.3) h))) in
    subst (λ n. n ≤ 5) e (told-small (outcome_in t))

bank-is : (c a : ℕ) → (eqb c 1 || eqb c 0 && eqb a 0) ≡ true → (c ≡ 1) ⊎ ((c ≡ 0) × (a ≡ 0))
bank-is c a e = go (eqb c 1) refl
  where
    go : (b : Bool) → eqb c 1 ≡ b → (c ≡ 1) ⊎ ((c ≡ 0) × (a ≡ 0))
    go true q = inl (eqb-true c 1 q)
    go false q =
        let k : (eqb c 0 && eqb a 0) ≡ true = sym (ap (λ x. x || eqb c 0 && eqb a 0) q) ∙ e in
        inr (eqb-true c 0 (and_left (eqb c 0) (eqb a 0) k), eqb-true a 0 (and_right (eqb c 0) (eqb a 0) k))

or-true : (b : Bool) → (b || true) ≡ true
or-true true = refl
or-true false = refl

pub bank-set : (c a : ℕ) → (c ≡ 1) ⊎ ((c ≡ 0) × (a ≡ 0)) → (eqb c 1 || eqb c 0 && eqb a 0) ≡ true
bank-set c a (inl e) = ap (λ b. b || eqb c 0 && eqb a 0) (eq-eqb c 1 e)
bank-set c a (inr e) = ap (λ b. eqb c 1 || b) (both (eq-eqb c 0 e.0) (eq-eqb a 0 e.1)) ∙ or-true (eqb c 1)

pub passing : (h : Host) → passes_test h ≡ true → Passes h
passing h e =
    let n = numbers-each h.machine h.fuel (numbers h e) in
    let r = leb (get_or h.fuel 3 0) 1 in
    let s = state_of h in
    record {
      machine = leb-true 25 (length h.machine) n.0;
      fuel = leb-true 4 (length h.fuel) n.1;
      running = leb-true (get_or h.machine 6 0) 1 n.2;
      ready = leb-true (get_or h.fuel 3 0) 1 (and_left r (bank_set h.fuel) n.3);
      bank = bank-is (get_or h.fuel 1 0) (get_or h.fuel 2 0) (and_right r (bank_set h.fuel) n.3);
      outcome = held_small s.machine.outcome (passed s.words s.machine s.fuel (sound h e)).outcome;
      sizes = sizes h e;
      sound = sound h e;
    }
