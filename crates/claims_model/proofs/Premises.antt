-- The premises of demand 3, met by computation, give what it claims: of every engine that has it.
use Prim.Native.Nat.{ℕ}
use mathlib.Core.Path.{◌≡◌, refl, ap, ◌∙◌}
use mathlib.Core.Bool.{Bool, true, false, not, ◌&&◌}
use mathlib.Core.List.{List, [], ◌∷◌}
use mathlib.Core.Option.{Option, none}
use lib.Dec.{eqb}
use borrow.Author.Tests.{not-true, eq-eqb}
use Rattle.model.specs.declared.call.Op.{Op}
use Rattle.claims_model.specs.Engine.{Engine, Turn, turn_call, turn_fuel, run_turns}
use Rattle.claims_model.specs.Demand3.{Suspends, Enters, Stops, Restarts, Waits, Goes, Demand3}
use Rattle.claims_model.specs.Premises.{is_set_up, runs_in, suspended_in, left_in, restarts, waits, goes, meets, premises, Holds}
use Rattle.claims_model.proofs.Cores.{no_both, and_left, and_right}

not-both : (a b : Bool) → not (a && b) ≡ true → a ≡ true → b ≡ true → ⊥
not-both a b h p q = no_both (ap (λ x. x && b) p ∙ q) (not-true (a && b) h)

six : (a b c d e f : Bool) → (a && b && not c && d && e && f) ≡ true → (a ≡ true) × (b ≡ true) × (c ≡ false) × (d ≡ true) × (e ≡ true) × (f ≡ true)
six false b c d e f h = no_both h refl
six true false c d e f h = no_both h refl
six true true true d e f h = no_both h refl
six true true false false e f h = no_both h refl
six true true false true false f h = no_both h refl
six true true false true true f h = (refl, refl, refl, refl, refl, h)

set-up : {o : Option Op} → o ≡ none → is_set_up o ≡ true
set-up e = ap is_set_up e

module _ (e : Engine) (c : ℕ) where
  no-restart : (s : e.State) (k : e.Call) → not (restarts e c s k) ≡ true → Restarts e s k → ⊥
  no-restart s k h r = not-both (is_set_up (e.op k)) (eqb (e.number s k) 0) h (set-up r.sets-up) (eq-eqb (e.number s k) 0 r.accepted)

  pub waits-true : (s : e.State) (ts : List (Turn e.Call)) → waits e c s ts ≡ true → Waits e c s ts
  waits-true s [] h = tt
  waits-true s (turn_fuel f ∷ ts) h = waits-true (e.refuel s f) ts h
  waits-true s (turn_call k ∷ ts) h =
      let t = e.next s k in
      let b : (not (not (runs_in e c s) && runs_in e c t) && waits e c t ts) ≡ true = and_right (not (restarts e c s k)) (not (not (runs_in e c s) && runs_in e c t) && waits e c t ts) h in (
        no-restart s k (and_left (not (restarts e c s k)) (not (not (runs_in e c s) && runs_in e c t) && waits e c t ts) h),
        (λ g. not-both (not (runs_in e c s)) (runs_in e c t) (and_left (not (not (runs_in e c s) && runs_in e c t)) (waits e c t ts) b) (ap not g.before) g.after),
        waits-true t ts (and_right (not (not (runs_in e c s) && runs_in e c t)) (waits e c t ts) b),
      )

  pub goes-true : (s : e.State) (ts : List (Turn e.Call)) → goes e c s ts ≡ true → Goes e c s ts
  goes-true s [] h = tt
  goes-true s (turn_fuel f ∷ ts) h = goes-true (e.refuel s f) ts h
  goes-true s (turn_call k ∷ ts) h =
      let t = e.next s k in
      let b : (not (runs_in e c s && left_in e c t) && goes e c t ts) ≡ true = and_right (not (restarts e c s k)) (not (runs_in e c s && left_in e c t) && goes e c t ts) h in (
        no-restart s k (and_left (not (restarts e c s k)) (not (runs_in e c s && left_in e c t) && goes e c t ts) h),
        (λ g. not-both (runs_in e c s) (left_in e c t) (and_left (not (runs_in e c s && left_in e c t)) (goes e c t ts) b) g.before g.after),
        goes-true t ts (and_right (not (runs_in e c s && left_in e c t)) (goes e c t ts) b),
      )

-- the premises apart
pub record Premises (e : Engine) (c : ℕ) (s : e.State) (x : e.Call) (waiting : List (Turn e.Call)) (y : e.Call) (going : List (Turn e.Call)) (z : e.Call) : Type 0 where
  pub suspends : Suspends e c s x
  pub waits : Waits e c (e.next s x) waiting
  pub enters : Enters e c (run_turns e (e.next s x) waiting) y
  pub goes : Goes e c (e.next (run_turns e (e.next s x) waiting) y) going
  pub leaves : Stops e c (run_turns e (e.next (run_turns e (e.next s x) waiting) y) going) z

pub premises-met : (e : Engine) (c : ℕ) (s : e.State) (x : e.Call) (waiting : List (Turn e.Call)) (y : e.Call) (going : List (Turn e.Call)) (z : e.Call) → premises e c s x waiting y going z ≡ true → Premises e c s x waiting y going z
premises-met e c s₁ x waiting y going z h =
    let s₂ = e.next s₁ x in
    let s₃ = run_turns e s₂ waiting in
    let s₄ = e.next s₃ y in
    let s₅ = run_turns e s₄ going in
    let s₆ = e.next s₅ z in
    let m : (meets e c s₁ s₂ s₃ s₄ s₅ s₆ && waits e c s₂ waiting) ≡ true = and_left (meets e c s₁ s₂ s₃ s₄ s₅ s₆ && waits e c s₂ waiting) (goes e c s₄ going) h in
    let t = six (runs_in e c s₁) (suspended_in e c s₂) (runs_in e c s₃) (runs_in e c s₄) (runs_in e c s₅) (left_in e c s₆) (and_left (meets e c s₁ s₂ s₃ s₄ s₅ s₆) (waits e c s₂ waiting) m) in
    record {
      suspends = record { before = t.0; after = t.1 };
      waits = waits-true e c s₂ waiting (and_right (meets e c s₁ s₂ s₃ s₄ s₅ s₆) (waits e c s₂ waiting) m);
      enters = record { before = t.2; after = t.3 };
      goes = goes-true e c s₄ going (and_right (meets e c s₁ s₂ s₃ s₄ s₅ s₆ && waits e c s₂ waiting) (goes e c s₄ going) h);
      leaves = record { before = t.4; after = t.5 };
    }

pub premises-hold : (e : Engine) → Demand3 e → (c : ℕ) (s : e.State) (x : e.Call) (waiting : List (Turn e.Call)) (y : e.Call) (going : List (Turn e.Call)) (z : e.Call) → premises e c s x waiting y going z ≡ true → Holds e c s x waiting y going z
premises-hold e d c s x waiting y going z h =
    let p = premises-met e c s x waiting y going z h in
    record { restored = d.restored c s x waiting y p.suspends p.waits p.enters; untouched = d.untouched c (run_turns e (e.next s x) waiting) y going z p.enters p.goes p.leaves }
