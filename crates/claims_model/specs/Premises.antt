-- The premises of demand 3 as one test, so that a list of calls can be shown to meet them by computation; and what follows.
use Rattle.std.specs.Prelude.{ℕ, Bool, true, false, not, ◌&&◌, ◌||◌, List, [], ◌∷◌, eqb}
use Rattle.std.proofs.Math.Option.{Option, none, some}
use Rattle.model.specs.declared.call.Op.{Op}
use Rattle.claims_model.specs.Engine.{Engine, Turn, turn_call, turn_fuel, run_turns, seen_running, seen_suspended, seen_returned, state_is}
use Rattle.claims_model.specs.Held.{Restored}
use Rattle.claims_model.specs.Delivery.{LeftBelow}

abbrev pub is_set_up : Option Op → Bool
is_set_up none = true
is_set_up (some o) = false

module _ (e : Engine) (c : ℕ) where
  abbrev pub runs_in : e.State → Bool
  runs_in s = state_is (e.view s) seen_running c

  abbrev pub suspended_in : e.State → Bool
  suspended_in s = state_is (e.view s) seen_suspended c

  abbrev pub left_in : e.State → Bool
  left_in s = state_is (e.view s) (λ x. seen_suspended x || seen_returned x) c

  abbrev pub restarts : e.State → e.Call → Bool
  restarts s k = is_set_up (e.op k) && eqb (e.number s k) 0

  -- no call is an accepted set-up or enters c; or is one, or lets c leave
  abbrev pub waits : e.State → List (Turn e.Call) → Bool
  waits s [] = true
  waits s (turn_call k ∷ ts) = not (restarts s k) && (not (not (runs_in s) && runs_in (e.next s k)) && waits (e.next s k) ts)
  waits s (turn_fuel f ∷ ts) = waits (e.refuel s f) ts

  abbrev pub goes : e.State → List (Turn e.Call) → Bool
  goes s [] = true
  goes s (turn_call k ∷ ts) = not (restarts s k) && (not (runs_in s && left_in (e.next s k)) && goes (e.next s k) ts)
  goes s (turn_fuel f ∷ ts) = goes (e.refuel s f) ts

  -- before and after x, before and after y, before and after z
  abbrev pub meets : e.State → e.State → e.State → e.State → e.State → e.State → Bool
  meets s₁ s₂ s₃ s₄ s₅ s₆ = runs_in s₁ && suspended_in s₂ && not (runs_in s₃) && runs_in s₄ && runs_in s₅ && left_in s₆

  abbrev pub premises : e.State → e.Call → List (Turn e.Call) → e.Call → List (Turn e.Call) → e.Call → Bool
  premises s₁ x waiting y going z =
      let s₂ = e.next s₁ x in
      let s₃ = run_turns e s₂ waiting in
      let s₄ = e.next s₃ y in
      let s₅ = run_turns e s₄ going in
      meets s₁ s₂ s₃ s₄ s₅ (e.next s₅ z) && waits s₂ waiting && goes s₄ going

-- what follows from them
pub record Holds (e : Engine) (c : ℕ) (s : e.State) (x : e.Call) (waiting : List (Turn e.Call)) (y : e.Call) (going : List (Turn e.Call)) (z : e.Call) : Type 0 where
  pub restored : let t = run_turns e (e.next s x) waiting in Restored (e.view s) (e.op x) (e.view t) (e.op y) c (e.view (e.next t y))
  pub untouched : let t = run_turns e (e.next s x) waiting in let u = run_turns e (e.next t y) going in LeftBelow (e.view t) (e.op y) c (e.view u) (e.op z) (e.view (e.next u z))
