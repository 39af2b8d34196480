-- An engine that follows another: each of its states is seen as one of the other's, and each of its calls does there what a call of the
-- other does. Then it keeps every promise that the other keeps. Assumes nothing.
use Prim.Native.Nat.{ℕ}
use mathlib.Core.Path.{◌≡◌, refl, sym, ap, ◌∙◌, subst}
use mathlib.Core.Bool.{Bool, ◌||◌}
use mathlib.Core.List.{List, [], ◌∷◌}
use mathlib.Core.Option.{Option, some}
use Rattle.heap.specs.declared.object.CoroState.{CoroState}
use Rattle.model.specs.declared.machine.Fuel.{Fuel}
use Rattle.model.specs.declared.call.Op.{Op}
use Rattle.claims_model.specs.Engine.{View, Engine, Turn, turn_call, turn_fuel, run_turns, seen_running, seen_suspended, seen_returned, state_is}
use Rattle.claims_model.specs.Demand3.{Enters, Suspends, Stops, Restarts, Waits, Goes}
use Rattle.claims_model.specs.Events.{Healthy, Returns, seen_failed, Fails}

pub record Follows (e d : Engine) : Type 0 where
  -- the state and the call of d that are followed
  pub to : e.State → d.State
  pub by : e.State → e.Call → d.Call
  pub view : (s : e.State) → d.view (to s) ≡ e.view s
  pub op : (s : e.State) (k : e.Call) → d.op (by s k) ≡ e.op k
  pub asks : (s : e.State) (k : e.Call) → Restarts e s k → d.asks (by s k) ≡ e.asks k
  pub next : (s : e.State) (k : e.Call) → d.next (to s) (by s k) ≡ to (e.next s k)
  pub refuel : (s : e.State) (x : Fuel) → d.refuel (to s) x ≡ to (e.refuel s x)
  pub number : (s : e.State) (k : e.Call) → d.number (to s) (by s k) ≡ e.number s k
  pub look : (s : e.State) → d.look (to s) ≡ e.look s
  -- every operation of d is followed by some call
  pub some-call : (s : e.State) (k : d.Call) (o : Op) → d.op k ≡ some o → (j : e.Call) × (by s j ≡ k)

-- all that is seen of a call
pub record Sight : Type 0 where
  pub before : View
  pub op : Option Op
  pub after : View
  pub number : ℕ

abbrev pub sight : (e : Engine) (s : e.State) (k : e.Call) → Sight
sight e s k = record { before = e.view s; op = e.op k; after = e.view (e.next s k); number = e.number s k }

-- ---- what is seen alike is alike

module _ (a b : Engine) (s : a.State) (k : a.Call) (t : b.State) (j : b.Call) (q : sight a s k ≡ sight b t j) where
  -- a test of what is seen before, and one of what is seen after
  runs-before : (c : ℕ) → state_is (b.view t) seen_running c ≡ state_is (a.view s) seen_running c
  runs-before c = ap (λ x. state_is x.before seen_running c) (sym q)

  after_is : (p : CoroState → Bool) (c : ℕ) → state_is (b.view (b.next t j)) p c ≡ state_is (a.view (a.next s k)) p c
  after_is p c = ap (λ x. state_is x.after p c) (sym q)

  pub enters-as : (c : ℕ) → Enters a c s k → Enters b c t j
  enters-as c h = record { before = runs-before c ∙ h.before; after = after_is seen_running c ∙ h.after }

  pub suspends-as : (c : ℕ) → Suspends a c s k → Suspends b c t j
  suspends-as c h = record { before = runs-before c ∙ h.before; after = after_is seen_suspended c ∙ h.after }

  pub returns_as : (c : ℕ) → Returns a c s k → Returns b c t j
  returns_as c h = record { before = runs-before c ∙ h.before; after = after_is seen_returned c ∙ h.after }

  pub fails-as : (c : ℕ) → Fails a c s k → Fails b c t j
  fails-as c h = record { before = runs-before c ∙ h.before; after = after_is seen_failed c ∙ h.after }

  pub leaves-as : (c : ℕ) → Stops a c s k → Stops b c t j
  leaves-as c h = record { before = runs-before c ∙ h.before; after = after_is (λ x. seen_suspended x || seen_returned x) c ∙ h.after }

  pub restarts-as : Restarts a s k → Restarts b t j
  restarts-as h = record { sets-up = ap (λ x. x.op) (sym q) ∙ h.sets-up; accepted = ap (λ x. x.number) (sym q) ∙ h.accepted }

module _ (e d : Engine) (f : Follows e d) where
  -- ---- one call

  pub same : (s : e.State) (k : e.Call) → sight d (f.to s) (f.by s k) ≡ sight e s k
  same s k =
      let after = ap d.view (f.next s k) ∙ f.view (e.next s k) in
      λ i. record { before = f.view s i; op = f.op s k i; after = after i; number = f.number s k i }

  module _ (s : e.State) (k : e.Call) where
    pub up-enters : (c : ℕ) → Enters e c s k → Enters d c (f.to s) (f.by s k)
    up-enters = enters-as e d s k (f.to s) (f.by s k) (sym (same s k))

    pub down-enters : (c : ℕ) → Enters d c (f.to s) (f.by s k) → Enters e c s k
    down-enters = enters-as d e (f.to s) (f.by s k) s k (same s k)

    pub up-suspends : (c : ℕ) → Suspends e c s k → Suspends d c (f.to s) (f.by s k)
    up-suspends = suspends-as e d s k (f.to s) (f.by s k) (sym (same s k))

    pub down-suspends : (c : ℕ) → Suspends d c (f.to s) (f.by s k) → Suspends e c s k
    down-suspends = suspends-as d e (f.to s) (f.by s k) s k (same s k)

    pub up-returns : (c : ℕ) → Returns e c s k → Returns d c (f.to s) (f.by s k)
    up-returns = returns_as e d s k (f.to s) (f.by s k) (sym (same s k))

    pub down-returns : (c : ℕ) → Returns d c (f.to s) (f.by s k) → Returns e c s k
    down-returns = returns_as d e (f.to s) (f.by s k) s k (same s k)

    pub up-fails : (c : ℕ) → Fails e c s k → Fails d c (f.to s) (f.by s k)
    up-fails = fails-as e d s k (f.to s) (f.by s k) (sym (same s k))

    pub down-fails : (c : ℕ) → Fails d c (f.to s) (f.by s k) → Fails e c s k
    down-fails = fails-as d e (f.to s) (f.by s k) s k (same s k)

    pub up-leaves : (c : ℕ) → Stops e c s k → Stops d c (f.to s) (f.by s k)
    up-leaves = leaves-as e d s k (f.to s) (f.by s k) (sym (same s k))

    pub down-leaves : (c : ℕ) → Stops d c (f.to s) (f.by s k) → Stops e c s k
    down-leaves = leaves-as d e (f.to s) (f.by s k) s k (same s k)

    pub up-restarts : Restarts e s k → Restarts d (f.to s) (f.by s k)
    up-restarts = restarts-as e d s k (f.to s) (f.by s k) (sym (same s k))

    pub down-restarts : Restarts d (f.to s) (f.by s k) → Restarts e s k
    down-restarts = restarts-as d e (f.to s) (f.by s k) s k (same s k)

  pub up-healthy : (s : e.State) → Healthy e s → Healthy d (f.to s)
  up-healthy s h k q =
      let (j, r) = f.some-call s k Op.Look q in
      subst (λ x. d.number (f.to s) x ≡ 0) r (f.number s j ∙ h j (sym (f.op s j) ∙ ap d.op r ∙ q))

  pub down-healthy : (s : e.State) → Healthy d (f.to s) → Healthy e s
  down-healthy s h k q = sym (f.number s k) ∙ h (f.by s k) (f.op s k ∙ q)

  -- ---- lists of turns

  abbrev pub along : e.State → List (Turn e.Call) → List (Turn d.Call)
  along s [] = []
  along s (turn_call k ∷ ts) = turn_call (f.by s k) ∷ along (e.next s k) ts
  along s (turn_fuel x ∷ ts) = turn_fuel x ∷ along (e.refuel s x) ts

  pub ran : (s : e.State) (ts : List (Turn e.Call)) → run_turns d (f.to s) (along s ts) ≡ f.to (run_turns e s ts)
  ran s [] = refl
  ran s (turn_call k ∷ ts) = ap (λ x. run_turns d x (along (e.next s k) ts)) (f.next s k) ∙ ran (e.next s k) ts
  ran s (turn_fuel x ∷ ts) = ap (λ y. run_turns d y (along (e.refuel s x) ts)) (f.refuel s x) ∙ ran (e.refuel s x) ts

  pub up-waits : (c : ℕ) (s : e.State) (ts : List (Turn e.Call)) → Waits e c s ts → Waits d c (f.to s) (along s ts)
  up-waits c s [] h = tt
  up-waits c s (turn_call k ∷ ts) (a, b, h) =
      (λ x. a (down-restarts s k x), λ x. b (down-enters s k c x), subst (λ x. Waits d c x (along (e.next s k) ts)) (sym (f.next s k)) (up-waits c (e.next s k) ts h))
  up-waits c s (turn_fuel x ∷ ts) h = subst (λ y. Waits d c y (along (e.refuel s x) ts)) (sym (f.refuel s x)) (up-waits c (e.refuel s x) ts h)

  pub down-waits : (c : ℕ) (s : e.State) (ts : List (Turn e.Call)) → Waits d c (f.to s) (along s ts) → Waits e c s ts
  down-waits c s [] h = tt
  down-waits c s (turn_call k ∷ ts) (a, b, h) =
      (λ x. a (up-restarts s k x), λ x. b (up-enters s k c x), down-waits c (e.next s k) ts (subst (λ x. Waits d c x (along (e.next s k) ts)) (f.next s k) h))
  down-waits c s (turn_fuel x ∷ ts) h = down-waits c (e.refuel s x) ts (subst (λ y. Waits d c y (along (e.refuel s x) ts)) (f.refuel s x) h)

  pub up-goes : (c : ℕ) (s : e.State) (ts : List (Turn e.Call)) → Goes e c s ts → Goes d c (f.to s) (along s ts)
  up-goes c s [] h = tt
  up-goes c s (turn_call k ∷ ts) (a, b, h) =
      (λ x. a (down-restarts s k x), λ x. b (down-leaves s k c x), subst (λ x. Goes d c x (along (e.next s k) ts)) (sym (f.next s k)) (up-goes c (e.next s k) ts h))
  up-goes c s (turn_fuel x ∷ ts) h = subst (λ y. Goes d c y (along (e.refuel s x) ts)) (sym (f.refuel s x)) (up-goes c (e.refuel s x) ts h)

  pub down-goes : (c : ℕ) (s : e.State) (ts : List (Turn e.Call)) → Goes d c (f.to s) (along s ts) → Goes e c s ts
  down-goes c s [] h = tt
  down-goes c s (turn_call k ∷ ts) (a, b, h) =
      (λ x. a (up-restarts s k x), λ x. b (up-leaves s k c x), down-goes c (e.next s k) ts (subst (λ x. Goes d c x (along (e.next s k) ts)) (f.next s k) h))
  down-goes c s (turn_fuel x ∷ ts) h = down-goes c (e.refuel s x) ts (subst (λ y. Goes d c y (along (e.refuel s x) ts)) (f.refuel s x) h)
