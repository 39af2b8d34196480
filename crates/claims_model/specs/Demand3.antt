-- Demand 3 of 01, of an engine: what a coroutine held when it was suspended stands again after its next entry, moved by one distance;
-- and what lay below an entry is, at the coroutine's next yield, await or return, as the entry left it, but for the driver's delivery.
use Rattle.std.specs.Prelude.{ℕ, ◌≡◌, true, false, ◌||◌, List, [], ◌∷◌}
use Rattle.std.proofs.Math.Option.{none}
use Rattle.claims_model.specs.Engine.{Engine, Turn, turn_call, turn_fuel, run_turns, seen_running, seen_suspended, seen_returned, state_is}
use Rattle.claims_model.specs.Held.{Entered, Restored}
use Rattle.claims_model.specs.Delivery.{LeftBelow}

-- ---- events, read off what is seen before and after a call

pub record Enters (e : Engine) (c : ℕ) (s : e.State) (k : e.Call) : Type 0 where
  pub before : state_is (e.view s) seen_running c ≡ false
  pub after : state_is (e.view (e.next s k)) seen_running c ≡ true

-- 01: "A yield (YieldKv too) or await counts if `coro_suspend` accepts, also where 2 or 6 follows"
pub record Suspends (e : Engine) (c : ℕ) (s : e.State) (k : e.Call) : Type 0 where
  pub before : state_is (e.view s) seen_running c ≡ true
  pub after : state_is (e.view (e.next s k)) seen_suspended c ≡ true

-- it yields, awaits or returns. 01: "a return if `finish` or `unwind` makes it Returned".
-- Such an `unwind` stops there, and after 2, 6 and 17 the unwinding is a later call: no call both returns and unwinds further.
pub record Stops (e : Engine) (c : ℕ) (s : e.State) (k : e.Call) : Type 0 where
  pub before : state_is (e.view s) seen_running c ≡ true
  pub after : state_is (e.view (e.next s k)) (λ x. seen_suspended x || seen_returned x) c ≡ true

-- an accepted set-up. 01: "a coroutine from before an accepted one has no next entry, yield, await or return"
pub record Restarts (e : Engine) (s : e.State) (k : e.Call) : Type 0 where
  pub sets-up : e.op k ≡ none
  pub accepted : e.number s k ≡ 0

-- among the calls is no accepted set-up, and none enters c
abbrev pub Waits : (e : Engine) → ℕ → e.State → List (Turn e.Call) → Type 0
Waits e c s [] = Unit {0}
Waits e c s (turn_call k ∷ ts) = (Restarts e s k → ⊥) × (Enters e c s k → ⊥) × Waits e c (e.next s k) ts
Waits e c s (turn_fuel f ∷ ts) = Waits e c (e.refuel s f) ts

-- among the calls is no accepted set-up, and in none does c yield, await or return
abbrev pub Goes : (e : Engine) → ℕ → e.State → List (Turn e.Call) → Type 0
Goes e c s [] = Unit {0}
Goes e c s (turn_call k ∷ ts) = (Restarts e s k → ⊥) × (Stops e c s k → ⊥) × Goes e c (e.next s k) ts
Goes e c s (turn_fuel f ∷ ts) = Goes e c (e.refuel s f) ts

-- ---- the claim: from every state, of every list of the host's turns, and wherever it is split

pub record Demand3 (e : Engine) : Type 0 where
  -- y enters c, be it the first time
  pub entered : (c : ℕ) (s : e.State) (y : e.Call) → Enters e c s y → Entered (e.view s) (e.op y) c (e.view (e.next s y))
  -- x suspends c, then come the turns `waiting`, and y is its next entry
  pub restored : (c : ℕ) (s : e.State) (x : e.Call) (waiting : List (Turn e.Call)) (y : e.Call) → Suspends e c s x → Waits e c (e.next s x) waiting
      → let t = run_turns e (e.next s x) waiting in Enters e c t y → Restored (e.view s) (e.op x) (e.view t) (e.op y) c (e.view (e.next t y))
  -- y enters c, be it the first time, then come the turns `going`, and z is where it next yields, awaits or returns
  pub untouched : (c : ℕ) (s : e.State) (y : e.Call) (going : List (Turn e.Call)) (z : e.Call) → Enters e c s y → Goes e c (e.next s y) going
      → let t = run_turns e (e.next s y) going in Stops e c t z → LeftBelow (e.view s) (e.op y) c (e.view t) (e.op z) (e.view (e.next t z))
