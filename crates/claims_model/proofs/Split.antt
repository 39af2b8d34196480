-- The events of demand 3 on worlds, and what a coroutine leaves below it.
use Prim.Native.Nat.{ℕ}
use mathlib.Core.Path.{◌≡◌}
use mathlib.Core.Bool.{Bool, true, false, ◌||◌}
use mathlib.Core.List.{List, [], ◌∷◌}
use Rattle.heap.specs.declared.object.CoroState.{CoroState}
use Rattle.model.specs.State.{is_running, is_suspended, is_returned}
use Rattle.model.specs.Program.{setup_ok}
use Rattle.model.specs.World.{World}
use Rattle.model.specs.Call.{Call, SetUp, Do}
use Rattle.model.specs.Step.{step}
use Rattle.claims_model.specs.Engine.{Turn, turn_call, turn_fuel}
use Rattle.claims_model.specs.Steps.{steps}
use Rattle.claims_model.proofs.Entry.{entry_of, driver_of}
use Rattle.claims_model.proofs.Held.{Seat, core_at, calling, event_of, mem, deliver_to}

-- ---- events, read off the worlds before and after a call

abbrev pub next : World → Call → World
next w k = (step w k).world

-- Yielded, Awaiting or Returned
abbrev pub has_left : CoroState → Bool
has_left s = is_suspended s || is_returned s

pub record Suspends (c : ℕ) (w : World) (k : Call) : Type 0 where
  pub before : is_running (core_at w c).state ≡ true
  pub after : is_suspended (core_at (next w k) c).state ≡ true

pub record Enters (c : ℕ) (w : World) (k : Call) : Type 0 where
  pub before : is_running (core_at w c).state ≡ false
  pub after : is_running (core_at (next w k) c).state ≡ true

pub record Stops (c : ℕ) (w : World) (k : Call) : Type 0 where
  pub before : is_running (core_at w c).state ≡ true
  pub after : has_left (core_at (next w k) c).state ≡ true

-- an accepted set-up
abbrev pub restarts : Call → Bool
restarts (SetUp s) = setup_ok s
restarts (Do o) = false

-- among the calls is no accepted set-up, and none enters c
abbrev pub Waits : ℕ → World → List (Turn Call) → Type 0
Waits c w [] = Unit {0}
Waits c w (turn_call k ∷ ts) = (restarts k ≡ false) × (Enters c w k → ⊥) × Waits c (next w k) ts
Waits c w (turn_fuel f ∷ ts) = Waits c (steps.refuel w f) ts

-- among the calls is no accepted set-up, and in none does c yield, await or return
abbrev pub Goes : ℕ → World → List (Turn Call) → Type 0
Goes c w [] = Unit {0}
Goes c w (turn_call k ∷ ts) = (restarts k ≡ false) × (Stops c w k → ⊥) × Goes c (next w k) ts
Goes c w (turn_fuel f ∷ ts) = Goes c (steps.refuel w f) ts

-- ---- suspended. 01: "held are its Coro frame with all frames above it, and the words from that frame's base up"

-- c is Yielded or Awaiting, and s is its state, saved words, saved frames and waiting register
pub record SuspendedAs (w : World) (c : ℕ) (s : Seat) : Type 0 where
  pub is-suspended : is_suspended s.state ≡ true
  pub holds : core_at w c ≡ s

-- k, at w, entered c, and l, at v, lets it yield, await or return and leaves z: the whole stack, all frames and the chain
pub record Left (w : World) (k : Call) (c : ℕ) (v : World) (l : Call) (z : World) : Type 0 where
  pub under : mem z.stack z.frames ≡ deliver_to (driver_of (entry_of w k)) (event_of v l c) (mem w.stack (calling w k))
  pub chain : z.chain ≡ w.chain
