-- What holds of every reachable machine beyond "Sound": the statement.
use Rattle.std.specs.Prelude.{ℕ, ◌+◌, ◌≡◌, Bool, true, false, not, ◌&&◌, ◌||◌, List, [], ◌∷◌, eqb}
use Rattle.model.specs.Lists.{is_nil, each}
use Rattle.model.specs.Program.{Setup, setup_ok}
use Rattle.model.specs.World.{World, fresh}
use Rattle.model.specs.Sound.{is_none, sound}
use Rattle.model.specs.Call.{Operation, Call, Do}
use Rattle.model.specs.Step.{step, run}
use Rattle.model.specs.declared.machine.Driver.{Driver}
use Rattle.model.specs.declared.machine.Active.{Active}
use Rattle.model.specs.declared.machine.Fuel.{Fuel}
use Rattle.claims_sound.specs.Exact.{exact_ok}

-- the cleanups that run: the drivers of the chain that are Finalize
abbrev pub final_of : Driver → ℕ
final_of (Driver.Resume dst) = 0
final_of (Driver.Iter has val iter) = 0
final_of Driver.Host = 0
final_of Driver.Finalize = 1

abbrev pub finals : List Active → ℕ
finals [] = 0
finals (a ∷ chain) = final_of a.driver + finals chain

-- the host drives at floor 0 only
abbrev pub host_low : Driver → ℕ → Bool
host_low (Driver.Resume dst) floor = true
host_low (Driver.Iter has val iter) floor = true
host_low Driver.Host floor = eqb floor 0
host_low Driver.Finalize floor = true

abbrev pub hosts_low : List Active → Bool
hosts_low chain = each (λ a. host_low a.driver a.floor) chain

abbrev pub one_if : Bool → ℕ
one_if true = 1
one_if false = 0

-- a cleanup is ready exactly if none runs and the queue is not empty; fuel is banked only while one is ready; `finalizing` says
-- whether one runs, and at most one does; the host drives at floor 0 only. `owed` counts one that has left the chain and not yet been told.
pub record AgreeOf (owed : ℕ) (finalizing : Bool) (queue : List ℕ) (f : Fuel) (chain : List Active) : Type 0 where
  pub ready : f.ready ≡ (not finalizing && not (is_nil queue))
  pub bank : (is_none f.bank || f.ready) ≡ true
  pub active : owed + finals chain ≡ one_if finalizing
  pub hosts : hosts_low chain ≡ true

abbrev pub Owing : ℕ → World → Type 0
Owing n w = AgreeOf n w.finalizing w.finalize w.fuel w.chain

abbrev pub Agree : World → Type 0
Agree w = Owing 0 w

pub record Reachable : Type 0 where
  -- every frame, saved ones too, is as wide as its function's register count, the bottom frame is Entry or Coro, and a Created
  -- coroutine has one frame: kept by each call, and so after every list of them
  pub exact-kept : (w : World) (o : Operation) → sound w ≡ true → exact_ok w ≡ true → exact_ok (step w (Do o)).world ≡ true
  pub exactly : (s : Setup) (cs : List Call) → setup_ok s ≡ true → exact_ok (run (fresh s) cs) ≡ true
  -- ready, bank and finalizing agree with the queue and the chain, and the host drives at floor 0 only
  pub agree-kept : (w : World) (c : Call) → Agree w → Agree (step w c).world
  pub agree : (s : Setup) (cs : List Call) → Agree (run (fresh s) cs)
