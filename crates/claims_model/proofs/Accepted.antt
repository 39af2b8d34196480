-- The events are what the functions accept: a call enters someone exactly if coro_enter accepts in it, and suspends exactly if
-- coro_suspend does; one switch a call at most. And an entry is accepted where nothing of what 01 lists forbids it.
use Prim.Native.Nat.{ℕ, ◌+◌, ◌≤◌}
use mathlib.Core.Path.{◌≡◌}
use mathlib.Core.Bool.{Bool, true, false}
use mathlib.Core.List.{List, [], ◌∷◌}
use mathlib.Core.Option.{Option, none, some}
use lib.ListN.{length}
use Rattle.model.specs.Lists.{is_nil}
use Rattle.model.specs.State.{is_awaiting, is_suspended, is_resumable}
use Rattle.model.specs.Object.{Core, Rest, Is, is_done}
use Rattle.model.specs.World.{World}
use Rattle.model.specs.Frames.{reg}
use Rattle.model.specs.Heap.{object, coro}
use Rattle.model.specs.Coro.{coro_enter}
use Rattle.model.specs.Cleanup.{is_entered, charge}
use Rattle.model.specs.Sound.{sound}
use Rattle.model.specs.Call.{Call, typed, as_call}
use Rattle.model.specs.declared.machine.Active.{Active}
use Rattle.model.specs.declared.machine.Driver.{Driver}
use Rattle.model.specs.declared.machine.Charge.{Charge}
use Rattle.std.specs.Prelude.{Some}
use Rattle.model.specs.declared.call.Op.{Op}
use Rattle.claims_model.specs.Says.{Sent}
use Rattle.claims_model.proofs.Entry.{Act, at, by_host, finishes, unwinds, other, act, entry, accepts, entry_of, driver_of, sent_of, pc_by}
use Rattle.claims_model.proofs.Suspension.{suspends_of}
use Rattle.claims_model.proofs.Split.{Suspends, Enters}

-- the innermost active coroutine
abbrev pub inmost : List Active → Option ℕ
inmost [] = none
inmost (a ∷ chain) = some a.coro

pub record Exactly (w : World) (k : Call) (c : ℕ) : Type 0 where
  -- `accepts`, by which entry_of is defined, is what coro_enter answers
  pub accepted : (d : Driver) → is_entered (coro_enter c d w).answer ≡ accepts w c
  pub entered : Enters c w k → entry_of w k ≡ entry c (driver_of (entry_of w k)) (sent_of (entry_of w k))
  pub enters : (d : Driver) (v : Sent) → entry_of w k ≡ entry c d v → Enters c w k
  pub suspended : Suspends c w k → (suspends_of w k ≡ true) × (inmost w.chain ≡ some c)
  pub suspends : suspends_of w k ≡ true → inmost w.chain ≡ some c → Suspends c w k
  pub one_entry : (u : ℕ) → Enters c w k → Enters u w k → c ≡ u
  pub one-suspension : (u : ℕ) → Suspends c w k → Suspends u w k → c ≡ u
  pub one-switch : (u : ℕ) → Enters c w k → Suspends u w k → ⊥

-- ---- acceptance

-- c can be resumed, and both limits are met
pub record Fits (w : World) (c : ℕ) (k : Core) (r : Rest) : Type 0 where
  pub there : coro w c ≡ Is k r
  pub resumable : is_resumable k.state ≡ true
  pub depth : length w.frames + length k.frames ≤ w.setup.limits.depth
  pub stack : length w.stack + length k.regs ≤ w.setup.limits.stack

abbrev pub passes : Act → Bool
passes (at pc ok a) = ok
passes (by_host c v) = true
passes (finishes kind v) = true
passes unwinds = true
passes other = true

-- the machine is sound, the gate is passed and the charge is taken
pub record Starts (w : World) (o : Op) (n : ℕ) : Type 0 where
  pub fits : typed o ≡ true
  pub healthy : sound w ≡ true
  pub frame : is_nil w.frames ≡ false
  pub gate : passes (act w o) ≡ true
  pub paid : (charge (Some (pc_by (act w o))) w).answer ≡ Charge.Done n

pub record Acceptance (w : World) (n : ℕ) (k : Core) (r : Rest) : Type 0 where
  pub resume : (pc dst c src : ℕ) (s : Starts w (Op.Resume pc dst c src) n) → Fits w (reg w c) k r → Enters (reg w c) w (as_call (Op.Resume pc dst c src) s.fits)
  pub throw : (pc dst c src : ℕ) (s : Starts w (Op.ResumeThrow pc dst c src) n) → Fits w (reg w c) k r → is_suspended k.state ≡ true → Enters (reg w c) w (as_call (Op.ResumeThrow pc dst c src) s.fits)
  pub close : (pc dst c src : ℕ) (s : Starts w (Op.CoroClose pc dst c src) n) → Fits w (reg w c) k r → is_suspended k.state ≡ true → Enters (reg w c) w (as_call (Op.CoroClose pc dst c src) s.fits)
  pub loop : (pc has iter val src : ℕ) (s : Starts w (Op.IterNext pc has iter val src) n) → Fits w (reg w src) k r → is_done (object w (reg w iter)) ≡ false → is_awaiting k.state ≡ false
      → Enters (reg w src) w (as_call (Op.IterNext pc has iter val src) s.fits)
  pub host : (c v : ℕ) (fits : typed (Op.HostEntry c v) ≡ true) → sound w ≡ true → is_nil w.frames ≡ true → Fits w c k r → Enters c w (as_call (Op.HostEntry c v) fits)
