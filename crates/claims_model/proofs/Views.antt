-- What is seen of a world: states, registers, and what a call says of itself, beside the proof's own words for them.
use Prim.Native.Nat.{ℕ}
use mathlib.Core.Path.{◌≡◌, refl, sym, ap, subst}
use mathlib.Core.Bool.{Bool, true, not, ◌&&◌, ◌||◌}
use Rattle.heap.specs.declared.fault.Fault.{Fault}
use Rattle.heap.specs.declared.object.CoroState.{CoroState}
use Rattle.heap.specs.declared.heap.ResultKind.{ResultKind}
use Rattle.model.specs.State.{is_created, is_running, is_awaiting, is_suspended, is_returned, is_resumable}
use Rattle.model.specs.Object.{Coroutine, Absent, Is, is_done}
use Rattle.model.specs.World.{World, After}
use Rattle.model.specs.Frames.{reg}
use Rattle.model.specs.Heap.{object, coro}
use Rattle.model.specs.Cleanup.{coro_suspended}
use Rattle.model.specs.Calls.{Instruction, table}
use Rattle.model.specs.declared.exec.Step.{Step}
use Rattle.model.specs.declared.machine.Driver.{Driver}
use Rattle.std.specs.Prelude.{Option}
use Rattle.model.specs.declared.call.Op.{Op}
use Rattle.claims_invariant.specs.Kept as Kept
use Rattle.claims_model.specs.Engine.{seen_created, seen_running, seen_awaiting, seen_suspended, seen_returned, seen_in, state_is}
use Rattle.claims_model.specs.Says.{Aim, enter, suspend, neither, Announced, instr, hosts, finishes, raises, other, announced, nothing, gets, closes}
use Rattle.claims_model.specs.Held.{closer}
use Rattle.claims_model.specs.Steps.{seen_of, view_of}
use Rattle.claims_model.proofs.Entry as E
use Rattle.claims_model.proofs.Entry.{yields, yields_kv, waits, resumes, throws, shuts, turns, act}
pub use Rattle.claims_model.proofs.Entry.{base-top}
use Rattle.claims_model.proofs.Held.{core_in, core_at}
use Rattle.claims_model.proofs.Split.{has_left}

-- ---- states

pub runs-state : (s : CoroState) → seen_running s ≡ is_running s
runs-state CoroState.Created = refl
runs-state CoroState.Running = refl
runs-state CoroState.Yielded = refl
runs-state CoroState.Awaiting = refl
runs-state CoroState.Returned = refl
runs-state CoroState.Failed = refl

suspended-state : (s : CoroState) → seen_suspended s ≡ is_suspended s
suspended-state CoroState.Created = refl
suspended-state CoroState.Running = refl
suspended-state CoroState.Yielded = refl
suspended-state CoroState.Awaiting = refl
suspended-state CoroState.Returned = refl
suspended-state CoroState.Failed = refl

pub ended-state : (s : CoroState) → seen_returned s ≡ is_returned s
ended-state CoroState.Created = refl
ended-state CoroState.Running = refl
ended-state CoroState.Yielded = refl
ended-state CoroState.Awaiting = refl
ended-state CoroState.Returned = refl
ended-state CoroState.Failed = refl

awaits-state : (s : CoroState) → seen_awaiting s ≡ is_awaiting s
awaits-state CoroState.Created = refl
awaits-state CoroState.Running = refl
awaits-state CoroState.Yielded = refl
awaits-state CoroState.Awaiting = refl
awaits-state CoroState.Returned = refl
awaits-state CoroState.Failed = refl

pub new-state : (s : CoroState) → seen_created s ≡ is_created s
new-state CoroState.Created = refl
new-state CoroState.Running = refl
new-state CoroState.Yielded = refl
new-state CoroState.Awaiting = refl
new-state CoroState.Returned = refl
new-state CoroState.Failed = refl

pub ready-state : (s : CoroState) → (seen_created s || seen_suspended s) ≡ is_resumable s
ready-state CoroState.Created = refl
ready-state CoroState.Running = refl
ready-state CoroState.Yielded = refl
ready-state CoroState.Awaiting = refl
ready-state CoroState.Returned = refl
ready-state CoroState.Failed = refl

pub seen_at : (w : World) (c : ℕ) → (core_at w c).seen ≡ (view_of w).coro c
seen_at w c = go (coro w c)
  where
    go : (x : Coroutine) → (core_in x).seen ≡ seen_of x
    go Absent = refl
    go (Is k r) = refl

pub is-runs : (w : World) (c : ℕ) → state_is (view_of w) seen_running c ≡ is_running (core_at w c).state
is-runs w c = go (coro w c)
  where
    go : (x : Coroutine) → seen_in (λ y. seen_running y.state) (seen_of x) ≡ is_running (core_in x).state
    go Absent = refl
    go (Is k r) = runs-state k.state

pub is-suspended-core : (w : World) (c : ℕ) → state_is (view_of w) seen_suspended c ≡ is_suspended (core_at w c).state
is-suspended-core w c = go (coro w c)
  where
    go : (x : Coroutine) → seen_in (λ y. seen_suspended y.state) (seen_of x) ≡ is_suspended (core_in x).state
    go Absent = refl
    go (Is k r) = suspended-state k.state

pub is-ended : (w : World) (c : ℕ) → state_is (view_of w) seen_returned c ≡ is_returned (core_at w c).state
is-ended w c = go (coro w c)
  where
    go : (x : Coroutine) → seen_in (λ y. seen_returned y.state) (seen_of x) ≡ is_returned (core_in x).state
    go Absent = refl
    go (Is k r) = ended-state k.state

pub is-left : (w : World) (c : ℕ) → state_is (view_of w) (λ x. seen_suspended x || seen_returned x) c ≡ has_left (core_at w c).state
is-left w c = go (coro w c)
  where
    go : (x : Coroutine) → seen_in (λ y. seen_suspended y.state || seen_returned y.state) (seen_of x) ≡ has_left (core_in x).state
    go Absent = refl
    go (Is k r) = λ i. suspended-state k.state i || ended-state k.state i

pub is-suspended-coro : (w : World) (c : ℕ) → state_is (view_of w) seen_suspended c ≡ coro_suspended (coro w c)
is-suspended-coro w c = go (coro w c)
  where
    go : (x : Coroutine) → seen_in (λ y. seen_suspended y.state) (seen_of x) ≡ coro_suspended x
    go Absent = refl
    go (Is k r) = suspended-state k.state

pub is-awaits : (w : World) (c : ℕ) → state_is (view_of w) seen_awaiting c ≡ E.awaits (coro w c)
is-awaits w c = go (coro w c)
  where
    go : (x : Coroutine) → seen_in (λ y. seen_awaiting y.state) (seen_of x) ≡ E.awaits x
    go Absent = refl
    go (Is k r) = awaits-state k.state

pub closer-at : (w : World) (c : ℕ) → closer ((view_of w).coro c) ≡ (core_at w c).closing
closer-at w c = go (coro w c)
  where
    go : (x : Coroutine) → closer (seen_of x) ≡ (core_in x).closing
    go Absent = refl
    go (Is k r) = refl

-- ---- what a call says

abbrev pub aim_of : E.Aim → Aim
aim_of (E.enters c d x may) = enter c d x may
aim_of (E.suspends s dst x) = suspend (is_awaiting s) dst x
aim_of E.neither = neither

-- the proof's words and those of the claim
pub data Alike : E.Act → Announced → Type 0 where
  l-at : (pc : ℕ) (ok : Bool) (a : E.Aim) → Alike (E.at pc ok a) (instr pc ok (aim_of a))
  l-host : (c x : ℕ) → Alike (E.by_host c x) (hosts c x)
  l-finish : (kind : ResultKind) (x : ℕ) → Alike (E.finishes kind x) (finishes kind x)
  l-raise : (f : Fault) (pc : Option ℕ) → Alike E.unwinds (raises f pc)
  l-other : Alike E.other other

-- what an instruction is after
pub data Aims (w : World) : Op → E.Aim → Type 0 where
  to-suspend : {o : Op} (i : E.Suspending o) → Aims w o (E.suspend_aim i w)
  to-enter : {o : Op} (i : E.Entering o) → Aims w o (E.enter_aim i w)
  aimless : {o : Op} → Aims w o E.neither

-- the call and its plan, in the proof's words and in those of the claim
pub data Kind (w : World) : Op → E.Act → Announced → Type 0 where
  k-at : {o : Op} {a : E.Aim} {pc : ℕ} {ok : World → Bool} {arm : World → After Step} → table o ≡ Instruction pc ok arm → Aims w o a
      → Kind w o (E.at pc (ok w) a) (instr pc (ok w) (aim_of a))
  k-host : (c x : ℕ) → Kind w (Op.HostEntry c x) (E.by_host c x) (hosts c x)
  k-finish : (kind : ResultKind) (x : ℕ) → Kind w (Op.Finish kind x) (E.finishes kind x) (finishes kind x)
  k-raise : (f : Fault) (pc : Option ℕ) → Kind w (Op.Unwind f pc) E.unwinds (raises f pc)
  k-other : {o : Op} → Kept.raises (table o) ≡ true → Kind w o E.other other

alike : {w : World} {o : Op} {a : E.Act} {d : Announced} → Kind w o a d → Alike a d
alike {w} (k-at {a = a} {pc} {ok} e i) = l-at pc (ok w) a
alike (k-host c x) = l-host c x
alike (k-finish kind x) = l-finish kind x
alike (k-raise f pc) = l-raise f pc
alike (k-other e) = l-other

at : {w : World} {o : Op} {a : E.Aim} {pc : ℕ} {ok : World → Bool} {arm : World → After Step} {yes : Bool} {b : Aim}
    → table o ≡ Instruction pc ok arm → Aims w o a → yes ≡ ok w → b ≡ aim_of a → Kind w o (E.at pc (ok w) a) (instr pc yes b)
at {w} {o} {a} {pc} {ok} {b = b} e i p q =
    subst (λ y. Kind w o (E.at pc (ok w) a) (instr pc y b)) (sym p) (subst (λ y. Kind w o (E.at pc (ok w) a) (instr pc (ok w) y)) (sym q) (k-at e i))

by-plan : (w : World) {o : Op} (p : E.Plan o) → Kind w o (E.act_by p w) (announced (view_of w) o)
by-plan w (E.suspending (yields pc dst src)) = at refl (to-suspend (yields pc dst src)) (rw (base-top w.frames)) (rw (base-top w.frames))
by-plan w (E.suspending (yields_kv pc dst src key)) = at refl (to-suspend (yields_kv pc dst src key)) (rw (base-top w.frames)) (rw (base-top w.frames))
by-plan w (E.suspending (waits pc dst src)) = at refl (to-suspend (waits pc dst src)) (rw (base-top w.frames)) (rw (base-top w.frames))
by-plan w (E.entering (resumes pc dst c src)) = at refl (to-enter (resumes pc dst c src)) (rw (base-top w.frames)) (rw (base-top w.frames))
by-plan w (E.entering (throws pc dst c src)) =
    at refl (to-enter (throws pc dst c src)) (rw (base-top w.frames)) (rw (base-top w.frames) (ap (enter (reg w c) (Driver.Resume dst) nothing) (is-suspended-coro w (reg w c))))
by-plan w (E.entering (shuts pc dst c src)) =
    at refl (to-enter (shuts pc dst c src)) (rw (base-top w.frames)) (rw (base-top w.frames) (ap (enter (reg w c) (Driver.Resume dst) (closes (reg w src))) (is-suspended-coro w (reg w c))))
by-plan w (E.entering (turns pc has iter val src)) =
    at refl (to-enter (turns pc has iter val src)) (rw (base-top w.frames))
    (rw (base-top w.frames) (ap (λ b. enter (reg w src) (Driver.Iter has val (reg w iter)) (gets 0) (not (is_done (object w (reg w iter))) && not b)) (is-awaits w (reg w src))))
by-plan w (E.hosting c x) = k-host c x
by-plan w (E.finishing kind x) = k-finish kind x
by-plan w (E.unwinding f pc) = k-raise f pc
by-plan w {o} (E.asking {pc = pc} {ok} e d) = subst (Kind w o (E.at pc (ok w) E.neither)) (sym (d w)) (k-at e aimless)
by-plan w {o} (E.idle e d) = subst (Kind w o E.other) (sym (d w)) (k-other e)

pub kind-of : (w : World) (o : Op) → Kind w o (act w o) (announced (view_of w) o)
kind-of w o = by-plan w (E.plan o)

pub says-alike : (w : World) (o : Op) → Alike (act w o) (announced (view_of w) o)
says-alike w o = alike (kind-of w o)
