-- Who fails in a call: by an unwind, whom the claim names; where the run is stopped, all; in any other call nobody.
use Prim.Native.Nat.{ℕ}
use native.Mathlib.Omega.{arith}
use native.Mathlib.Decide.{ℕ_discrete}
use mathlib.Core.Path.{◌≡◌, refl, sym, ap, ◌∙◌, subst}
use mathlib.Core.Logic.{◌⊎◌, inl, inr}
use mathlib.Core.Bool.{Bool, true, false, not, ◌&&◌, ◌||◌}
use mathlib.Core.List.{List, [], ◌∷◌}
use mathlib.Core.Option.{Option, none, some}
use lib.Dec.{eqb}
use borrow.Author.Tests.{eqb-true}
use Rattle.lists.specs.Pick.{pick}
use Rattle.heap.specs.Table.{next_word, push_object}
use Rattle.heap.specs.Charge.{sat_add}
use Rattle.heap.specs.declared.fault.Fault.{Fault}
use Rattle.heap.specs.declared.object.CoroState.{CoroState}
use Rattle.model.specs.State.{is_created, is_running, is_suspended}
use Rattle.model.specs.Lists as L
use Rattle.model.specs.Lists.{each, distinct}
use Rattle.model.specs.Object.{Object, Coroutine, Absent, Is}
use Rattle.model.specs.World.{World, After, after, and_then, with_used, with_slots}
use Rattle.model.specs.Frames.{store_pc, top_func, top_pc}
use Rattle.model.specs.Heap.{coro, alloc, fits, slots_full, refuse}
use Rattle.model.specs.Machine.{error_of, search_frames, search_made, store_some, unwind, finish}
use Rattle.model.specs.Sound.{sound, running_ok, runs, coros, runs_among}
use Rattle.model.specs.Answer.{number_of}
use Rattle.model.specs.Call.{Call, SetUp, Do}
use Rattle.model.specs.Step.{call, step}
use Rattle.model.specs.declared.machine.Active.{Active}
use Rattle.model.specs.declared.machine.Frame.{Frame}
use Rattle.std.specs.Prelude.{Option as RustOption, Result, Some, None, Ok}
use Rattle.heap.specs.declared.heap.ResultKind.{ResultKind}
use Rattle.model.specs.declared.call.Op.{Op}
use Rattle.model.specs.declared.call.Answer.{Answer}
use Rattle.claims_sound.proofs.Sound.{sound→}
use Rattle.claims_sound.proofs.Point.{finds}
use Rattle.claims_sound.proofs.Slots.{runs-among}
use Rattle.claims_model.specs.Engine.{state_is}
use Rattle.claims_model.specs.Engine as Engine
use Rattle.claims_model.specs.Held.{at}
use Rattle.claims_model.specs.Says.{Announced, nothing, gets, closes}
use Rattle.claims_model.specs.Events as Said
use Rattle.claims_model.specs.Events.{among, lost, lost_at, raised, Lost, thrown, escapes}
use Rattle.claims_model.specs.Steps.{seen_of, view_of, model_op, steps}
use Rattle.claims_model.specs.Touches.{May}
use Rattle.claims_model.proofs.Entry.{act}
use Rattle.claims_model.proofs.Held.{Seat, core_in, core_at}
use Rattle.claims_model.proofs.Split.{next}
use Rattle.claims_model.proofs.Entry as E
use Rattle.claims_model.proofs.Cores.{no_both, and_left, and_right, coro_in, Kept, kept, unborn, Mode, m-plain, m-ending}
use Rattle.claims_model.proofs.Shape as S
use Rattle.claims_model.proofs.Shape.{View, Worked, done, quiet, tops, puts, pushes, pops, fails, Apart, Shape}
use Rattle.claims_model.proofs.Events.{run-born, ready-run}
use Rattle.claims_model.proofs.Sounds.{two}
use Rattle.claims_model.proofs.Endings.{stop-stops}
use Rattle.claims_model.proofs.Calls.{shape}
use Rattle.claims_model.proofs.Claim as Claim
use Rattle.claims_model.proofs.Claim.{StepCase, anew, same, step_case, fresh-absent, next-sound}
use Rattle.claims_model.proofs.Views.{is-runs, Kind, k-at, k-host, k-finish, k-raise, k-other, kind-of}
use Rattle.claims_model.proofs.Finishes.{FinishCase, f-other, f-returns, finish-case}
use Rattle.claims_model.proofs.Bodies.{at_top}
use Rattle.claims_model.proofs.Escapes.{Sees}
use Rattle.claims_model.proofs.Failures.{unmade, is_failed, Dead, dead-same, Loses, run-fails, AllRun, search-loses}
use Rattle.claims_model.proofs.Unwinds.{sees, push-coros, stored-sees, made-sees}
use Rattle.claims_model.proofs.Exact.{number-sound}

-- ---- an unwind

-- what is raised, if anything, and who fails of it
pub record Unwound (w : World) (o : After Answer) (y : Option ℕ) (xs : List ℕ) : Type 0 where
  pub gone : (c : ℕ) → unmade o.answer ≡ false → among c xs ≡ true → (x : ℕ) × (y ≡ some x) × Dead x (core_at o.world c)
  pub lost : (c : ℕ) → is_running (core_at w c).state ≡ true → is_failed (core_at o.world c).state ≡ true → (unmade o.answer ≡ false) × (among c xs ≡ true)

by-loses : {x : ℕ} {w : World} {o : After Answer} {xs : List ℕ} → Loses x w o xs → Unwound w o (some x) xs
by-loses {x} {w} {o} {xs} l = record { gone = λ c m h. (x, refl, (l.gone c h).1); lost = λ c r f. (l.made, go c r f (among c xs) refl) }
  where
    go : (c : ℕ) → is_running (core_at w c).state ≡ true → is_failed (core_at o.world c).state ≡ true → (b : Bool) → among c xs ≡ b → among c xs ≡ true
    go c r f true e = e
    go c r f false e = no_both f (l.stays c e r)

by-same : {w : World} {o : After Answer} {y : Option ℕ} {xs : List ℕ} → ((c : ℕ) → core_at o.world c ≡ core_at w c) → (unmade o.answer ≡ true) ⊎ (xs ≡ []) → Unwound w o y xs
by-same {w} {o} {y} {xs} e u = record { gone = λ c m h. no u c m h; lost = λ c r f. no_both f (ap (λ k. is_failed k.state) (e c) ∙ run-fails (core_at w c).state r) }
  where
    no : {A : Type 0} → (unmade o.answer ≡ true) ⊎ (xs ≡ []) → (c : ℕ) → unmade o.answer ≡ false → among c xs ≡ true → A
    no (inl q) c m h = no_both q m
    no (inr q) c m h = no_both h (ap (among c) q)

loses-same : {x : ℕ} {w u : World} {o : After Answer} {xs : List ℕ} → ((c : ℕ) → core_at u c ≡ core_at w c) → Loses x u o xs → Loses x w o xs
loses-same e l = record {
  gone = λ c h. (ap (λ k. is_running k.state) (sym (e c)) ∙ (l.gone c h).0, (l.gone c h).1);
  stays = λ c h r. l.stays c h (ap (λ k. is_running k.state) (e c) ∙ r);
  failed = λ c h. l.failed c (dead-same (e c) h);
  made = l.made;
}

all-run : (w : World) (chain : List Active) → each (λ a. runs (coro w a.coro)) chain ≡ true → AllRun (view_of w) chain
all-run w [] h = tt
all-run w (a ∷ chain) h = (is-runs w a.coro ∙ core (coro w a.coro) (and_left (runs (coro w a.coro)) (each (λ a. runs (coro w a.coro)) chain) h), all-run w chain (and_right (runs (coro w a.coro)) (each (λ a. runs (coro w a.coro)) chain) h))
  where
    core : (x : Coroutine) → runs x ≡ true → is_running (core_in x).state ≡ true
    core Absent q = q
    core (Is k r) q = q

chain_runs : (w : World) → sound w ≡ true → AllRun (view_of w) w.chain
unfolding running_ok
chain_runs w h = all-run w w.chain (and_left (each (λ a. runs (coro w a.coro)) w.chain) (distinct (coros w.chain)) (and_left (each (λ a. runs (coro w a.coro)) w.chain && distinct (coros w.chain)) (runs_among (coros w.chain) 0 w.slots) (two w h).0))

module _ (w : World) (h : sound w ≡ true) where
  -- a word is raised at u, which is w but for objects and the top pc
  frames-lose : (x : ℕ) (fs : List Frame) (u : World) → Sees (view_of w) u → u.frames ≡ fs → u.chain ≡ w.chain → Loses x u (search_frames x u) (lost (view_of w) x fs w.chain)
  frames-lose x fs u s p q =
      subst (λ cs. Loses x u (search_frames x u) (lost (view_of w) x fs cs)) q
      (subst (λ gs. Loses x u (search_frames x u) (lost (view_of w) x gs u.chain)) p
      (search-loses (view_of w) x (top_func u.frames) (top_pc u.frames) u.frames u refl s (subst (AllRun (view_of w)) (sym q) (chain_runs w h))))

  word-loses : (x : ℕ) (pc : RustOption ℕ) → Loses x w (search_frames x (store_some pc w)) (lost_at (view_of w) (some x) pc)
  word-loses x None = frames-lose x w.frames w (sees w h) refl refl
  word-loses x (Some p) = loses-same (λ c. refl) (frames-lose x (at p w.frames) (store_pc p w) (stored-sees w h (Some p)) (at_top p w.frames) refl)

  object-at : (f : Fault) (u : World) (fs : List Frame) → u.slots ≡ w.slots → u.setup ≡ w.setup → u.frames ≡ fs → u.chain ≡ w.chain
      → Unwound w (and_then (alloc u.setup.costs.error (error_of f u) u) search_made) (some (next_word w.slots)) (lost (view_of w) (next_word w.slots) fs w.chain)
  unfolding alloc pick
  object-at f u fs es e p q = go (not (fits u u.setup.costs.error)) (slots_full u)
    where
      y : World
      y = with_used (sat_add u.used u.setup.costs.error) (with_slots (push_object u.slots (error_of f u)) u)

      made : (a b : Bool) → After (Result ℕ Fault)
      made a b = pick a (refuse u Fault.OutOfMemory) (pick b (refuse u Fault.Full) (after y (Ok (next_word u.slots))))

      here : (c : ℕ) → coro y c ≡ coro w c
      here c = push-coros u.slots (error_of f u) refl c ∙ ap (λ xs. coro_in xs c) es

      go : (a b : Bool) → Unwound w (and_then (made a b) search_made) (some (next_word w.slots)) (lost (view_of w) (next_word w.slots) fs w.chain)
      go true b = by-same (λ c. ap (λ xs. core_in (coro_in xs c)) es) (inl refl)
      go false true = by-same (λ c. ap (λ xs. core_in (coro_in xs c)) es) (inl refl)
      go false false = by-loses (loses-same (λ c. ap core_in (here c)) (subst (λ xs. Loses (next_word xs) y (search_frames (next_word u.slots) y) (lost (view_of w) (next_word xs) fs w.chain)) es (frames-lose (next_word u.slots) fs y (made-sees w h f u es e q) p q)))

  object-unwound : (f : Fault) (pc : RustOption ℕ) → let u = store_some pc w in Unwound w (and_then (alloc u.setup.costs.error (error_of f u) u) search_made) (some (next_word w.slots)) (lost_at (view_of w) (some (next_word w.slots)) pc)
  object-unwound f None = object-at f w w.frames refl refl refl refl
  object-unwound f (Some p) = object-at f (store_pc p w) (at p w.frames) refl refl (at_top p w.frames) refl

  passed : (pc : RustOption ℕ) (f : Fault) → Unwound w (after (store_some pc w) (Answer.Refused f)) none []
  passed None f = by-same (λ c. refl) (inr refl)
  passed (Some p) f = by-same (λ c. refl) (inr refl)

  refused : (f : Fault) → Unwound w (after w (Answer.Refused f)) none []
  refused f = by-same (λ c. refl) (inr refl)

  pub unwound : (f : Fault) (pc : RustOption ℕ) → Unwound w (unwind f pc w) (raised (view_of w) f) (lost_at (view_of w) (raised (view_of w) f) pc)
  unfolding unwind pick
  unwound Fault.None pc = refused Fault.Unsound
  unwound Fault.NullReference pc = object-unwound Fault.NullReference pc
  unwound Fault.TypeError pc = object-unwound Fault.TypeError pc
  unwound Fault.InvalidCoroState pc = object-unwound Fault.InvalidCoroState pc
  unwound Fault.StackOverflow pc = object-unwound Fault.StackOverflow pc
  unwound Fault.CannotSuspend pc = object-unwound Fault.CannotSuspend pc
  unwound Fault.CloseIgnored pc = object-unwound Fault.CloseIgnored pc
  unwound Fault.ArithOverflow pc = object-unwound Fault.ArithOverflow pc
  unwound Fault.NoScheduler pc = object-unwound Fault.NoScheduler pc
  unwound Fault.OutOfMemory pc = passed pc Fault.OutOfMemory
  unwound Fault.OutOfFuel pc = passed pc Fault.OutOfFuel
  unwound Fault.Unsound pc = refused Fault.Unsound
  unwound Fault.NoFrame pc = refused Fault.Unsound
  unwound Fault.BadOperand pc = refused Fault.Unsound
  unwound Fault.Full pc = refused Fault.Unsound
  unwound Fault.Busy pc = refused Fault.Unsound
  unwound Fault.GrantTooLarge pc = refused Fault.Unsound
  unwound (Fault.Throw x) pc = by-loses (word-loses x pc)

  pub thrown-gone : (x : ℕ) (pc : RustOption ℕ) (c : ℕ) → among c (lost_at (view_of w) (some x) pc) ≡ true → (core_at (unwind (Fault.Throw x) pc w).world c).state ≡ CoroState.Failed
  unfolding unwind pick
  thrown-gone x pc c a = ((word-loses x pc).gone c a).1.0

-- ---- other calls

run-worked : (c : ℕ) {m : Option May} {b : Mode} {v z : View} → (b ≡ m-ending → ⊥) → Worked m b v z → is_running (v.cores c).state ≡ true → is_running (z.cores c).state ≡ true
run-worked c e done h = h
run-worked c e (quiet k q t) h = run-worked c e t (on (q c) h)
  where
    on : {m : Mode} {u : ℕ} {k l : Seat} → Kept m u k l → is_running k.state ≡ true → is_running l.state ≡ true
    on (kept e) h = ap (λ x. is_running x.state) e ∙ h
    on {k = k} (unborn a b m n) h = no_both a (run-born k.state h)
run-worked c e (tops g i s t) h = run-worked c e t h
run-worked c e (puts r x a t) h = run-worked c e t h
run-worked c e (pushes f xs a p q) h = h
run-worked c e (pops f fs free p q t) h = run-worked c e t h
run-worked c e (fails f fs a chain k y p q r i t) h = absurd (e y.0)

-- only finish and unwind end those that run
ending-act : (a : E.Act) → S.mode_of a ≡ m-ending → S.is_ending a ≡ true
ending-act (E.at pc ok (E.enters c d nothing may)) e = let z : ◌≡◌ {A = ℕ} 0 1 = cc in absurd (omega arith)
ending-act (E.at pc ok (E.enters c d (gets x) may)) e = let z : ◌≡◌ {A = ℕ} 0 1 = cc in absurd (omega arith)
ending-act (E.at pc ok (E.enters c d (closes x) may)) e = let z : ◌≡◌ {A = ℕ} 0 1 = cc in absurd (omega arith)
ending-act (E.at pc ok (E.suspends s dst x)) e = let z : ◌≡◌ {A = ℕ} 0 1 = cc in absurd (omega arith)
ending-act (E.at pc ok E.neither) e = let z : ◌≡◌ {A = ℕ} 0 1 = cc in absurd (omega arith)
ending-act (E.by_host c v) e = let z : ◌≡◌ {A = ℕ} 0 1 = cc in absurd (omega arith)
ending-act (E.finishes kind v) e = refl
ending-act E.unwinds e = refl
ending-act E.other e = let z : ◌≡◌ {A = ℕ} 0 1 = cc in absurd (omega arith)

susp-fails : (s : CoroState) → is_suspended s ≡ true → is_failed s ≡ false
susp-fails CoroState.Created h = refl
susp-fails CoroState.Running h = refl
susp-fails CoroState.Yielded h = refl
susp-fails CoroState.Awaiting h = refl
susp-fails CoroState.Returned h = refl
susp-fails CoroState.Failed h = sym h

-- what is no finish and no unwind lets somebody fail only if it stops the run
stopped : {w z : World} {o : Op} (c : ℕ) → Shape w o z → S.is_ending (act w o) ≡ false → is_running (core_at w c).state ≡ true → is_failed (core_at z c).state ≡ true → o ≡ Op.StopRun
stopped {w} {z} {o} c (S.works e b i t) n r l = no_both l (run-fails (core_at z c).state (run-worked c (λ q. no_both (ending-act (act w o) (i ∙ q)) n) t r))
stopped {w} {z} {o} c (S.enters u d sent e t) n r l = go (ℕ_discrete c u)
  where
    go : Dec (c ≡ u) → o ≡ Op.StopRun
    go (yes q) = no_both r (ap (λ x. is_running (core_at w x).state) q ∙ ready-run (core_at w u).state t.ready)
    go (no q) = no_both l (ap (λ x. is_failed x.state) (t.others c q) ∙ run-fails (core_at w c).state r)
stopped {w} {z} {o} c (S.suspended p ok s dst x a chain e q t) n r l = go (ℕ_discrete c a.coro)
  where
    on : Kept m-plain c (core_at w c) (core_at z c) → is_failed (core_at z c).state ≡ false
    on (kept e) = ap (λ x. is_failed x.state) e ∙ run-fails (core_at w c).state r
    on (unborn a b m n) = no_both a (run-born (core_at w c).state r)

    go : Dec (c ≡ a.coro) → o ≡ Op.StopRun
    go (yes y) = no_both l (ap (λ u. is_failed (core_at z u).state) y ∙ ap (λ k. is_failed k.state) t.mine ∙ susp-fails s t.is-suspended)
    go (no y) = no_both l (on (t.others c y))
stopped c (S.returns v x f fs a chain e en g t u) n r l = no_both en.0 n
stopped c (S.stops e i t) n r l = i

finish-fails : (kind : ResultKind) (x : ℕ) (w : World) (c : ℕ) (o : After Answer) → is_running (core_at w c).state ≡ true → FinishCase kind x w o → is_failed (core_at o.world c).state ≡ false
finish-fails kind x w c o r (f-other e n) = ap (λ k. is_failed (core_in k).state) (e c) ∙ run-fails (core_at w c).state r
finish-fails kind x w c o r (f-returns f fs a chain y p q i m n ends tells ints) = go (ℕ_discrete c a.coro)
  where
    mine : (core_at o.world a.coro ≡ S.over CoroState.Returned (core_at o.world a.coro).seen (core_at w a.coro)) ⊎ ((is_created (core_at w a.coro).state ≡ true) × (core_at o.world a.coro ≡ core_at w a.coro))
        → c ≡ a.coro → is_failed (core_at o.world a.coro).state ≡ false
    mine (inl k) q = ap (λ y. is_failed y.state) k
    mine (inr k) q = no_both k.0 (ap (λ u. is_created (core_at w u).state) (sym q) ∙ run-born (core_at w c).state r)

    go : Dec (c ≡ a.coro) → is_failed (core_at o.world c).state ≡ false
    go (yes h) = ap (λ u. is_failed (core_at o.world u).state) h ∙ mine ends.mine h
    go (no h) = ap (λ k. is_failed k.state) (ends.others c h) ∙ run-fails (core_at w c).state r

-- ---- every call

away : {A : Type 0} (c : ℕ) (chain : List Active) → Apart c chain → L.among c (coros chain) ≡ true → A
away c [] n q = no_both q refl
away {A} c (a ∷ chain) n q = first (eqb c a.coro) refl (away c chain n.1) q
  where
    first : (b : Bool) → eqb c a.coro ≡ b → (L.among c (coros chain) ≡ true → A) → (b || L.among c (coros chain)) ≡ true → A
    first true e more q = absurd (n.0 (eqb-true c a.coro e))
    first false e more q = more q

-- a set-up lets nobody fail
named : Option Op → Bool
named none = false
named (some o) = true

lost-named : {v : Engine.View} {n c : ℕ} {p : Option Op} → Lost v n c p → named p ≡ true
unfolding named
lost-named (thrown x pc a) = refl
lost-named (escapes f pc m a) = refl
lost-named Said.stops = refl

module _ (w : World) (h : sound w ≡ true) (c : ℕ) (r : is_running (core_at w c).state ≡ true) where
  by-stop : (o : Op) → S.is_ending (act w o) ≡ false → is_failed (core_at (call o w).world c).state ≡ true → Lost (view_of w) (number_of (call o w).answer) c (some o)
  by-stop o n l = go o (stopped c (shape w o) n r l)
    where
      go : (p : Op) → p ≡ Op.StopRun → {n : ℕ} → Lost (view_of w) n c (some p)
      go p e {n} = subst (λ q. Lost (view_of w) n c (some q)) (sym e) Said.stops

  call-lost : {o : Op} {a : E.Act} {d : Announced} → act w o ≡ a → is_failed (core_at (call o w).world c).state ≡ true → Kind w o a d → Lost (view_of w) (number_of (call o w).answer) c (some o)
  unfolding call
  call-lost {o} q l (k-at e i) = by-stop o (ap S.is_ending q) l
  call-lost {o} q l (k-host u x) = by-stop o refl l
  call-lost q l (k-finish kind x) = no_both l (finish-fails kind x w c (finish kind x w) r (finish-case kind x w))
  call-lost q l (k-raise f pc) = let t = (unwound w h f pc).lost c r l in escapes f pc t.0 t.1
  call-lost {o} q l (k-other e) = by-stop o (ap S.is_ending q) l

  -- what runs is one of the chain
  pub not-apart : {A : Type 0} → Apart c w.chain → A
  not-apart n = go (coro w c) refl
    where
      go : {A : Type 0} (x : Coroutine) → coro w c ≡ x → A
      go Absent e = no_both r (ap (λ y. is_running (core_in y).state) e)
      go (Is k s) e = away c w.chain n (runs-among (sound→ {ex = false} w h (λ z. no_both z refl)).heap (finds w.slots c k s e) (Object.Coro k s) (ap (λ y. is_running (core_in y).state) (sym e) ∙ r))

  has-lost : (o : Op) → Lost (view_of w) (number_of (call o w).answer) c (some o) → (core_at (call o w).world c).state ≡ CoroState.Failed
  unfolding call
  has-lost o (thrown x pc a) = thrown-gone w h x pc c a
  has-lost o (escapes f pc m a) = let (x, e, d) = (unwound w h f pc).gone c m a in d.0
  has-lost o Said.stops = go ((stop-stops w).each c)
    where
      z : World
      z = (call Op.StopRun w).world

      go : (Apart c w.chain × (core_at z c ≡ core_at w c)) ⊎ (((core_at z c).state ≡ CoroState.Failed) ⊎ ((is_created (core_at w c).state ≡ true) × (core_at z c ≡ core_at w c))) → (core_at z c).state ≡ CoroState.Failed
      go (inl x) = not-apart x.0
      go (inr (inl x)) = x
      go (inr (inr x)) = no_both x.0 (run-born (core_at w c).state r)

pub is-failed : (w : World) (c : ℕ) → state_is (view_of w) Said.seen_failed c ≡ is_failed (core_at w c).state
is-failed w c = go (coro w c)
  where
    go : (x : Coroutine) → Engine.seen_in (λ y. Said.seen_failed y.state) (seen_of x) ≡ is_failed (core_in x).state
    go Absent = refl
    go (Is k r) = refl

pub fails_by : (c : ℕ) (w : World) (k : Call) → Said.Fails steps c w k → Lost (view_of w) (number_of (step w k).answer) c (model_op k)
fails_by c w k g = go (next w k) (step_case w k) (sym (is-failed (next w k) c) ∙ g.after)
  where
    ran : is_running (core_at w c).state ≡ true
    ran = sym (is-runs w c) ∙ g.before

    go : {k : Call} (z : World) → StepCase w k z → is_failed (core_at z c).state ≡ true → Lost (view_of w) (number_of (step w k).answer) c (model_op k)
    go z (anew s e) a = no_both a (ap (λ x. is_failed (core_in x).state) (fresh-absent s c))
    go z (same k e) a = no_both a (run-fails (core_at w c).state ran)
    go z (Claim.does o e) a = subst (λ y. Lost (view_of w) (number_of y) c (some o.op)) (sym (number-sound w o e)) (call-lost w e c ran refl a (kind-of w o.op))

pub failed-by : (c : ℕ) (w : World) (k : Call) → sound w ≡ true → state_is (view_of w) Engine.seen_running c ≡ true → Lost (view_of w) (number_of (step w k).answer) c (model_op k) → Said.Fails steps c w k
unfolding named
failed-by c w (SetUp s) h b l = no_both (lost-named l) refl
failed-by c w (Do o) h b l =
    record {
      before = b;
      after = is-failed (next w (Do o)) c ∙ ap (λ y. is_failed (core_at y c).state) (next-sound w o h) ∙ ap is_failed (has-lost w h c (sym (is-runs w c) ∙ b) o.op (subst (λ y. Lost (view_of w) (number_of y) c (some o.op)) (number-sound w o h) l));
    }
