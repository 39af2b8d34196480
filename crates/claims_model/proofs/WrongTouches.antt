-- The engines that touch the script that runs: one call tells each, by the field that WrongCalls.antt names.
use Prim.Native.Nat.{ℕ}
use native.Mathlib.Omega.{arith}
use mathlib.Core.Path.{◌≡◌, refl, sym, ap, ◌∙◌}
use mathlib.Core.Logic.{◌⊎◌, inl, inr}
use mathlib.Core.Bool.{Bool, true, false}
use mathlib.Core.List.{List, [], ◌∷◌, ◌++◌}
use mathlib.Core.Option.{Option, none, some, or_else}
use lib.ListN.{length, take, get_or}
use Rattle.lists.specs.Pick.{pick}
use Rattle.heap.specs.declared.object.CoroState.{CoroState}
use Rattle.heap.specs.declared.heap.ResultKind.{ResultKind}
use Rattle.model.specs.World.{World, fresh}
use Rattle.model.specs.Frames.{top_pc, put_reg}
use Rattle.model.specs.Step.{step}
use Rattle.model.specs.Call.{Call, typed, as_call}
use Rattle.model.specs.Compute.{computed}
use Rattle.model.specs.declared.machine.Cont.{Cont}
use Rattle.model.specs.declared.machine.Frame.{Frame}
use Rattle.model.specs.declared.machine.Active.{Active}
use Rattle.model.specs.declared.call.Op.{Op}
use Rattle.claims_model.specs.Engine.{Engine, seen_running, seen_suspended, state_is}
use Rattle.claims_model.specs.Says.{register_word, Entry, whom}
use Rattle.claims_model.specs.Demand3.{Enters, Suspends}
use Rattle.claims_model.specs.Touches.{writing, target, May, Over, bare, one, Touches}
use Rattle.claims_model.specs.Steps.{view_of}
use Rattle.claims_model.specs.Story as Story
use Rattle.claims_model.specs.Story.{wide}
use Rattle.claims_model.specs.Witness.{frame}
use Rattle.claims_model.specs.Refuted.{RefutedOn, FramesThere, StoredThere, CallsThere, but_stored, but_frames, but_calls, written, Refuted, RefutedAt, Touch, touched, finished, called}
use Rattle.claims_model.specs.Altered as Altered
use Rattle.claims_model.specs.Altered.{leaving_at}
use Rattle.claims_model.specs.WrongRestored.{first_word5}
use Rattle.claims_model.specs.WrongCalls as W
use Rattle.claims_model.specs.WrongCalls.{writes5, stores_pc9, calls_one, empties_chain}
use Rattle.claims_model.proofs.Cores.{no_both}
use Rattle.claims_model.proofs.Exact.{no-some}
use Rattle.claims_model.proofs.Exactly.{events}
use Rattle.claims_model.proofs.Places.{begun, deeper}

-- ---- small things

no_one : {y : Entry} → ◌≡◌ {A = Option Entry} none (some y) → ⊥
no_one e = let z : ◌≡◌ {A = ℕ} 0 1 = cc in absurd (omega arith)

-- nothing stands over the frames that a call found, where it may not call
none_over : {h : ℕ} (over : List Frame) (xs : List ℕ) → Over false h over xs → over ≡ []
none_over over xs bare = refl
none_over over xs (one e f ys b) = no_both e refl

-- what a grant may do
abbrev nothing-may : May
nothing-may = record { pc = none; register = none; calls = false }

abbrev some_one : List Active → ℕ
some_one [] = 0
some_one (a ∷ chain) = 1

-- ---- the script that runs

grant-typed : typed (Op.Grant 1) ≡ true
unfolding typed
grant-typed = refl

abbrev grant : Call
grant = as_call (Op.Grant 1) grant-typed

-- a grant that leaves the coroutines as `step` does: nobody is entered or suspended
module _ (f : World → World → World) (same : (w z : World) (p : CoroState → Bool) (u : ℕ) → state_is (view_of (f w z)) p u ≡ state_is (view_of z) p u) where
  not_entered : (u : ℕ) → Enters (leaving_at Altered.grant f) u begun grant → ⊥
  unfolding pick
  not_entered u h = no_one (events.enters u begun grant (record { before = h.before; after = sym (same begun (step begun grant).world seen_running u) ∙ h.after })).says

  not-suspended : (u : ℕ) → Suspends (leaving_at Altered.grant f) u begun grant → ⊥
  unfolding pick
  not-suspended u h = no-some refl (events.suspends u begun grant (record { before = h.before; after = sym (same begun (step begun grant).world seen_suspended u) ∙ h.after }))

  abbrev granted : Touch (leaving_at Altered.grant f)
  granted = record { s = begun; k = grant; o = Op.Grant 1; m = nothing-may; op = refl; may = refl; no-entry = not_entered; no-suspension = not-suspended }

-- such a call leaves the frames
frames-stay : {fs gs : List Frame} {h : ℕ} (own over : List Frame) (words : List ℕ) → gs ≡ over ++ own → (own ≡ fs) ⊎ (own ≡ fs) → Over false h over words → gs ≡ fs
frames-stay own over words e s o = e ∙ ap (λ fs. fs ++ own) (none_over over words o) ∙ either s
  where
    either : {fs gs : List Frame} → (fs ≡ gs) ⊎ (fs ≡ gs) → fs ≡ gs
    either (inl e) = e
    either (inr e) = e

touches-touched : Refuted Touches (λ e v. v.touched) (leaving_at Altered.grant writes5)
unfolding computed begun
touches-touched h =
    let q : ◌≡◌ {A = ℕ} 5 0 = ap (λ xs. get_or xs 4 0) (h begun grant (Op.Grant 1) nothing-may refl refl (not_entered writes5 (λ w z p u. refl)) (not-suspended writes5 (λ w z p u. refl))).stack in
    absurd (omega (arith, q))

touches-finished : Refuted Touches (λ e v. v.finished) (leaving_at Altered.finish writes5)
unfolding computed deeper
touches-finished h =
    let q : ◌≡◌ {A = ℕ} 5 0 = ap (λ xs. get_or xs 4 0) (h deeper (as_call Story.finish_none refl) ResultKind.None 0 _ _ refl refl refl refl).stack in
    absurd (omega (arith, q))

touches-called : Refuted Touches (λ e v. v.called) (leaving_at Altered.function_call first_word5)
unfolding computed begun
touches-called h =
    let q : ◌≡◌ {A = ℕ} 5 0 = ap (λ xs. get_or xs 8 0) (h begun (as_call (Op.FunctionCall 5 0 Cont.Discard) refl) 5 0 Cont.Discard refl refl).stack in
    absurd (omega (arith, q))

touches-host-called : Refuted Touches (λ e v. v.host_called) (leaving_at Altered.host_call first_word5)
unfolding computed
touches-host-called h = let q : ◌≡◌ {A = ℕ} 5 0 = ap (λ xs. get_or xs 0 0) (h (fresh wide) (as_call (Op.HostCall 0) refl) 0 refl refl).stack in absurd (omega (arith, q))

pub touches-put : Refuted Touches (λ e v. v.put) (leaving_at Altered.put_word (λ w z. w))
unfolding computed begun
touches-put h = let q : ◌≡◌ {A = ℕ} 0 7 = ap (λ xs. get_or xs 4 0) (h begun (as_call (Op.PutWord 0 7) refl) 0 7 refl refl) in absurd (omega (arith, q))

touched-stored : RefutedOn touched but_stored (λ e a g. StoredThere e a g.0) (λ e a r. r.stored) (leaving_at Altered.grant stores_pc9)
unfolding computed begun
touched-stored = (granted stores_pc9 (λ w z p u. refl), (frame 0 9 4 0 Cont.Coro ∷ frame 0 2 0 0 Cont.Entry ∷ [], [], [], refl, bare), λ g h. let q : ◌≡◌ {A = ℕ} 9 0 = ap top_pc (frames-stay g.0 g.1 g.2 g.3 h g.4) in absurd (omega (arith, q)))

touched-frames : RefutedOn touched but_frames (λ e a g. FramesThere e a g.0 g.1) (λ e a r. r.frames) (leaving_at Altered.grant stores_pc9)
unfolding computed begun
touched-frames = (granted stores_pc9 (λ w z p u. refl), (frame 0 0 4 0 Cont.Coro ∷ frame 0 2 0 0 Cont.Entry ∷ [], [], [], inl refl, bare), λ g h. let q : ◌≡◌ {A = ℕ} 9 0 = ap top_pc (frames-stay g.0 g.1 g.2 h g.3 g.4) in absurd (omega (arith, q)))

touched-stack : RefutedOn touched written (λ e a g. let v = e.view a.s in (e.view (e.next a.s a.k)).stack ≡ writing a.m.register v.frames g.0 v.stack ++ g.1) (λ e a r. r.stack)
    (leaving_at Altered.grant writes5)
unfolding computed begun
touched-stack = (granted writes5 (λ w z p u. refl), (0, []), λ g h. let q : ◌≡◌ {A = ℕ} 5 0 = ap (λ xs. get_or xs 4 0) h in absurd (omega (arith, q)))

touched-calls : RefutedOn touched but_calls (λ e a g. CallsThere e a g.1 g.2) (λ e a r. r.calls) (leaving_at Altered.grant calls_one)
unfolding computed begun
touched-calls = (granted calls_one (λ w z p u. refl), (frame 0 0 4 0 Cont.Coro ∷ frame 0 2 0 0 Cont.Entry ∷ [], frame 0 0 8 0 Cont.Discard ∷ [], [], inl refl, refl), λ g h. let q : ◌≡◌ {A = ℕ} 3 2 = ap length (frames-stay g.0 g.1 g.2 g.4 g.3 h) in absurd (omega (arith, q)))

touched-chain : RefutedAt touched (λ e a r. r.chain) (leaving_at Altered.grant empties_chain)
unfolding computed begun
touched-chain = (granted empties_chain (λ w z p u. refl), λ h. let q : ◌≡◌ {A = ℕ} 0 1 = ap some_one h in absurd (omega (arith, q)))

finished-frames : RefutedAt finished (λ e a r. r.frames) (leaving_at Altered.finish stores_pc9)
unfolding computed deeper
finished-frames = (
  record { s = deeper; k = (as_call Story.finish_none refl); kind = ResultKind.None; x = 0; f = frame 0 0 8 0 Cont.Discard; fs = frame 0 5 4 0 Cont.Coro ∷ frame 0 2 0 0 Cont.Entry ∷ []; op = refl; frames = refl; called = refl; accepted = refl },
  λ h.
      let q : ◌≡◌ {A = ℕ} 9 6 = ap top_pc h in
      absurd (omega (arith, q)),
)

finished-stack : RefutedOn finished (λ e a r. r.word) (λ e a g. (e.view (e.next a.s a.k)).stack ≡ writing (target a.f.cont) a.fs g (take a.f.base (e.view a.s).stack)) (λ e a r. r.stack)
    (leaving_at Altered.finish writes5)
unfolding computed deeper
finished-stack = (
  record { s = deeper; k = (as_call Story.finish_none refl); kind = ResultKind.None; x = 0; f = frame 0 0 8 0 Cont.Discard; fs = frame 0 5 4 0 Cont.Coro ∷ frame 0 2 0 0 Cont.Entry ∷ []; op = refl; frames = refl; called = refl; accepted = refl },
  0,
  λ g h.
      let q : ◌≡◌ {A = ℕ} 5 0 = ap (λ xs. get_or xs 4 0) h in
      absurd (omega (arith, q)),
)

finished-chain : RefutedAt finished (λ e a r. r.chain) (leaving_at Altered.finish empties_chain)
unfolding computed deeper
finished-chain = (
  record { s = deeper; k = (as_call Story.finish_none refl); kind = ResultKind.None; x = 0; f = frame 0 0 8 0 Cont.Discard; fs = frame 0 5 4 0 Cont.Coro ∷ frame 0 2 0 0 Cont.Entry ∷ []; op = refl; frames = refl; called = refl; accepted = refl },
  λ h.
      let q : ◌≡◌ {A = ℕ} 0 1 = ap some_one h in
      absurd (omega (arith, q)),
)

called-frames : RefutedAt called (λ e a r. r.frames) (leaving_at Altered.function_call stores_pc9)
unfolding computed begun
called-frames = (
  record { s = begun; k = (as_call (Op.FunctionCall 5 0 Cont.Discard) refl); pc = 5; f = 0; cont = Cont.Discard; op = refl; accepted = refl },
  λ h.
      let q : ◌≡◌ {A = ℕ} 9 0 = ap top_pc h in
      absurd (omega (arith, q)),
)

called-stack : RefutedAt called (λ e a r. r.stack) (leaving_at Altered.function_call first_word5)
unfolding computed begun
called-stack = (
  record { s = begun; k = (as_call (Op.FunctionCall 5 0 Cont.Discard) refl); pc = 5; f = 0; cont = Cont.Discard; op = refl; accepted = refl },
  λ h.
      let q : ◌≡◌ {A = ℕ} 5 0 = ap (λ xs. get_or xs 8 0) h in
      absurd (omega (arith, q)),
)

-- ---- more of them

status-typed : typed (Op.CoroStatus 9 1 0) ≡ true
unfolding typed
status-typed = refl

abbrev status : Call
status = as_call (Op.CoroStatus 9 1 0) status-typed

nobody-due : whom (view_of begun) (some (Op.CoroStatus 9 1 0)) ≡ none
unfolding computed begun or_else
nobody-due = refl

abbrev writes_two : Engine
writes_two = leaving_at Altered.coro_status (λ w z. put_reg 2 5 z)

asks-entered : (u : ℕ) → Enters writes_two u begun status → ⊥
unfolding pick
asks-entered u h = no_one (sym nobody-due ∙ (events.enters u begun status (record { before = h.before; after = h.after })).says)

asks-suspended : (u : ℕ) → Suspends writes_two u begun status → ⊥
unfolding pick
asks-suspended u h = no-some refl (events.suspends u begun status (record { before = h.before; after = h.after }))

pub status-writes-two : Touches (leaving_at Altered.coro_status (λ w z. put_reg 2 5 z)) → ⊥
unfolding computed begun
status-writes-two t = let q : ◌≡◌ {A = ℕ} 5 0 = ap (λ xs. get_or xs 6 0) (t.touched begun status (Op.CoroStatus 9 1 0) _ refl refl asks-entered asks-suspended).stack in absurd (omega (arith, q))

-- NONE OF THEM
pub refuted-touches : W.RefutedTouches
refuted-touches = record { touched = touches-touched; finished = touches-finished; called = touches-called; host_called = touches-host-called; put = touches-put }

pub refuted-touched : W.RefutedTouched
refuted-touched = record { stored = touched-stored; frames = touched-frames; stack = touched-stack; calls = touched-calls; chain = touched-chain }

pub refuted-finished : W.RefutedFinished
refuted-finished = record { frames = finished-frames; stack = finished-stack; chain = finished-chain }

pub refuted-called : W.RefutedCalled
refuted-called = record { frames = called-frames; stack = called-stack }
