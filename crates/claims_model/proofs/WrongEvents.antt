-- The engines whose events are wrong: one call tells each, by the field that WrongEvents.antt names.
use Prim.Native.Nat.{ℕ}
use native.Mathlib.Omega.{arith}
use mathlib.Core.Path.{◌≡◌, refl, ap}
use mathlib.Core.Logic.{◌⊎◌, inl, inr}
use mathlib.Core.Bool.{true}
use mathlib.Core.Option.{Option, none, some, or_else}
use Rattle.lists.specs.Pick.{pick}
use Rattle.heap.specs.declared.fault.Fault.{Fault}
use Rattle.std.specs.Prelude.{Option as RustOption, Some, None}
use Rattle.heap.specs.declared.object.CoroState.{CoroState}
use Rattle.heap.specs.declared.heap.ResultKind.{ResultKind}
use Rattle.model.specs.Object.{with_closing}
use Rattle.model.specs.World.{World}
use Rattle.model.specs.Heap.{change_coro}
use Rattle.model.specs.Step as M
use Rattle.model.specs.Answer.{number_of}
use Rattle.model.specs.Call.{SetUp, Do, as_call}
use Rattle.model.specs.Compute.{computed}
use Rattle.model.specs.declared.machine.Driver.{Driver}
use Rattle.model.specs.declared.call.Op.{Op}
use Rattle.claims_model.specs.Engine.{Seen, Rules, View, code, seen_created, seen_running, seen_returned, state_is}
use Rattle.claims_model.specs.Says.{nothing, gets, closes, Entry}
use Rattle.claims_model.specs.Delivery.{recorded}
use Rattle.claims_model.specs.Events.{seen_failed, Healthy, Lost, thrown, escapes, stops, Events}
use Rattle.claims_model.specs.Steps.{view_of}
use Rattle.claims_model.specs.Story as Story
use Rattle.claims_model.specs.Story.{c}
use Rattle.claims_model.specs.Refuted.{Refuted}
use Rattle.claims_model.specs.Altered as Altered
use Rattle.claims_model.specs.Altered.{is_a, leaving_at, answering_at, answering_for, making}
use Rattle.claims_model.specs.WrongRestored.{grant_resumes, closing_ends}
use Rattle.claims_model.specs.WrongEvents.{signed, unsigned, finishing5, enters_nobody, two, entries_answer0, return_fails, failure_returns, await_yields, returns5, reaching, being, result5, close_of_created_fails, world_depth1, lost_in, failure_answers9, RefutedEvents, WrongEvents}
use Rattle.claims_model.proofs.Cores.{no_both}
use Rattle.claims_model.proofs.Exact.{some-op, sound-healthy}
use Rattle.claims_model.proofs.Exactly as Exactly
use Rattle.claims_model.proofs.Places.{called, waiting, begun, itself, sleeping, dying, closed, returned, over, holding, nested, queued, looping}

-- ---- small things

no_one : {y : Entry} → ◌≡◌ {A = Option Entry} none (some y) → ⊥
no_one e = let z : ◌≡◌ {A = ℕ} 0 1 = cc in absurd (omega arith)

no_word : {x : ℕ} → ◌≡◌ {A = Option ℕ} none (some x) → ⊥
no_word e = let z : ◌≡◌ {A = ℕ} 0 1 = cc in absurd (omega arith)

no_words : {x : ℕ} → ◌≡◌ {A = Option ℕ} (some x) none → ⊥
no_words e = let z : ◌≡◌ {A = ℕ} 0 1 = cc in absurd (omega arith)

no-set-up : {o : Op} → ◌≡◌ {A = Option Op} (some o) none → ⊥
no-set-up e = let z : ◌≡◌ {A = ℕ} 0 1 = cc in absurd (omega arith)

-- nobody fails by a finish
no-lost : {v : View} {n c : ℕ} (o : Option Op) → Lost v n c o → is_a Altered.finish o ≡ true → ⊥
no-lost o (thrown x pc h) e = no_both e refl
no-lost o (escapes f pc n h) e = no_both e refl
no-lost o stops e = no_both e refl

abbrev state_in : Option Seen → ℕ
state_in none = 9
state_in (some x) = code x.state

abbrev value : RustOption ℕ → ℕ
value None = 0
value (Some n) = n

-- ---- each of them

pub events-enters : Refuted Events (λ e v. v.enters) grant_resumes
unfolding computed waiting
events-enters h = no_one (h c waiting (as_call (Op.Grant 1) refl) (record { before = refl; after = refl })).says

events-entered : Refuted Events (λ e v. v.entered) (enters_nobody (λ w. true))
unfolding computed sleeping
events-entered h = no_both (h c sleeping (as_call (Op.Resume 9 1 0 2) refl) (sound-healthy sleeping refl) (record { driver = Driver.Resume 1; sent = gets 9; pc = 9; says = refl })).after refl

events-answered : Refuted Events (λ e v. v.answered) entries_answer0
unfolding computed sleeping
events-answered h =
    let q : ◌≡◌ {A = ℕ} 0 17 = h c sleeping (as_call (Op.ResumeThrow 3 1 0 2) refl) (record { before = refl; after = refl }) (record { driver = Driver.Resume 1; sent = nothing; pc = 3; says = refl }) in
    absurd (omega (arith, q))

-- c resumes itself
events-resumed : Refuted Events (λ e v. v.resumed) (answering_for 3 0)
unfolding computed itself
events-resumed h = no_both refl (h itself (as_call (Op.Resume 5 1 0 2) refl) 5 1 0 2 refl refl).before

-- c has returned
events-hosted : Refuted Events (λ e v. v.hosted) (answering_for 3 0)
unfolding computed over
events-hosted h = no_both (h c over (as_call (Op.HostEntry c 5) refl) 5 refl refl).after refl

-- c loops over itself
events-turned : Refuted Events (λ e v. v.turned) (answering_for 3 0)
unfolding computed looping
events-turned h = no_both refl (h looping (as_call (Op.IterNext 5 2 1 3 0) refl) 5 2 1 3 0 refl refl refl refl).before

events-threw : Refuted Events (λ e v. v.threw) (answering_for 3 17)
unfolding computed itself or_else
events-threw h =
    let k = as_call (Op.ResumeThrow 5 1 0 2) refl in
    let t = h itself k 5 1 0 2 refl refl refl in
    no_one ((Exactly.events).enters t.0 itself k (record { before = t.1.before; after = t.1.after })).says

events-closed-in : Refuted Events (λ e v. v.closed_in) (answering_for 3 17)
unfolding computed itself or_else
events-closed-in h =
    let k = as_call (Op.CoroClose 5 1 0 2) refl in
    let t = h itself k 5 1 0 2 refl refl in
    no_one ((Exactly.events).enters t.0 itself k (record { before = t.1.before; after = t.1.after })).says

events-suspends : Refuted Events (λ e v. v.suspends) (answering_at Altered.yield 9)
unfolding computed begun
events-suspends h = no_word (h c begun (as_call (Op.Yield 8 3 1) refl) (record { before = refl; after = refl }))

events-suspended : Refuted Events (λ e v. v.suspended) (leaving_at Altered.yield (λ w z. w))
unfolding computed begun
events-suspended h = no_both (h c begun (as_call (Op.Yield 8 3 1) refl) refl).after refl

events-heard : Refuted Events (λ e v. v.heard) (answering_for 6 0)
unfolding computed closed
events-heard h = let q : ◌≡◌ {A = ℕ} 0 6 = h c closed (as_call (Op.Yield 60 3 0) refl) (record { before = refl; after = refl }) in absurd (omega (arith, q))

events-returns : Refuted Events (λ e v. v.returns) failure_returns
unfolding computed begun
events-returns h = no_word (h c begun (as_call (Op.Unwind (Fault.Throw 7) None) refl) (record { before = refl; after = refl }))

events-returned : Refuted Events (λ e v. v.returned) return_fails
unfolding computed begun
events-returned h = no_both (h c begun (as_call (Op.Finish ResultKind.Dyn 5) refl) (sound-healthy begun refl) refl).after refl

events-fails : Refuted Events (λ e v. v.fails) return_fails
unfolding computed begun
events-fails h = no-lost _ (h c begun (as_call (Op.Finish ResultKind.Dyn 5) refl) (record { before = refl; after = refl })) refl

events-failed : Refuted Events (λ e v. v.failed) failure_returns
unfolding computed begun
events-failed h = no_both (h c begun (as_call (Op.Unwind (Fault.Throw 7) None) refl) (sound-healthy begun refl) refl (escapes (Fault.Throw 7) None refl refl)).after refl

events-spoilt : Refuted Events (λ e v. v.spoilt) (reaching seen_failed result5)
unfolding computed begun
events-spoilt h =
    let q : ◌≡◌ {A = ℕ} 5 7 = ap recorded (h c begun (as_call (Op.Unwind (Fault.Throw 7) None) refl) (Fault.Throw 7) None 7 (record { before = refl; after = refl }) refl refl) in
    absurd (omega (arith, q))

events-stopped : Refuted Events (λ e v. v.stopped) (reaching seen_failed result5)
unfolding computed begun
events-stopped h = let q : ◌≡◌ {A = ℕ} 5 0 = ap recorded (h c begun (as_call Op.StopRun refl) (record { before = refl; after = refl }) refl) in absurd (omega (arith, q))

events-closes-created : Refuted Events (λ e v. v.closes-created) close_of_created_fails
unfolding computed waiting
events-closes-created h = let q : ◌≡◌ {A = ℕ} 5 4 = ap state_in (h c waiting (as_call (Op.CoroClose 3 1 0 2) refl) 3 1 0 2 refl refl refl refl) in absurd (omega (arith, q))

events-throws-created : Refuted Events (λ e v. v.throws-created) (reaching seen_failed result5)
unfolding computed waiting
events-throws-created h = let q : ◌≡◌ {A = ℕ} 5 0 = ap recorded (h c waiting (as_call (Op.ResumeThrow 3 1 0 2) refl) 3 1 0 2 refl refl refl refl) in absurd (omega (arith, q))

events-integer-unsigned : Refuted Events (λ e v. v.integer) (finishing5 unsigned)
unfolding computed begun
events-integer-unsigned h =
    let q : ◌≡◌ {A = ℕ} 0 7 = ap value (h c begun (as_call (Op.Finish ResultKind.U64 7) refl) ResultKind.U64 7 (record { before = refl; after = refl }) refl refl) in
    absurd (omega (arith, q))

events-integer : Refuted Events (λ e v. v.integer) (finishing5 signed)
unfolding computed begun
events-integer h =
    let q : ◌≡◌ {A = ℕ} 0 7 = ap value (h c begun (as_call (Op.Finish ResultKind.I64 7) refl) ResultKind.I64 7 (record { before = refl; after = refl }) refl refl) in
    absurd (omega (arith, q))

events-word : Refuted Events (λ e v. v.word) returns5
unfolding computed begun
events-word h =
    let q : ◌≡◌ {A = ℕ} 5 7 = h c begun (as_call (Op.Finish ResultKind.Dyn 7) refl) ResultKind.Dyn 7 (record { before = refl; after = refl }) refl refl in
    absurd (omega (arith, q))

events-closed : Refuted Events (λ e v. v.closed) returns5
unfolding computed dying
events-closed h =
    let q : ◌≡◌ {A = ℕ} 5 0 = h c dying (as_call (Op.Unwind (Fault.Throw 9) None) refl) (Fault.Throw 9) None (record { before = refl; after = refl }) refl in
    absurd (omega (arith, q))

events-yielded : Refuted Events (λ e v. v.yielded) (leaving_at Altered.yield (λ w z. change_coro c (λ k. k) (with_closing true) z))
unfolding computed begun
events-yielded h = no_words (h c begun (as_call (Op.Yield 8 3 1) refl) (record { before = refl; after = refl }))

-- c runs while it is being closed, and asks who runs
events-closing : Refuted Events (λ e v. v.closing) closing_ends
unfolding computed closed
events-closing h = no_word (h c closed (as_call (Op.CoroCurrent 9 1) refl) (λ r. no-set-up r.sets-up) (λ g. no_both refl g.before) (λ g. no_both g.after refl) refl)

events-awaited : Refuted Events (λ e v. v.awaited) await_yields
unfolding computed begun
events-awaited h = no_both (h c begun (as_call (Op.Await 10 3 0) refl) (record { before = refl; after = refl })) refl

events-still : Refuted Events (λ e v. v.still) (being seen_returned result5)
unfolding computed returned
events-still h =
    let q : ◌≡◌ {A = ℕ} 5 7 = ap recorded (h c returned (as_call (Op.CoroCurrent 9 1) refl) (λ r. no-set-up r.sets-up) (λ h. no_both h.after refl) refl) in
    absurd (omega (arith, q))

events-unbegun : Refuted Events (λ e v. v.unbegun) (being seen_created (making c CoroState.Failed))
unfolding computed waiting
events-unbegun h =
    let q : ◌≡◌ {A = ℕ} 5 0 = ap state_in (h c waiting (as_call (Op.CoroCurrent 9 1) refl) (λ r. no-set-up r.sets-up) (λ h. no_both h.after refl) refl (λ e _. no_word e)) in
    absurd (omega (arith, q))

events-runs-on : Refuted Events (λ e v. v.runs_on) (being seen_running (making c CoroState.Created))
unfolding computed begun
events-runs-on h = no_both (h c begun (as_call (Op.CoroCurrent 9 1) refl) (λ r. no-set-up r.sets-up) refl (λ h. no_both h.after refl) (λ h. no_both h.after refl) (λ h. no_both h.after refl)) refl

events-comes : Refuted Events (λ e v. v.comes) (reaching seen_created (making c CoroState.Failed))
unfolding computed called
events-comes h = go (h c called (as_call (Op.CoroNew 1 0 0 0) refl) refl)
  where
    z : World
    z = (reaching seen_created (making c CoroState.Failed)).next called (as_call (Op.CoroNew 1 0 0 0) refl)

    go : ((view_of z).coro c ≡ none) ⊎ (state_is (view_of z) seen_created c ≡ true) → ⊥
    go (inl e) = let q : ◌≡◌ {A = ℕ} 5 9 = ap state_in e in absurd (omega (arith, q))
    go (inr e) = no_both e refl

events-fixed : Refuted Events (λ e v. v.fixed) (leaving_at Altered.grant (λ w z. world_depth1 z))
unfolding computed begun
events-fixed h = let q : ◌≡◌ {A = ℕ} 1 6 = ap (λ (r : Rules). r.depth) (h begun (as_call (Op.Grant 1) refl) (λ r. no-set-up r.sets-up)) in absurd (omega (arith, q))

events-one-switch : Refuted Events (λ e v. v.one-switch) (leaving_at Altered.resume (λ w z. making c CoroState.Yielded z))
unfolding computed holding
events-one-switch h = h Story.d c holding (as_call (Op.Resume 2 1 0 2) refl) (record { before = refl; after = refl }) (record { before = refl; after = refl })

events-no-return : Refuted Events (λ e v. v.no_return) (leaving_at Altered.resume (λ w z. making c CoroState.Returned z))
unfolding computed holding
events-no-return h = h Story.d c holding (as_call (Op.Resume 2 1 0 2) refl) (record { before = refl; after = refl }) (record { before = refl; after = refl })

events-one-leaves : Refuted Events (λ e v. v.one-leaves) (leaving_at Altered.yield (λ w z. making c CoroState.Returned z))
unfolding computed nested
events-one-leaves h = h Story.d c nested (as_call (Op.Yield 8 3 1) refl) (record { before = refl; after = refl }) (record { before = refl; after = refl })

-- ---- more of them

no-cleanup : Events (enters_nobody two) → ⊥
unfolding computed queued or_else
no-cleanup v = no_both (v.entered c queued (as_call (Op.CoroCurrent 9 1) refl) (sound-healthy queued refl) (record { driver = Driver.Finalize; sent = closes 0; pc = 9; says = refl })).after refl

-- a look at that machine answers 0
healthy : Healthy failure_answers9 begun
unfolding computed begun
healthy (SetUp s) e = let z : ◌≡◌ {A = ℕ} 0 1 = cc in absurd (omega arith)
healthy (Do o) e = ap (λ p. pick (lost_in begun.chain (M.tested begun p).world) 9 (number_of (M.tested begun p).answer)) (some-op e)

failure-answers-9 : Events failure_answers9 → ⊥
unfolding computed begun
failure-answers-9 v = no_both (v.failed c begun (as_call (Op.Unwind (Fault.Throw 7) None) refl) healthy refl (thrown 7 None refl)).after refl

-- NONE OF THEM
pub refuted-events : RefutedEvents
refuted-events =
    record {
      enters = events-enters;
      entered = events-entered;
      answered = events-answered;
      resumed = events-resumed;
      hosted = events-hosted;
      turned = events-turned;
      threw = events-threw;
      closed_in = events-closed-in;
      suspends = events-suspends;
      suspended = events-suspended;
      heard = events-heard;
      returns = events-returns;
      returned = events-returned;
      fails = events-fails;
      failed = events-failed;
      spoilt = events-spoilt;
      stopped = events-stopped;
      closes-created = events-closes-created;
      throws-created = events-throws-created;
      integer = events-integer;
      integer-unsigned = events-integer-unsigned;
      word = events-word;
      closed = events-closed;
      yielded = events-yielded;
      closing = events-closing;
      awaited = events-awaited;
      still = events-still;
      unbegun = events-unbegun;
      runs_on = events-runs-on;
      comes = events-comes;
      fixed = events-fixed;
      one-switch = events-one-switch;
      no_return = events-no-return;
      one-leaves = events-one-leaves;
    }

pub wrong-events : WrongEvents
wrong-events = record { no-cleanup = no-cleanup; failure-answers-9 = failure-answers-9 }
