-- The engines that are wrong in what they accept, in fuel records or calls, or lose their soundness: one call tells each, by the field that
-- WrongPromise.antt names.
use Prim.Native.Nat.{ℕ}
use native.Mathlib.Omega.{arith}
use mathlib.Core.Path.{◌≡◌, refl, ap, ◌∙◌}
use mathlib.Core.Bool.{Bool, true, false, ◌&&◌}
use mathlib.Core.List.{List, [], ◌∷◌}
use mathlib.Core.Option.{Option, some, or_else}
use lib.ListN.{length}
use lib.Dec.{eqb}
use Rattle.lists.specs.Pick.{pick}
use Rattle.heap.specs.declared.fault.Fault.{Fault}
use Rattle.heap.specs.declared.object.CoroState.{CoroState}
use Rattle.heap.specs.declared.heap.ResultKind.{ResultKind}
use Rattle.model.specs.World.{World, fresh}
use Rattle.model.specs.Step as M
use Rattle.model.specs.Step.{step}
use Rattle.model.specs.Answer.{number_of}
use Rattle.model.specs.Call.{Call, SetUp, Do, as_call}
use Rattle.model.specs.Compute.{computed}
use Rattle.model.specs.declared.machine.Cont.{Cont}
use Rattle.model.specs.declared.machine.Driver.{Driver}
use Rattle.std.specs.Prelude.{None}
use Rattle.model.specs.declared.call.Op.{Op}
use Rattle.claims_model.specs.Engine.{View, Turn, turn_fuel}
use Rattle.claims_model.specs.Demand3.{Demand3}
use Rattle.claims_model.specs.Events.{Healthy}
use Rattle.claims_model.specs.Promise.{Roomy, Accepts, Eleven, sets-up, no-fault, Soundness, Promise}
use Rattle.claims_model.specs.Steps.{model_op}
use Rattle.claims_model.specs.Story as Story
use Rattle.claims_model.specs.Story.{wide, c, with_refused_set_up}
use Rattle.claims_model.specs.Witness.{frame, other}
use Rattle.claims_model.specs.Refuted as R
use Rattle.claims_model.specs.Refuted.{Refuted}
use Rattle.claims_model.specs.Altered as Altered
use Rattle.claims_model.specs.Altered.{is_a, answering, leaving_at, answering_at, answering_for, refusing}
use Rattle.claims_model.specs.WrongRestored.{grant_resumes, moves_once}
use Rattle.claims_model.specs.WrongCalls.{fives, creates}
use Rattle.claims_model.specs.WrongPromise as W
use Rattle.claims_model.specs.WrongPromise.{Fuelled, unpaid, bank_unused, refuses_looks, sets_depth1, shows_stack, keeps_fuel, as_look, takes_all_for_looks, does_nothing, after_refuel}
use Rattle.claims_model.proofs.Cores.{no_both}
use Rattle.claims_model.proofs.Exact.{some-op}
use Rattle.claims_model.proofs.WrongCalls.{refusing-healthy, creates-new, asks-status-if}
use Rattle.claims_model.proofs.WrongTouches.{touches-put}
use Rattle.claims_model.proofs.WrongRestored.{word-back, demand3-restored}
use Rattle.claims_model.proofs.WrongEvents.{events-enters}
use Rattle.claims_model.proofs.WrongSetUps.{set-ups-given, looks-sees, set-up-answers-12}
use Rattle.claims_model.proofs.Places as Places
use Rattle.claims_model.proofs.Places.{waiting, begun, itself, raising, banked-calls, banked, seven}

-- ---- what is accepted

-- a look at a sound machine answers 0, whatever other calls are answered
answering-healthy : (f : World → Option Op → ℕ → ℕ) (w : World) → f w (some Op.Look) (number_of (M.tested w Op.Look).answer) ≡ 0 → Healthy (answering f) w
unfolding step
answering-healthy f w h (SetUp s) k = let z : ◌≡◌ {A = ℕ} 0 1 = cc in absurd (omega arith)
answering-healthy f w h (Do o) k = ap (λ p. f w (some p) (number_of (M.tested w p).answer)) (some-op k) ∙ h

at-healthy : (n m : ℕ) (w : World) → is_a n (some Op.Look) ≡ false → number_of (M.tested w Op.Look).answer ≡ 0 → Healthy (answering_at n m) w
unfolding pick
at-healthy n m w e h = answering-healthy (λ w k a. pick (is_a n k) m a) w (ap (λ b. pick b m (number_of (M.tested w Op.Look).answer)) e ∙ h)

looks-healthy : (p : World → Bool) (w : World) → p w ≡ false → number_of (M.tested w Op.Look).answer ≡ 0 → Healthy (refuses_looks p) w
unfolding pick
looks-healthy p w e h = answering-healthy (λ w k a. pick (is_a Altered.look k && p w) 11 a) w (ap (λ b. pick b 11 (number_of (M.tested w Op.Look).answer)) e ∙ h)

bank-healthy : Healthy bank_unused banked
unfolding computed banked-calls banked
bank-healthy (SetUp s) e = let z : ◌≡◌ {A = ℕ} 0 1 = cc in absurd (omega arith)
bank-healthy (Do o) e = ap (λ p. pick (unpaid banked (M.tested banked p).world) 10 (number_of (M.tested banked p).answer)) (some-op e)

-- c's instruction is paid for by the bank, and there is room for it; and for a key
bank-pays : Roomy bank_unused 0 c banked
unfolding computed banked-calls banked or_else
bank-pays =
    record {
      healthy = bank-healthy;
      paid = λ pc y. refl;
      held = record {
        over = frame 0 0 20 0 Cont.Discard ∷ frame 0 5 16 0 Cont.Discard ∷ frame 0 5 12 0 Cont.Discard ∷ frame 0 5 8 0 Cont.Discard ∷ [];
        body = frame 0 5 4 0 Cont.Coro;
        under = frame 0 4 0 0 Cont.Entry ∷ [];
        driver = Driver.Resume 2;
        outer = [];
        frames = refl;
        its_own = refl;
        chain = refl;
      };
      seen = record { state = CoroState.Running; words = []; frames = []; waits = 0; most_words = 4; most_frames = 1; closing = false; signal = 0; result = 0 };
      there = refl;
      grows = refl;
    }

bank-pays-key : Roomy bank_unused 56 c banked
unfolding computed banked-calls banked bank-pays
bank-pays-key = let r = bank-pays in record { healthy = r.healthy; paid = r.paid; held = r.held; seen = r.seen; there = r.there; grows = refl }

accepts-await : Refuted Accepts (λ e v. v.await) bank_unused
unfolding computed banked-calls banked
accepts-await h = no_both (h c banked (as_call (Op.Await 10 3 0) refl) 10 3 0 bank-pays refl refl) refl

accepts-yield-kv : Refuted Accepts (λ e v. v.yield-kv) bank_unused
unfolding computed banked-calls banked
accepts-yield-kv h = no_both (h c banked (as_call (Op.YieldKv 10 3 0 1) refl) 10 3 0 1 bank-pays refl refl) refl

accepts-yield : Refuted Accepts (λ e v. v.yield) bank_unused
unfolding computed banked-calls banked
accepts-yield h = no_both (h c banked (as_call (Op.Yield 10 3 0) refl) 10 3 0 bank-pays-key refl refl refl) refl

-- .. and so it is for an engine that answers 9 to the calls of one kind
untried : (n : ℕ) → is_a n (some Op.Look) ≡ false → Roomy (refusing n 9) 0 c banked
unfolding computed banked-calls banked bank-pays
untried n e = let r = bank-pays in record { healthy = refusing-healthy n 9 banked e refl; paid = r.paid; held = r.held; seen = r.seen; there = r.there; grows = refl }

accepts-await-untried : Refuted Accepts (λ e v. v.await) (refusing Altered.await 9)
unfolding computed banked-calls banked
accepts-await-untried h = no_both (h c banked (as_call (Op.Await 10 3 0) refl) 10 3 0 (untried Altered.await refl) refl refl) refl

accepts-yield-kv-untried : Refuted Accepts (λ e v. v.yield-kv) (refusing Altered.yield_kv 9)
unfolding computed banked-calls banked
accepts-yield-kv-untried h = no_both (h c banked (as_call (Op.YieldKv 10 3 0 1) refl) 10 3 0 1 (untried Altered.yield_kv refl) refl refl) refl

accepts-yield-untried : Refuted Accepts (λ e v. v.yield) (refusing Altered.yield 9)
unfolding computed banked-calls banked untried
accepts-yield-untried h =
    let r = untried Altered.yield refl in
    no_both (h c banked (as_call (Op.Yield 10 3 0) refl) 10 3 0 (record { healthy = r.healthy; paid = r.paid; held = r.held; seen = r.seen; there = r.there; grows = refl }) refl refl refl) refl

accepts-close-created : Refuted Accepts (λ e v. v.close-created) (refusing Altered.coro_close 9)
unfolding computed waiting
accepts-close-created h =
    let q : ◌≡◌ {A = ℕ} 9 0 = h waiting (as_call (Op.CoroClose 3 1 0 2) refl) 3 1 0 2 (record { healthy = refusing-healthy Altered.coro_close 9 waiting refl refl; stands = refl; paid = λ pc y. refl }) refl refl refl in
    absurd (omega (arith, q))

accepts-throw-created : Refuted Accepts (λ e v. v.throw-created) (refusing Altered.resume_throw 9)
unfolding computed waiting
accepts-throw-created h =
    let q : ◌≡◌ {A = ℕ} 9 17 = h waiting (as_call (Op.ResumeThrow 3 1 0 2) refl) 3 1 0 2 (record { healthy = refusing-healthy Altered.resume_throw 9 waiting refl refl; stands = refl; paid = λ pc y. refl }) refl refl refl in
    absurd (omega (arith, q))

accepts-integer : Refuted Accepts (λ e v. v.integer) (refusing Altered.finish 9)
unfolding computed begun
accepts-integer h =
    let q : ◌≡◌ {A = ℕ} 9 0 = h begun (as_call (Op.Finish ResultKind.I64 7) refl) ResultKind.I64 7 (refusing-healthy Altered.finish 9 begun refl refl) refl (record { slot = refl; bytes = refl }) refl in
    absurd (omega (arith, q))

accepts-finish : Refuted Accepts (λ e v. v.finish) (refusing Altered.finish 9)
unfolding computed begun
accepts-finish h =
    let q : ◌≡◌ {A = ℕ} 9 0 = h begun (as_call (Op.Finish ResultKind.Dyn 7) refl) ResultKind.Dyn 7 (refusing-healthy Altered.finish 9 begun refl refl) refl refl in
    absurd (omega (arith, q))

accepts-throw : Refuted Accepts (λ e v. v.throw) (answering_at Altered.unwind 17)
unfolding computed raising
accepts-throw h =
    let q : ◌≡◌ {A = ℕ} 17 0 = h raising (as_call (Op.Unwind (Fault.Throw 9) None) refl) 9 None (at-healthy Altered.unwind 17 raising refl refl) refl in
    absurd (omega (arith, q))

accepts-raise : Refuted Accepts (λ e v. v.raise) (answering_at Altered.unwind 9)
unfolding computed begun
accepts-raise h =
    let q : ◌≡◌ {A = ℕ} 9 17 = h begun (as_call (Op.Unwind Fault.TypeError None) refl) Fault.TypeError None Story.d (at-healthy Altered.unwind 9 begun refl refl) refl (λ y e. no-throw e) refl in
    absurd (omega (arith, q))
  where
    no-throw : {y : ℕ} → Fault.TypeError ≡ Fault.Throw y → ⊥
    no-throw e = let z : ◌≡◌ {A = ℕ} 0 1 = cc in absurd (omega arith)

accepts-pass : Refuted Accepts (λ e v. v.pass) (answering_at Altered.unwind 17)
unfolding computed begun
accepts-pass h =
    let q : ◌≡◌ {A = ℕ} 17 9 = h begun (as_call (Op.Unwind Fault.OutOfMemory None) refl) Fault.OutOfMemory None (at-healthy Altered.unwind 17 begun refl refl) refl refl in
    absurd (omega (arith, q))

-- ---- soundness

-- 11 is for no Resume
no-eleven : {v : View} (o : Option Op) → Eleven v o → is_a Altered.resume o ≡ true → ⊥
no-eleven o sets-up e = no_both e refl
no-eleven o (no-fault f pc r m n) e = no_both e refl

soundness-begun : Refuted Soundness (λ e v. v.begun) (refuses_looks (λ w. eqb (length w.frames) 0))
unfolding computed
soundness-begun h = let q : ◌≡◌ {A = ℕ} 11 0 = h (fresh wide) (SetUp wide) (record { sets-up = refl; accepted = refl }) (as_call Op.Look refl) refl in absurd (omega (arith, q))

soundness-kept : Refuted Soundness (λ e v. v.kept) (refuses_looks (λ w. eqb (length w.frames) 0))
unfolding computed Places.called
soundness-kept h =
    let q : ◌≡◌ {A = ℕ} 11 0 = h Places.called (as_call Story.finish_none refl) (looks-healthy (λ w. eqb (length w.frames) 0) Places.called refl refl) (as_call Op.Look refl) refl in
    absurd (omega (arith, q))

soundness-refuelled : Refuted Soundness (λ e v. v.refuelled) (refuses_looks (λ w. eqb w.fuel.fuel 500))
unfolding computed
soundness-refuelled h =
    let q : ◌≡◌ {A = ℕ} 11 0 = h (fresh wide) other refl (looks-healthy (λ w. eqb w.fuel.fuel 500) (fresh wide) refl refl) (as_call Op.Look refl) refl in
    absurd (omega (arith, q))

soundness-eleven : Refuted Soundness (λ e v. v.eleven) (answering_for 3 11)
unfolding computed itself
soundness-eleven h = no-eleven _ (h itself (as_call (Op.Resume 5 1 0 2) refl) (answering-healthy (λ w k a. pick (eqb a 3) 11 a) itself refl) refl) refl

-- ---- all that is promised

promise-demand3 : Refuted Promise (λ e v. v.demand3) moves_once
promise-demand3 h = demand3-restored h.restored

promise-events : Refuted Promise (λ e v. v.events) grant_resumes
promise-events h = events-enters h.enters

promise-touches : Refuted Promise (λ e v. v.touches) (leaving_at Altered.put_word (λ w z. w))
promise-touches h = touches-put h.put

promise-creates : Refuted Promise (λ e v. v.creates) (creates fives)
promise-creates h = creates-new h.new

promise-asks : Refuted Promise (λ e v. v.asks) (answering_for 1 0)
promise-asks h = asks-status-if h.status-if

promise-accepts : Refuted Promise (λ e v. v.accepts) (refusing Altered.finish 9)
promise-accepts h = accepts-finish h.finish

promise-soundness : Refuted Promise (λ e v. v.soundness) (answering_for 3 11)
promise-soundness h = soundness-eleven h.eleven

promise-set-ups : Refuted Promise (λ e v. v.set-ups) sets_depth1
promise-set-ups h = set-ups-given h.given

promise-looks : Refuted Promise (λ e v. v.looks) shows_stack
promise-looks h = looks-sees h.sees

promise-refuels : Refuted Promise (λ e v. v.refuels) keeps_fuel
unfolding computed
promise-refuels h = let q : ◌≡◌ {A = ℕ} 0 500 = ap (λ v. v.fuel.fuel) (h (fresh wide) other) in absurd (omega (arith, q))

promise-speaks : Refuted Promise (λ e v. v.speaks) takes_all_for_looks
unfolding computed
promise-speaks h = let (k, q) = h Op.StopRun refl in go k q
  where
    go : (k : Call) → as_look (model_op k) ≡ some Op.StopRun → ⊥
    go (SetUp s) q = let z : ◌≡◌ {A = ℕ} 0 1 = cc in absurd (omega arith)
    go (Do o) q = let z : ◌≡◌ {A = ℕ} 0 1 = cc in absurd (omega arith)

promise-not-empty : Refuted Promise (λ e v. v.not-empty) does_nothing
promise-not-empty h = no_both h.enters.after h.enters.before

-- ---- more of them

-- c yields with 7 in its first register, and is resumed after another fuel record: the word is 0
zeros-after-refuel : Demand3 after_refuel → ⊥
unfolding computed seven
zeros-after-refuel d =
    let start : Fuelled = record { world = seven; left = seven.fuel.fuel } in
    let yield = as_call (Op.Yield 8 3 1) refl in
    let refuelled : List (Turn Call) = turn_fuel other ∷ [] in
    let r = d.restored c start yield refuelled (as_call (Op.Resume 9 1 0 2) refl) (record { before = refl; after = refl }) tt (record { before = refl; after = refl }) in
    let q : ◌≡◌ {A = ℕ} 0 7 = word-back (some (Op.Yield 8 3 1)) r.held (R.standing r.entered) r.words (frame 0 0 0 0 Cont.Coro) 4 in
    absurd (omega (arith, q))

-- NONE OF THEM
pub refuted-accepts : W.RefutedAccepts
refuted-accepts =
    record {
      await = accepts-await;
      yield-kv = accepts-yield-kv;
      yield = accepts-yield;
      await-untried = accepts-await-untried;
      yield-kv-untried = accepts-yield-kv-untried;
      yield-untried = accepts-yield-untried;
      close-created = accepts-close-created;
      throw-created = accepts-throw-created;
      integer = accepts-integer;
      finish = accepts-finish;
      throw = accepts-throw;
      raise = accepts-raise;
      pass = accepts-pass;
    }

pub refuted-soundness : W.RefutedSoundness
refuted-soundness = record { begun = soundness-begun; kept = soundness-kept; refuelled = soundness-refuelled; eleven = soundness-eleven }

pub refuted-promise : W.RefutedPromise
refuted-promise =
    record {
      demand3 = promise-demand3;
      events = promise-events;
      touches = promise-touches;
      creates = promise-creates;
      asks = promise-asks;
      accepts = promise-accepts;
      soundness = promise-soundness;
      set-ups = promise-set-ups;
      looks = promise-looks;
      refuels = promise-refuels;
      speaks = promise-speaks;
      not-empty = promise-not-empty;
    }

pub wrong-promise : W.WrongPromise
wrong-promise = record { set-up-answers-12 = set-up-answers-12; zeros-after-refuel = zeros-after-refuel }
