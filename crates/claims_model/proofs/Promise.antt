-- THE PROMISE, of `step`. Assumes nothing.
use Prim.Native.Nat.{ℕ, zero, suc, ◌^◌, ◌<◌}
use native.Mathlib.Omega.{arith}
use mathlib.Core.Path.{◌≡◌, refl, sym, ap, ◌∙◌, subst}
use mathlib.Core.Bool.{Bool, true, false, ◌||◌}
use mathlib.Core.List.{List, [], ◌∷◌, map}
use mathlib.Core.Option.{none, some}
use lib.ListN.{get_or, take, drop}
use lib.Dec.{eqb}
use borrow.Author.Tests.{eq-eqb, not-true}
use Rattle.lists.specs.Pick.{pick}
use Rattle.heap.specs.Table.{slot}
use Rattle.heap.specs.Fault as Faults
use Rattle.std.specs.Prelude.{Option, Result, Some, None, Ok, Err}
use Rattle.heap.specs.declared.fault.Fault.{Fault}
use Rattle.heap.specs.declared.object.CoroState.{CoroState}
use Rattle.heap.specs.declared.heap.ResultKind.{ResultKind}
use Rattle.model.specs.Program.{Func, Setup, setup_ok}
use Rattle.model.specs.Object.{Object, is_done}
use Rattle.model.specs.World.{World, and_then, fresh, function_objects, with_fuel}
use Rattle.model.specs.Frames.{pop_to}
use Rattle.model.specs.Heap.{place, object_at, to_dyn}
use Rattle.model.specs.Machine.{apply_cont, write_made, resume_in, return_made, finish_as, finish_on, finish, unwind, raisable}
use Rattle.model.specs.Gate.{refused}
use Rattle.model.specs.Added as Added
use Rattle.model.specs.Added.{accepted, registers_on}
use Rattle.model.specs.Sound.{is_none, sound}
use Rattle.model.specs.Answer.{number_of}
use Rattle.model.specs.Call.{Call, SetUp, Do, as_call}
use Rattle.model.specs.Calls.{table}
use Rattle.model.specs.Step.{call, tested, step, told}
use Rattle.model.specs.Compute.{computed}
use Rattle.model.specs.declared.machine.Cont.{Cont}
use Rattle.model.specs.declared.machine.Driver.{Driver}
use Rattle.model.specs.declared.machine.Frame.{Frame}
use Rattle.model.specs.declared.machine.Fuel.{Fuel}
use Rattle.model.specs.declared.call.Op.{Op}
use Rattle.model.specs.declared.call.Answer.{Answer}
use Rattle.claims_invariant.specs.Kept.{raises}
use Rattle.claims_sound.proofs.Sound.{sound→, →sound}
use Rattle.claims_sound.proofs.Coros.{fuel-move}
use Rattle.claims_invariant.proofs.Call.{call-keeps}
use Rattle.claims_model.specs.Engine as Engine
use Rattle.claims_model.specs.Engine.{Turn, turn_call}
use Rattle.claims_model.specs.Demand3.{Restarts}
use Rattle.claims_model.specs.Says.{Announced}
use Rattle.claims_model.specs.Events.{Healthy, raised, unwind_number_at}
use Rattle.claims_model.specs.Promise.{plain, bytes_fit, Roomy, IntFits, converts, Accepts, unbanked, fuel_sound, Eleven, sets-up, no-fault, Soundness, Fresh, SetUps, top_registers, Looks, Refuels, NotEmpty, Promise}
use Rattle.claims_model.specs.Steps.{seen_of, rules_of, view_of, model_op, model_asks, looks, steps}
use Rattle.claims_model.specs.Story.{wide, f, c, with_refused_set_up}
use Rattle.claims_model.specs.Refuted.{Said}
use Rattle.claims_model.specs.Premises.{premises}
use Rattle.claims_model.specs.Witness.{nth, between, waiting, frame}
use Rattle.claims_model.proofs.Entry.{Act}
use Rattle.claims_model.proofs.Cores.{no_both}
use Rattle.claims_model.proofs.Views.{Kind, k-at, k-host, k-finish, k-raise, k-other, kind-of}
use Rattle.claims_model.proofs.Claim.{fresh-absent}
use Rattle.claims_model.proofs.Soundness.{soundness-kept}
use Rattle.claims_model.proofs.Answers.{throw-answer, raise-answer, pass-answer}
use Rattle.claims_model.proofs.Exact.{healthy-sound, number-sound, some-op, sound-healthy}
use Rattle.claims_model.proofs.Operands.{as-typed}
use Rattle.claims_model.proofs.Premises.{premises-met}
use Rattle.claims_model.proofs.Exactly.{events, demand3}
use Rattle.claims_model.proofs.Touches.{touches}
use Rattle.claims_model.proofs.Made.{creates}
use Rattle.claims_model.proofs.Asks.{asks}
use Rattle.claims_model.proofs.Values.{can-make, word_in}
use Rattle.claims_model.proofs.Undone.{accepts-close, accepts-throw-created}
use Rattle.claims_model.proofs.Roomy.{await-takes, kv-takes, yield-takes}

-- ---- soundness

begun : (w : World) (k : Call) → Restarts steps w k → sound (step w k).world ≡ true
unfolding step pick
begun w (Do o) r = let q = r.sets-up in let z : ◌≡◌ {A = ℕ} 0 1 = cc in absurd (omega arith)
begun w (SetUp s) r = go (setup_ok s) refl r.accepted
  where
    go : (b : Bool) → setup_ok s ≡ b → number_of (pick b (accepted (fresh s)) (refused w Fault.Unsound)).answer ≡ 0 → sound (pick b (accepted (fresh s)) (refused w Fault.Unsound)).world ≡ true
    go true e n = soundness-kept.begun s e
    go false e n = absurd (omega (arith, n))

kept : (w : World) (k : Call) → sound w ≡ true → sound (step w k).world ≡ true
unfolding step pick
kept w (Do o) h = soundness-kept.kept w o h
kept w (SetUp s) h = go (setup_ok s) refl
  where
    go : (b : Bool) → setup_ok s ≡ b → sound (pick b (accepted (fresh s)) (refused w Fault.Unsound)).world ≡ true
    go true e = soundness-kept.begun s e
    go false e = h

other-fuel : (w : World) (f : Fuel) → fuel_sound f ≡ true → sound w ≡ true → sound (with_fuel f w) ≡ true
other-fuel w f e h = →sound (with_fuel f w) (fuel-move w f w.finalizing (sound→ w h (λ z. no_both z refl)) (go f.bank e))
  where
    go : (b : Option ℕ) → (unbanked b || eqb f.fuel 0) ≡ true → (is_none b || eqb f.fuel 0) ≡ true
    go None e = e
    go (Some n) e = e

unraised : (v : Engine.View) (f : Fault) → raisable f ≡ false → raised v f ≡ none
unraised v Fault.None h = refl
unraised v Fault.NullReference h = no_both refl h
unraised v Fault.TypeError h = no_both refl h
unraised v Fault.InvalidCoroState h = no_both refl h
unraised v Fault.StackOverflow h = no_both refl h
unraised v Fault.CannotSuspend h = no_both refl h
unraised v Fault.CloseIgnored h = no_both refl h
unraised v Fault.ArithOverflow h = no_both refl h
unraised v Fault.NoScheduler h = no_both refl h
unraised v Fault.OutOfMemory h = refl
unraised v Fault.OutOfFuel h = refl
unraised v Fault.Unsound h = refl
unraised v Fault.NoFrame h = refl
unraised v Fault.BadOperand h = refl
unraised v Fault.Full h = refl
unraised v Fault.Busy h = refl
unraised v Fault.GrantTooLarge h = refl
unraised v (Fault.Throw x) h = no_both refl h

-- only an unwind can be given what it does not take
unput : (w : World) {o : Op} {a : Act} {d : Announced} → raises (table o) ≡ false → Kind w o a d → Eleven (view_of w) (some o)
unput w h (k-at e i) = no_both (ap raises e) h
unput w h (k-host c x) = no_both refl h
unput w h (k-finish kind x) = no_both refl h
unput w h (k-raise f pc) = no-fault f pc (unraised (view_of w) f h) (λ e. no_both (ap raisable e) h) (λ e. no_both (ap raisable e) h)
unput w h (k-other e) = no_both e h

eleven : (w : World) (k : Call) → sound w ≡ true → number_of (step w k).answer ≡ 11 → Eleven (view_of w) (model_op k)
eleven w (SetUp s) h n = sets-up
eleven w (Do o) h n = unput w (go (raises (table o.op)) refl) (kind-of w o.op)
  where
    go : (b : Bool) → raises (table o.op) ≡ b → raises (table o.op) ≡ false
    go false q = q
    go true q = no_both (eq-eqb (number_of (call o.op w).answer) 11 (ap number_of (sym (number-sound w o h)) ∙ n)) (not-true (eqb (number_of (call o.op w).answer) 11) ((call-keeps {ex = false} o.op w o.within (sound→ w h (λ z. no_both z refl))).fine q))

pub soundness : Soundness steps
soundness =
    record {
      begun = λ w k r. sound-healthy (step w k).world (begun w k r);
      kept = λ w k h. sound-healthy (step w k).world (kept w k (healthy-sound w h));
      refuelled = λ w f e h. sound-healthy (with_fuel f w) (other-fuel w f e (healthy-sound w h));
      eleven = λ w k h n. eleven w k (healthy-sound w h) n;
    }

-- ---- acceptance

plain-made : {A : Type 0} (kind : ResultKind) (x : ℕ) (w : World) (g : Fault) → plain kind ≡ true → (to_dyn kind x w).answer ≡ Err g → A
unfolding to_dyn
plain-made ResultKind.None x w g p e = let z : ◌≡◌ {A = ℕ} 0 1 = cc in absurd (omega arith)
plain-made ResultKind.Dyn x w g p e = let z : ◌≡◌ {A = ℕ} 0 1 = cc in absurd (omega arith)
plain-made ResultKind.I64 x w g p e = no_both p refl
plain-made ResultKind.U64 x w g p e = no_both p refl

-- a finish whose result is made, where the frame stands and where it is gone
finish-zero : (kind : ResultKind) (x : ℕ) (w : World) → ((g : Fault) → (to_dyn kind x w).answer ≡ Err g → ⊥) → ((f : Frame) (fs : List Frame) (g : Fault) → (to_dyn kind x (pop_to f fs w)).answer ≡ Err g → ⊥)
    → number_of (finish kind x w).answer ≡ 0
unfolding finish apply_cont pick
finish-zero kind x w here gone = go w.frames
  where
    dyn : (f : Frame) (fs : List Frame) (dst : ℕ) (m : Result ℕ Fault) → (to_dyn kind x (pop_to f fs w)).answer ≡ m → number_of (and_then (write_made dst (to_dyn kind x (pop_to f fs w)).world m) resume_in).answer ≡ 0
    dyn f fs dst (Ok y) e = refl
    dyn f fs dst (Err g) e = absurd (gone f fs g e)

    body : (f : Frame) (fs : List Frame) (m : Result ℕ Fault) → (to_dyn kind x w).answer ≡ m → number_of (return_made f fs (to_dyn kind x w).world m).answer ≡ 0
    body f fs (Ok y) e = refl
    body f fs (Err g) e = absurd (here g e)

    top : (c : Cont) (f : Frame) (fs : List Frame) → number_of (finish_as c f fs kind x w).answer ≡ 0
    top Cont.Entry f fs = refl
    top (Cont.Write dst) f fs = refl
    top (Cont.Dyn dst) f fs = dyn f fs dst (to_dyn kind x (pop_to f fs w)).answer refl
    top (Cont.Value dst) f fs = refl
    top Cont.Discard f fs = refl
    top Cont.Coro f fs = body f fs (to_dyn kind x w).answer refl

    go : (fs : List Frame) → number_of (finish_on fs kind x w).answer ≡ 0
    go [] = refl
    go (f ∷ fs) = top f.cont f fs

finish-call : (w : World) (k : Call) (kind : ResultKind) (x : ℕ) → Healthy steps w → model_op k ≡ some (Op.Finish kind x) → (x < 2 ^ 64 → number_of (finish kind x w).answer ≡ 0) → number_of (step w k).answer ≡ 0
unfolding call
finish-call w (SetUp s) kind x h e p = let z : ◌≡◌ {A = ℕ} 0 1 = cc in absurd (omega arith)
finish-call w (Do o) kind x h e p = ap number_of (number-sound w o (healthy-sound w h)) ∙ ap (λ q. number_of (call q w).answer) (some-op e) ∙ p (word_in o.op kind x (some-op e) o.within)

accepts-finish : (w : World) (k : Call) (kind : ResultKind) (x : ℕ) → Healthy steps w → model_op k ≡ some (Op.Finish kind x) → plain kind ≡ true → number_of (step w k).answer ≡ 0
accepts-finish w k kind x h e p = finish-call w k kind x h e (λ l. finish-zero kind x w (λ g q. plain-made kind x w g p q) (λ f fs g q. plain-made kind x (pop_to f fs w) g p q))

accepts-integer : (w : World) (k : Call) (kind : ResultKind) (x : ℕ) → Healthy steps w → model_op k ≡ some (Op.Finish kind x) → IntFits (view_of w) → converts kind x ≡ true → number_of (step w k).answer ≡ 0
accepts-integer w k kind x h e m p =
    finish-call w k kind x h e (λ l. finish-zero kind x w (can-make w kind x l p m.bytes m.slot) (λ f fs. can-make (pop_to f fs w) kind x l p m.bytes m.slot))

-- an unwind at a machine that is not refused
unwinds : (w : World) (k : Call) (f : Fault) (pc : Option ℕ) → sound w ≡ true → model_op k ≡ some (Op.Unwind f pc) → number_of (step w k).answer ≡ number_of (unwind f pc w).answer
unfolding call
unwinds w (SetUp s) f pc h e = let z : ◌≡◌ {A = ℕ} 0 1 = cc in absurd (omega arith)
unwinds w (Do o) f pc h e = ap number_of (number-sound w o h) ∙ ap (λ p. number_of (call p w).answer) (some-op e)

accepts-throw : (w : World) (k : Call) (x : ℕ) (pc : Option ℕ) → Healthy steps w → model_op k ≡ some (Op.Unwind (Fault.Throw x) pc) → number_of (step w k).answer ≡ unwind_number_at (view_of w) x pc
accepts-throw w k x pc h e = unwinds w k (Fault.Throw x) pc (healthy-sound w h) e ∙ throw-answer w (healthy-sound w h) x pc

accepts-raise : (w : World) (k : Call) (f : Fault) (pc : Option ℕ) (x : ℕ) → Healthy steps w → model_op k ≡ some (Op.Unwind f pc) → ((y : ℕ) → f ≡ Fault.Throw y → ⊥) → raised (view_of w) f ≡ some x
    → let v = view_of w in number_of (step w k).answer ≡ pick (bytes_fit v v.rules.error_cost) (pick v.full 14 (unwind_number_at v x pc)) 9
accepts-raise w k f pc x h e n q = unwinds w k f pc (healthy-sound w h) e ∙ raise-answer w (healthy-sound w h) f pc x n q

accepts-pass : (w : World) (k : Call) (f : Fault) (pc : Option ℕ) → Healthy steps w → model_op k ≡ some (Op.Unwind f pc) → raised (view_of w) f ≡ none
    → number_of (step w k).answer ≡ pick (eqb (Faults.number_of f) 9 || eqb (Faults.number_of f) 10) (Faults.number_of f) 11
accepts-pass w k f pc h e q = unwinds w k f pc (healthy-sound w h) e ∙ pass-answer w (healthy-sound w h) f pc q

-- ---- set-ups and looks

begins-fresh : (s : Setup) → Fresh (view_of (fresh s))
begins-fresh s = record { stack = refl; frames = refl; chain = refl; coros = λ c. ap seen_of (fresh-absent s c); loops = λ x. no-loops (place (fresh s) x); queue = refl; fuel = refl; used = refl }
  where
    at : (n : ℕ) (fs : List Func) (i : ℕ) → is_done (get_or (function_objects n fs) i (slot 0 Object.Empty)).object ≡ false
    at n [] i = refl
    at n (f ∷ fs) zero = refl
    at n (f ∷ fs) (suc i) = at (suc n) fs i

    no-loops : (p : Option ℕ) → is_done (object_at (function_objects 0 s.functions) p) ≡ false
    no-loops None = refl
    no-loops (Some i) = at 0 s.functions i

set-up-begun : (w : World) (k : Call) → Restarts steps w k → Fresh (view_of (step w k).world)
unfolding step pick
set-up-begun w (Do o) r = let q = r.sets-up in let z : ◌≡◌ {A = ℕ} 0 1 = cc in absurd (omega arith)
set-up-begun w (SetUp s) r = go (setup_ok s) r.accepted
  where
    go : (b : Bool) → number_of (pick b (accepted (fresh s)) (refused w Fault.Unsound)).answer ≡ 0 → Fresh (view_of (pick b (accepted (fresh s)) (refused w Fault.Unsound)).world)
    go true n = begins-fresh s
    go false n = absurd (omega (arith, n))

set-up-given : (w : World) (k : Call) → Restarts steps w k → model_asks k ≡ some (rules_of (step w k).world.setup)
unfolding step pick
set-up-given w (Do o) r = let q = r.sets-up in let z : ◌≡◌ {A = ℕ} 0 1 = cc in absurd (omega arith)
set-up-given w (SetUp s) r = go (setup_ok s) r.accepted
  where
    go : (b : Bool) → number_of (pick b (accepted (fresh s)) (refused w Fault.Unsound)).answer ≡ 0 → some (rules_of s) ≡ some (rules_of (pick b (accepted (fresh s)) (refused w Fault.Unsound)).world.setup)
    go true n = refl
    go false n = absurd (omega (arith, n))

set-up-refused : Said SetUps (λ e v. v.refused) steps
unfolding step pick
set-up-refused w (Do o) e n = let z : ◌≡◌ {A = ℕ} 0 1 = cc in absurd (omega arith)
set-up-refused w (SetUp s) e n = go (setup_ok s) n
  where
    go : (b : Bool) → let o = pick b (accepted (fresh s)) (refused w Fault.Unsound) in (number_of o.answer ≡ 0 → ⊥) → (number_of o.answer ≡ 11) × (view_of o.world ≡ view_of w)
    go true n = absurd (n refl)
    go false n = (refl, refl)

the-part : (fs : List Frame) (xs : List ℕ) → registers_on fs xs ≡ top_registers fs xs
the-part [] xs = refl
the-part (f ∷ fs) xs = refl

look-sees : (w : World) → Healthy steps w → looks w ≡ top_registers w.frames w.stack
unfolding step tested call pick Added.registers
look-sees w h = ap (λ b. (pick b (call Op.Look w) (told (refused w Fault.Unsound))).seen) (healthy-sound w h) ∙ the-part w.frames w.stack

look-unseen : Said Looks (λ e v. v.unseen) steps
unfolding step tested pick
look-unseen w h = go (sound w) refl
  where
    go : (b : Bool) → sound w ≡ b → (pick b (call Op.Look w) (told (refused w Fault.Unsound))).seen ≡ []
    go true e = absurd (h (sound-healthy w e))
    go false e = refl

look-unmoved : (w : World) (k : Call) → model_op k ≡ some Op.Look → view_of (step w k).world ≡ view_of w
unfolding step tested call pick
look-unmoved w (SetUp s) e = let z : ◌≡◌ {A = ℕ} 0 1 = cc in absurd (omega arith)
look-unmoved w (Do o) e = go (sound w)
  where
    go : (b : Bool) → view_of (pick b (call o.op w) (told (refused w Fault.Unsound))).world ≡ view_of w
    go true = ap (λ p. view_of (call p w).world) (some-op e)
    go false = refl

-- ---- another fuel record

refuelled : Refuels steps
refuelled w f = refl

-- ---- not empty: the split that Witness.antt shows as lists

unfoldable pub before : List (Turn Call)
before = map turn_call (drop 1 (take 13 with_refused_set_up))

begins : (step (fresh wide) (SetUp wide)).answer ≡ Answer.Accepted
unfolding computed
begins = refl

begins-at : (step (fresh wide) (SetUp wide)).world ≡ fresh wide
unfolding computed
begins-at = refl

split-met : premises steps c (Engine.run_turns steps (step (fresh wide) (SetUp wide)).world before) (nth with_refused_set_up 13) waiting (nth with_refused_set_up 23) (between with_refused_set_up 23 26) (nth with_refused_set_up 26) ≡ true
unfolding computed before
split-met = refl

-- where c yields, it has room
sound-there : sound (Engine.run_turns steps (fresh wide) before) ≡ true
unfolding computed before
sound-there = refl

pub roomy-met : Roomy steps wide.costs.int c (Engine.run_turns steps (fresh wide) before)
unfolding computed before
roomy-met =
    record {
      healthy = sound-healthy (Engine.run_turns steps (fresh wide) before) sound-there;
      paid = λ pc y. refl;
      held = record {
        over = frame 1 0 8 0 (Cont.Dyn 2) ∷ [];
        body = frame 0 5 4 f Cont.Coro;
        under = frame 0 2 0 0 Cont.Entry ∷ [];
        driver = Driver.Resume 1;
        outer = [];
        frames = refl;
        its_own = refl;
        chain = refl;
      };
      seen = record { state = CoroState.Running; words = []; frames = []; waits = 0; most_words = 4; most_frames = 1; closing = false; signal = 0; result = 0 };
      there = refl;
      grows = refl;
    }

pub makes-met : IntFits (view_of (Engine.run_turns steps (fresh wide) before))
unfolding computed before
makes-met = record { slot = refl; bytes = refl }

costs-met : (view_of (Engine.run_turns steps (fresh wide) before)).rules.int_cost ≡ wide.costs.int
unfolding computed before
costs-met = refl

pub not-empty : NotEmpty steps
not-empty =
    let p = premises-met steps c (Engine.run_turns steps (step (fresh wide) (SetUp wide)).world before) (nth with_refused_set_up 13) waiting (nth with_refused_set_up 23) (between with_refused_set_up 23 26) (nth with_refused_set_up 26) split-met in
    record {
      start = fresh wide;
      first = SetUp wide;
      accepted = record { sets-up = refl; accepted = ap number_of begins };
      before = before;
      x = nth with_refused_set_up 13;
      waiting = waiting;
      y = nth with_refused_set_up 23;
      going = between with_refused_set_up 23 26;
      z = nth with_refused_set_up 26;
      c = c;
      suspends = p.suspends;
      roomy = subst (λ w. Roomy steps (view_of (Engine.run_turns steps w before)).rules.int_cost c (Engine.run_turns steps w before)) (sym begins-at) (subst (λ n. Roomy steps n c (Engine.run_turns steps (fresh wide) before)) (sym costs-met) roomy-met);
      makes = subst (λ w. IntFits (view_of (Engine.run_turns steps w before))) (sym begins-at) makes-met;
      waits = p.waits;
      enters = p.enters;
      goes = p.goes;
      stops = p.leaves;
    }

throw-created-said : Said Accepts (λ e v. v.throw-created) steps
throw-created-said w k pc dst r src m e l n = accepts-throw-created w pc dst r src m l n k e

-- THE PROMISE
pub promise : Promise steps
promise =
    record {
      demand3 = demand3;
      events = events;
      touches = touches;
      creates = creates;
      asks = asks;
      accepts = record {
        await = λ c w k pc dst src m e l. await-takes w 0 c m k pc dst src e l;
        yield-kv = λ c w k pc dst src key m e l. kv-takes w 0 c m k pc dst src key e l;
        yield = λ c w k pc dst src m s e l. yield-takes w w.setup.costs.int c m refl s pc k dst src e l;
        close-created = λ w k pc dst r src m e l n. accepts-close w pc dst r src m l n k e;
        throw-created = throw-created-said;
        integer = accepts-integer;
        finish = accepts-finish;
        throw = accepts-throw;
        raise = accepts-raise;
        pass = accepts-pass;
      };
      soundness = soundness;
      set-ups = record { begun = set-up-begun; given = set-up-given; refused = set-up-refused };
      looks = record { sees = look-sees; unseen = look-unseen; unmoved = look-unmoved };
      refuels = refuelled;
      speaks = λ o h. (as_call o (as-typed o ∙ h), refl);
      not-empty = not-empty;
    }
