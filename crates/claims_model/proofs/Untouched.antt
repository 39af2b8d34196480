-- Demand 3's second half in the claim's words: what lay below an entry is left as it was, but for the delivery.
use Prim.Native.Nat.{ℕ}
use native.Mathlib.Decide.{ℕ_discrete}
use mathlib.Core.Path.{◌≡◌, refl, sym, ap, ◌∙◌}
use mathlib.Core.Bool.{Bool, true, false}
use mathlib.Core.List.{List, [], ◌∷◌}
use Rattle.lists.specs.Pick.{pick}
use Rattle.heap.specs.declared.heap.ResultKind.{ResultKind}
use Rattle.model.specs.State.{is_running, is_awaiting}
use Rattle.model.specs.Object.{Coroutine, Absent, Is}
use Rattle.model.specs.World.{World, After}
use Rattle.model.specs.Frames.{on_top, step_pc, put_at}
use Rattle.model.specs.Heap.{coro, to_dyn}
use Rattle.model.specs.Sound.{marked}
use Rattle.model.specs.Machine.{finish}
use Rattle.model.specs.Call.{Call, SetUp, Do}
use Rattle.model.specs.Step.{call}
use Rattle.model.specs.declared.machine.Driver.{Driver}
use Rattle.model.specs.declared.machine.Frame.{Frame}
use Rattle.std.specs.Prelude.{Result, Ok}
use Rattle.heap.specs.declared.fault.Fault.{Fault}
use Rattle.model.specs.declared.call.Op.{Op}
use Rattle.model.specs.declared.call.Answer.{Answer}
use Rattle.claims_model.specs.Engine.{Turn, turn_call, turn_fuel, run_turns, seen_in}
use Rattle.claims_model.specs.Says.{Announced, announced_by}
use Rattle.claims_model.specs.Held.{into}
use Rattle.claims_model.specs.Delivery as Y
use Rattle.claims_model.specs.Delivery.{recorded, result_of, StackFrames, stack_frames, onward, delivered_to, LeftBelow}
use Rattle.claims_model.specs.Demand3 as D
use Rattle.claims_model.specs.Steps.{seen_of, view_of, model_op, steps}
use Rattle.claims_model.proofs.Entry as E
use Rattle.claims_model.proofs.Entry.{act, pc_by, driver_of, entry_of}
use Rattle.claims_model.proofs.Held.{core_in, core_at, Event, Yields, Awaits, Ignores, Returns, made_word, event_by, event_of, Mem, mem, deliver_to, calling}
use Rattle.claims_model.proofs.Split.{next, has_left, Enters, Stops, Goes}
use Rattle.claims_model.proofs.Cores.{no_both}
use Rattle.claims_model.proofs.Events.{no-entry}
use Rattle.claims_model.proofs.Finishes.{FinishCase, f-other, f-returns, finish-case}
use Rattle.claims_model.proofs.Claim as Claim
use Rattle.claims_model.proofs.Claim.{StepCase, anew, same, step_case, run-left, Entering, entering}
use Rattle.claims_model.proofs.Views.{is-runs, is-left, Kind, k-at, k-host, k-finish, k-raise, k-other, kind-of}
use Rattle.claims_model.proofs.Bodies.{at_top}
use Rattle.claims_model.proofs.Restores.{enters-old, restarts-old, entry-by}

-- ---- events

pub leaves-old : (c : ℕ) (w : World) (k : Call) → D.Stops steps c w k → Stops c w k
leaves-old c w k h = record { before = sym (is-runs w c) ∙ h.before; after = sym (is-left (next w k) c) ∙ h.after }

goes-old : (c : ℕ) (w : World) (ts : List (Turn Call)) → D.Goes steps c w ts → Goes c w ts
goes-old c w [] h = tt
goes-old c w (turn_fuel f ∷ ts) h = goes-old c (steps.refuel w f) ts h
goes-old c w (turn_call k ∷ ts) h = (restarts-old w k h.0, (λ e. h.1 (record { before = is-runs w c ∙ e.before; after = is-left (next w k) c ∙ e.after })), goes-old c (next w k) ts h.2)

-- ---- the delivery

abbrev event_to : Event → Y.Event
event_to (Yields x) = Y.YieldOf x
event_to (Awaits x) = Y.AwaitOf x
event_to Ignores = Y.Ignores
event_to (Returns x) = Y.ReturnOf x

put-into : (fs : List Frame) (r x : ℕ) (xs : List ℕ) → put_at fs r x xs ≡ into fs r x xs
put-into [] r x xs = refl
put-into (f ∷ fs) r x xs = refl

step-onward : (fs : List Frame) → on_top step_pc fs ≡ onward fs
step-onward [] = refl
step-onward (f ∷ fs) = refl

abbrev memory_of : Mem → StackFrames
memory_of m = stack_frames m.stack m.frames

deliver-alike : (d : Driver) (e : Event) (m : Mem) → memory_of (deliver_to d e m) ≡ delivered_to d (event_to e) (memory_of m)
deliver-alike (Driver.Resume r) (Yields x) m = λ i. stack_frames (put-into m.frames r x m.stack i) (step-onward m.frames i)
deliver-alike (Driver.Resume r) (Awaits x) m = λ i. stack_frames (put-into m.frames r x m.stack i) (step-onward m.frames i)
deliver-alike (Driver.Resume r) Ignores m = refl
deliver-alike (Driver.Resume r) (Returns x) m = λ i. stack_frames (put-into m.frames r x m.stack i) (step-onward m.frames i)
deliver-alike (Driver.Iter has val iter) (Yields x) m = λ i. stack_frames ((put-into m.frames has 1 (put_at m.frames val x m.stack) ∙ ap (into m.frames has 1) (put-into m.frames val x m.stack)) i) (step-onward m.frames i)
deliver-alike (Driver.Iter has val iter) (Awaits x) m = refl
deliver-alike (Driver.Iter has val iter) Ignores m = refl
deliver-alike (Driver.Iter has val iter) (Returns x) m = λ i. stack_frames (put-into m.frames has 0 m.stack i) (step-onward m.frames i)
deliver-alike Driver.Host e m = refl
deliver-alike Driver.Finalize e m = refl

-- ---- what is given

event-pick : (b : Bool) (x y : Event) → pick b (event_to x) (event_to y) ≡ event_to (pick b x y)
unfolding pick
event-pick true x y = refl
event-pick false x y = refl

pub closing-seen : (k : Coroutine) → seen_in (λ x. x.closing) (seen_of k) ≡ marked (λ r. r.closing) k
closing-seen Absent = refl
closing-seen (Is k r) = refl

-- who leaves by a finish returns, and has recorded its result
result-alike : (kind : ResultKind) (x : ℕ) (v : World) (r : ℕ) → ((y : ℕ) → (to_dyn kind x v).answer ≡ Ok y → r ≡ y) → (y : ℕ) → (to_dyn kind x v).answer ≡ Ok y → result_of kind x r ≡ made_word (to_dyn kind x v).answer
unfolding to_dyn
result-alike ResultKind.None x v r h y e = refl
result-alike ResultKind.Dyn x v r h y e = refl
result-alike ResultKind.I64 x v r h y e = h y e ∙ ap made_word (sym e)
result-alike ResultKind.U64 x v r h y e = h y e ∙ ap made_word (sym e)

one-made : {m : Result ℕ Fault} {x y : ℕ} → m ≡ Ok x → m ≡ Ok y → x ≡ y
one-made p q = ap made_word (sym p ∙ q)

finish-event : (kind : ResultKind) (x : ℕ) (v : World) (c : ℕ) (o : After Answer) → is_running (core_at v c).state ≡ true → has_left (core_at o.world c).state ≡ true
    → FinishCase kind x v o → result_of kind x (recorded (seen_of (coro o.world c))) ≡ made_word (to_dyn kind x v).answer
finish-event kind x v c o b l (f-other e n) = no_both l (run-left (core_at o.world c).state (ap (λ k. is_running (core_in k).state) (e c) ∙ b))
finish-event kind x v c o b l (f-returns f fs a chain y p q r m n ends tells ints) = go (ℕ_discrete c a.coro)
  where
    go : Dec (c ≡ a.coro) → result_of kind x (recorded (seen_of (coro o.world c))) ≡ made_word (to_dyn kind x v).answer
    go (yes h) = result-alike kind x v (recorded (seen_of (coro o.world c))) (λ t g. ap (λ u. recorded (seen_of (coro o.world u))) h ∙ tells (ap (λ u. is_running (core_at v u).state) (sym h) ∙ b) ∙ one-made m g) y m
    go (no h) = no_both l (run-left (core_at o.world c).state (ap (λ k. is_running k.state) (ends.others c h) ∙ b))

event-told : (v : World) (c : ℕ) {o : Op} {a : E.Act} {d : Announced} → is_running (core_at v c).state ≡ true → has_left (core_at (call o v).world c).state ≡ true → Kind v o a d
    → Y.event_given (view_of v) d c (view_of (call o v).world) ≡ event_to (event_by a v c)
unfolding call
event-told v c b l (k-at {a = E.enters u d x may} e i) = refl
event-told v c b l (k-at {a = E.suspends s dst x} e i) =
    let b = marked (λ r. r.closing) (coro v c) in
    ap (λ t. pick (is_awaiting s) (Y.AwaitOf x) (pick t Y.Ignores (Y.YieldOf x))) (closing-seen (coro v c))
    ∙ ap (pick (is_awaiting s) (Y.AwaitOf x)) (event-pick b Ignores (Yields x)) ∙ event-pick (is_awaiting s) (Awaits x) (pick b Ignores (Yields x))
event-told v c b l (k-at {a = E.neither} e i) = refl
event-told v c b l (k-host u x) = refl
event-told v c b l (k-finish kind x) = ap Y.ReturnOf (finish-event kind x v c (finish kind x v) b l (finish-case kind x v))
event-told v c b l (k-raise f pc) = refl
event-told v c b l (k-other e) = refl

event-of : (v : World) (k : Call) (c : ℕ) → Stops c v k → Y.event_given (view_of v) (announced_by (view_of v) (model_op k)) c (view_of (next v k)) ≡ event_to (event_of v k c)
event-of v k c h = go (next v k) (step_case v k) h.after
  where
    go : {k : Call} (z : World) → StepCase v k z → has_left (core_at z c).state ≡ true → Y.event_given (view_of v) (announced_by (view_of v) (model_op k)) c (view_of z) ≡ event_to (event_of v k c)
    go z (anew s e) a = refl
    go z (same k e) a = no_both a (run-left (core_at v c).state h.before)
    go z (Claim.does o e) a = event-told v c h.before a (kind-of v o.op)

-- THE SECOND HALF
untouched-as : (c : ℕ) (w : World) (y : Call) (v : World) (l : Call) (z : World) → Entering c w y (next w y) → mem z.stack z.frames ≡ deliver_to (driver_of (entry_of w y)) (event_of v l c) (mem w.stack (calling w y)) → z.chain ≡ w.chain
    → Y.event_given (view_of v) (announced_by (view_of v) (model_op l)) c (view_of z) ≡ event_to (event_of v l c) → LeftBelow (view_of w) (model_op y) c (view_of v) (model_op l) (view_of z)
unfolding entry-by
untouched-as c w (SetUp s) v l z t p q g = no-entry refl t.by
untouched-as c w (Do o) v l z t p q g =
    record {
      by = entry-by c w (Do o) (next w (Do o)) t;
      under = ap memory_of p ∙ deliver-alike (driver_of (entry_of w (Do o))) (event_of v l c) (mem w.stack (calling w (Do o)))
          ∙ (λ i. delivered_to (ap driver_of t.by i) (sym g i) (stack_frames w.stack (at_top (pc_by (act w o.op)) w.frames i)));
      chain = q;
    }

pub untouched : (c : ℕ) (w : World) (y : Call) (going : List (Turn Call)) (l : Call) → D.Enters steps c w y → D.Goes steps c (next w y) going
    → let v = run_turns steps (next w y) going in D.Stops steps c v l → LeftBelow (view_of w) (model_op y) c (view_of v) (model_op l) (view_of (next v l))
untouched c w y going l h q e =
    let x = Claim.untouched c w y going l (enters-old c w y h) (goes-old c (next w y) going q) left in
    untouched-as c w y v l (next v l) (entering c w y (enters-old c w y h)) x.under x.chain (event-of v l c left)
  where
    v : World
    v = run_turns steps (next w y) going

    left : Stops c v l
    left = leaves-old c v l e
