-- The sheet's lines for `spawn_task` and the added calls.
use Prim.Native.Nat.{ℕ, ◌+◌, ◌^◌}
use mathlib.Core.Path.{◌≡◌, refl, sym, ap, ◌∙◌}
use mathlib.Core.Bool.{Bool, true, false, not, ◌&&◌, ◌||◌}
use mathlib.Core.List.{List, [], ◌∷◌, ◌++◌}
use lib.ListN.{length}
use lib.Dec.{leb, ltb}
use Rattle.lists.specs.Pick.{pick, pick_true, pick-false}
use Rattle.heap.specs.declared.fault.Fault.{Fault}
use Rattle.std.specs.Prelude.{Option, Some, None, Ok}
use Rattle.model.specs.declared.coro.Entered.{Entered}
use Rattle.heap.specs.declared.object.CoroState.{CoroState}
use Rattle.model.specs.Object.{Object, Coroutine, Absent, Is, as_coro, with_task, with_finalized}
use Rattle.model.specs.World.{World, After, after, and_then, with_stack, with_frames, with_chain, with_ready, with_finalize, with_outcome, with_fuel}
use Rattle.model.specs.Heap.{coro, not_a, alloc}
use Rattle.model.specs.Fuel.{set_finalizing}
use Rattle.model.specs.Coro as Coros
use Rattle.model.specs.Cleanup.{join_ready, spawn_task}
use Rattle.model.specs.Machine.{push_frame}
use Rattle.model.specs.Gate.{refused, in_frame, on_frame, on_host}
use Rattle.model.specs.Added as Added
use Rattle.model.specs.declared.machine.Active.{Active}
use Rattle.model.specs.declared.machine.Cont.{Cont}
use Rattle.model.specs.declared.machine.Driver.{Driver}
use Rattle.model.specs.declared.machine.Frame.{Frame}
use Rattle.model.specs.declared.machine.Fuel.{Fuel}
use Rattle.model.specs.declared.call.Answer.{Answer}
use Rattle.claims_sheet.specs.Lines.{leads}
use Rattle.claims_sheet.specs.Words.{lies, found, is_coroutine, core_of, rest_of, state, resumable, lacks_memory, no_slot}
use Rattle.claims_sheet.specs.Moves.{pc_stored, sent, replaced, entered}
use Rattle.claims_sheet.specs.Charging.{reserve, amount}
use Rattle.claims_sheet.specs.Makings.{is_function, stored, no_room}
use Rattle.claims_sheet.specs.OtherCalls as Table
use Rattle.claims_sheet.specs.OtherCalls.{allowed, granted, stopped, registers}
use Rattle.claims_sheet.proofs.Among.{and-true}
use Rattle.claims_sheet.proofs.Moved as Moved
use Rattle.claims_sheet.proofs.Moved.{below, base-is, put_is, sent_is, coro-is, by_kind, finished-is, then-two, then_one}
use Rattle.claims_sheet.proofs.Asking.{Saved, enter-is, creates, resumes}
use Rattle.claims_sheet.proofs.Charging.{suspends}
use Rattle.claims_sheet.proofs.Suspending.{cleaning-is}

-- ---- registers

pub lies-is : (w : World) (r : ℕ) → in_frame w r ≡ lies w r
lies-is w r = ap (λ b. ltb (b + r) (length w.stack)) (base-is w.frames)

-- ---- spawn_task

task-by : (b b' : Bool) (v : ℕ) (x w : World) → b ≡ b' → and_then (pick b (after x (Ok v)) (after w (Ok v))) Added.answer_made ≡ after (pick b' x w) (Answer.Word v)
unfolding pick
task-by b true v x w e = ap (λ t. and_then (pick t (after x (Ok v)) (after w (Ok v))) Added.answer_made) e
task-by b false v x w e = ap (λ t. and_then (pick t (after x (Ok v)) (after w (Ok v))) Added.answer_made) e

spawn-by : (o : Object) (v : ℕ) (w : World) →
    and_then (join_ready (as_coro o) v w) Added.answer_made
    ≡ pick (not (is_coroutine o)) (after w (Answer.Refused Fault.TypeError))
    (after (pick (not (rest_of o).task && resumable (core_of o).state) (replaced v (Object.Coro (core_of o) (with_task true (rest_of o))) (with_ready (w.ready ++ (v ∷ [])) w)) w) (Answer.Word v))
spawn-by Object.Empty v w = sym (pick_true _ _)
spawn-by (Object.Func f) v w = sym (pick_true _ _)
spawn-by (Object.Int n) v w = sym (pick_true _ _)
spawn-by (Object.Iter s d k) v w = sym (pick_true _ _)
spawn-by (Object.Error e f p x) v w = sym (pick_true _ _)
spawn-by (Object.Coro k r) v w = task-by _ _ v _ w (ap (λ b. not r.task && b) (resumes k.state)) ∙ sym (pick-false _ _)

pub spawn-task-is : (v : ℕ) (w : World) → and_then (spawn_task v w) Added.answer_made ≡ leads (Table.spawn_task v w)
unfolding spawn_task
spawn-task-is v w = ap (λ x. and_then (join_ready x v w) Added.answer_made) (coro-is w v) ∙ spawn-by (found w v) v w

-- ---- host call, host entry, function call, put word

pub host-call-is : (f : ℕ) (w : World) → on_host (is_function w f) (Added.host_call f) w ≡ leads (Table.host_call f w)
unfolding on_host Added.host_call push_frame
host-call-is f w = below _ _ (below _ _ (then_one (Added.pushed_or w) (no_room f w) _ _))

arrives : (s d : ℕ) (w : World) (b b' : Bool) → b ≡ b' → Added.host_arrive s w (pick b (Ok Entered.Fresh) (Ok (Entered.Suspended d))) ≡ after (pick b' w (sent d s w)) Answer.Accepted
unfolding pick
arrives s d w b true e = ap (λ t. Added.host_arrive s w (pick t (Ok Entered.Fresh) (Ok (Entered.Suspended d)))) e
arrives s d w b false e = ap (λ t. Added.host_arrive s w (pick t (Ok Entered.Fresh) (Ok (Entered.Suspended d)))) e ∙ ap (λ x. after x Answer.Accepted) (sent_is d s w)

pub host-entry-is : (v s : ℕ) (w : World) → Saved w → on_host true (Added.host_entry v s) w ≡ leads (Table.host_entry v s w)
unfolding on_host Added.host_entry
host-entry-is v s w saved =
    below _ _
    (pick-false _ _
    ∙ (enter-is (Added.host_arrive s) v Driver.Host w saved
    ∙ below _ _ (below _ _ (below _ _ (below _ _ (arrives s (core_of (found w v)).waiting (entered v Driver.Host w) _ _ (creates (state w v))))))))

allowed-is : (w : World) (c : Cont) → Added.cont_allowed w c ≡ allowed w c
allowed-is w Cont.Entry = refl
allowed-is w (Cont.Write r) = lies-is w r
allowed-is w (Cont.Dyn r) = lies-is w r
allowed-is w (Cont.Value r) = lies-is w r
allowed-is w Cont.Discard = refl
allowed-is w Cont.Coro = refl

pub function-call-is : (pc f : ℕ) (c : Cont) (w : World) → on_frame (is_function w f && Added.cont_allowed w c) (Added.function_call pc f c) w ≡ leads (Table.function_call pc f c w)
unfolding on_frame Added.function_call push_frame
function-call-is pc f c w =
    below _ _
    (λ i. pick (not (is_function w f && allowed-is w c i)) (refused w Fault.BadOperand)
    ((ap (λ z. and_then (push_frame f 0 c z) (Added.pushed_or w)) (Moved.stored pc w) ∙ then_one (Added.pushed_or w) (no_room f (pc_stored pc w)) _ _) i))

pub put-word-is : (r v : ℕ) (w : World) → on_frame (in_frame w r && true) (Added.put_word r v) w ≡ leads (Table.put_word r v w)
unfolding on_frame Added.put_word
put-word-is r v w = below _ _ (λ i. pick (not (passes i)) (refused w Fault.BadOperand) (after (put_is r v w i) Answer.Accepted))
  where
    passes : in_frame w r && true ≡ lies w r
    passes = and-true (in_frame w r) ∙ lies-is w r

-- ---- make iterator, take outcome, hand over

iterates : Coroutine → Fault → ℕ → World → After Answer
iterates Absent f v w = refused w f
iterates (Is k r) f v w = Added.iterator_over (Is k r) v w

iterates-as : (x : Coroutine) (v : ℕ) (w : World) → Added.iterator_over x v w ≡ iterates x (not_a w v) v w
unfolding iterates
iterates-as Absent v w = refl
iterates-as (Is k r) v w = refl

pub make-iterator-is : (v : ℕ) (w : World) → Added.make_iterator v w ≡ leads (Table.make_iterator v w)
unfolding Added.make_iterator iterates alloc
make-iterator-is v w =
    iterates-as (coro w v) v w
    ∙ (by_kind (λ x f. iterates x f v w) w v
    ∙ below _ _ (below _ _ (then-two Added.answer_made (lacks_memory w w.setup.costs.iter) (no_slot w) _ _ _)))

pub take-outcome-is : (w : World) → Added.take_outcome w ≡ leads (Table.take_outcome w)
unfolding Added.take_outcome
take-outcome-is w = refl

hands : Coroutine → Fault → ℕ → World → After Answer
hands Absent f v w = refused w f
hands (Is k r) f v w = Added.hand_over_as (Is k r) v w

hands-as : (x : Coroutine) (v : ℕ) (w : World) → Added.hand_over_as x v w ≡ hands x (not_a w v) v w
unfolding hands
hands-as Absent v w = refl
hands-as (Is k r) v w = refl

pub hand-over-is : (v : ℕ) (w : World) → Added.hand_over v w ≡ leads (Table.hand_over v w)
unfolding Added.hand_over hands
hand-over-is v w =
    hands-as (coro w v) v w
    ∙ (by_kind (λ x f. hands x f v w) w v
    ∙ below _ _ (below _ _ (λ i. pick (not (suspends (state w v) i) || (rest_of (found w v)).finalized) (refused w Fault.InvalidCoroState) (after (cleaning-is w.finalizing joined i) Answer.Accepted))))
  where
    joined : World
    joined = replaced v (Object.Coro (core_of (found w v)) (with_finalized true (rest_of (found w v)))) (with_finalize (w.finalize ++ (v ∷ [])) w)

-- ---- grant, stop run, look

reserve-is : (b : Option ℕ) (f : Fuel) → Added.reserve b f ≡ amount b f.fuel
reserve-is None f = refl
reserve-is (Some n) f = refl

refuel-is : (b : Option ℕ) (n : ℕ) (w : World) → with_fuel (Added.refuel b n w.fuel) w ≡ granted b n w
refuel-is None n w = refl
refuel-is (Some m) n w = refl

pub grant-is : (n : ℕ) (w : World) → Added.grant n w ≡ leads (Table.grant n w)
unfolding Added.grant
grant-is n w =
    ap (λ x. pick (leb (2 ^ 64) (x + n)) (refused w Fault.GrantTooLarge) (Added.accepted (with_fuel (Added.refuel w.fuel.bank (x + n) w.fuel) w))) (reserve-is w.fuel.bank w.fuel)
    ∙ below _ _ (ap (λ x. after x Answer.Accepted) (refuel-is w.fuel.bank (reserve w + n) w))

stopped-is : (cs : List Active) (w : World) → Coros.fail_all cs w ≡ stopped cs w
stopped-is [] w = refl
stopped-is (a ∷ chain) w = stopped-is chain (Coros.finish_coroutine a.coro CoroState.Failed 0 w) ∙ ap (λ x. stopped chain x) (finished-is a.coro CoroState.Failed 0 w)

pub stop-run-is : (w : World) → Added.stop_run w ≡ leads (Table.stop_run w)
unfolding Added.stop_run Coros.abort_coros
stop-run-is w =
    ap (λ x. after (with_stack [] (with_frames [] (with_outcome None (set_finalizing false (with_chain [] x))))) Answer.Accepted) (stopped-is w.chain w)
    ∙ ap (λ x. after (with_stack [] (with_frames [] (with_outcome None x))) Answer.Accepted) (cleaning-is false (with_chain [] (stopped w.chain w)))

pub registers-is : (w : World) → Added.registers w ≡ registers w.frames w.stack
unfolding Added.registers
registers-is w = go w.frames
  where
    go : (fs : List Frame) → Added.registers_on fs w.stack ≡ registers fs w.stack
    go [] = refl
    go (f ∷ fs) = refl
