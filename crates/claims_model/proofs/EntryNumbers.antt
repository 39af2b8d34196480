-- What a call answers that enters a coroutine: 0, or 17 where a word is raised in it.
use Prim.Native.Nat.{ℕ, ◌+◌}
use mathlib.Core.Path.{◌≡◌, refl, sym, ap, ◌∙◌, subst}
use mathlib.Core.Bool.{Bool, true, false, not, ◌&&◌, ◌||◌}
use mathlib.Core.List.{List}
use mathlib.Core.Option.{Option, none, some}
use lib.ListN.{get_or}
use Rattle.lists.specs.Pick.{pick}
use Rattle.heap.specs.Word.{nil}
use Rattle.heap.specs.Table.{Slot}
use Rattle.heap.specs.declared.fault.Fault.{Fault}
use Rattle.heap.specs.declared.object.CoroState.{CoroState}
use Rattle.model.specs.Lists.{is_nil}
use Rattle.model.specs.State.{is_created, is_suspended, is_resumable, is_awaiting, is_returned}
use Rattle.model.specs.Object.{Core, Object, Coroutine, Absent, Is, is_done}
use Rattle.model.specs.World.{World, After, and_then}
use Rattle.model.specs.Frames.{top_base, reg, store_pc}
use Rattle.model.specs.Heap.{object, coro, not_a, set_done}
use Rattle.model.specs.Coro.{state_as, entered, overflows, coro_enter, finish_coroutine}
use Rattle.model.specs.Cleanup.{coro_suspended, charge}
use Rattle.model.specs.Exec as Exec
use Rattle.model.specs.Exec.{fault, arrive, resume, throw_entered, throw_to, resume_throw, close_entered, close_in, close_to, coro_close, iter_on, iter_next}
use Rattle.model.specs.Gate as Gate
use Rattle.model.specs.Gate.{refused, instruction, on_host}
use Rattle.model.specs.Added.{host_arrive, host_entry}
use Rattle.model.specs.Answer.{step_number, number_of}
use Rattle.model.specs.Call.{Call, SetUp, Do}
use Rattle.model.specs.Calls.{Instruction, table}
use Rattle.model.specs.Step.{doing, step, call}
use Rattle.model.specs.declared.machine.Driver.{Driver}
use Rattle.model.specs.declared.machine.Charge.{Charge}
use Rattle.std.specs.Prelude.{Result, Some, Ok}
use Rattle.model.specs.declared.coro.Entered.{Entered}
use Rattle.model.specs.declared.exec.Step.{Step}
use Rattle.model.specs.declared.call.Op.{Op}
use Rattle.claims_model.specs.Engine.{seen_created, seen_in, state_is}
use Rattle.claims_model.specs.Says as Says
use Rattle.claims_model.specs.Says.{Sent, nothing, gets, closes}
use Rattle.claims_model.specs.Held.{By}
use Rattle.claims_model.specs.Demand3 as D
use Rattle.claims_model.specs.Events.{entry_number}
use Rattle.claims_model.specs.Steps.{seen_of, view_of, model_op, steps}
use Rattle.claims_model.proofs.Entry.{yields, yields_kv, waits, resumes, throws, shuts, turns, Aim, enters, Act, at, awaits, act, Entry, nobody, entry, accepts_as, accepts, sent_to, aimed, charged, entry_by}
use Rattle.claims_model.proofs.Cores.{no_both, object_in, coro_in, and_left, and_right}
use Rattle.claims_model.proofs.Enters.{EnterCase, e-in, e-out, enter-case, accepts-stored, ChargeCase, c-done, c-spent, c-close, charge-case}
use Rattle.claims_model.proofs.Instr.{Alike, alike, coro-alike, aimed-alike}
use Rattle.claims_model.proofs.Switches.{created-susp, returned-not, may_turn}
use Rattle.claims_model.proofs.Events.{no-entry, susp-born}
use Rattle.claims_model.proofs.Numbers.{step-number}
use Rattle.claims_model.proofs.Views.{new-state, to-suspend, to-enter, aimless, Kind, k-at, k-host, k-finish, k-raise, k-other, kind-of}
use Rattle.claims_model.proofs.Claim.{Entering, entering, entry-sound}
use Rattle.claims_model.proofs.Exact.{number-sound}
use Rattle.claims_model.proofs.Restores.{enters-old, entry-by}

-- one that has not begun
new_in : Coroutine → Bool
new_in Absent = false
new_in (Is k r) = is_created k.state

-- n is what an entry answers, if it is one
abbrev Tells : World → Entry → ℕ → Type 0
Tells v nobody n = Unit {0}
Tells v (entry c d s) n = n ≡ entry_number (new_in (coro v c)) s

tells-pick : (v : World) (b : Bool) (e : Entry) (n : ℕ) → (b ≡ true → Tells v e n) → Tells v (pick b e nobody) n
unfolding pick
tells-pick v true e n f = f refl
tells-pick v false e n f = tt

tells_at : (v w : World) → ((c : ℕ) → coro v c ≡ coro w c) → (e : Entry) (n : ℕ) → Tells v e n → Tells w e n
tells_at v w h nobody n t = tt
tells_at v w h (entry c d s) n t = t ∙ ap (λ y. entry_number (new_in y) s) (h c)

-- ---- by what is sent

sent_word : (y : Coroutine) (v : World) (x : ℕ) → accepts_as y v ≡ true → entry_number (new_in y) (sent_to y (gets x)) ≡ 0
unfolding new_in pick
sent_word Absent v x a = no_both a refl
sent_word (Is k r) v x a = go (is_created k.state)
  where
    go : (b : Bool) → entry_number b (pick b nothing (gets x)) ≡ 0
    go true = refl
    go false = refl

thrown : (y : Coroutine) → coro_suspended y ≡ true → entry_number (new_in y) (sent_to y nothing) ≡ 17
unfolding new_in pick
thrown Absent a = no_both a refl
thrown (Is k r) a = ap (λ b. entry_number b (pick b nothing nothing)) (susp-born k.state a)

closed : (y : Coroutine) (x : ℕ) → coro_suspended y ≡ true → entry_number (new_in y) (sent_to y (closes x)) ≡ 17
unfolding new_in pick
closed Absent x a = no_both a refl
closed (Is k r) x a = ap (λ b. entry_number b (pick b nothing (closes x))) (susp-born k.state a)

-- ---- coro_enter, and then a tail that answers n

module _ {A : Type 0} (num : A → ℕ) (f : World → Result Entered Fault → After A) (n : ℕ) (fresh : (w : World) → num (f w (Ok Entered.Fresh)).answer ≡ n) (is-suspended : (w : World) (r : ℕ) → num (f w (Ok (Entered.Suspended r))).answer ≡ n) where
  entered-number : (c : ℕ) (d : Driver) (u : World) → accepts u c ≡ true → num (and_then (coro_enter c d u) f).answer ≡ n
  unfolding pick
  entered-number c d u a = go (coro_enter c d u) (enter-case c d u)
    where
      by : (b : Bool) (w : World) (r : ℕ) → num (f w (pick b (Ok Entered.Fresh) (Ok (Entered.Suspended r)))).answer ≡ n
      by true w r = fresh w
      by false w r = is-suspended w r

      go : (e : After (Result Entered Fault)) → EnterCase c d u e → num (f e.world e.answer).answer ≡ n
      go e (e-out g h) = no_both a h
      go e (e-in k r h b m q) = by (is_created k.state) (entered c d k r u) k.waiting

stored-accepts : (p : ℕ) (v : World) (c : ℕ) → accepts v c ≡ true → accepts (store_pc p v) c ≡ true
stored-accepts p v c a = accepts-stored (record { setup = refl; stack = refl; frames = refl; chain = refl; slots = refl; used = refl }) c ∙ a

-- ---- the arms

resume-tells : (p dst c src : ℕ) (v : World) → Tells v (aimed (enters (reg v c) (Driver.Resume dst) (gets (reg v src)) true) v) (step_number (resume p dst c src v).answer)
unfolding resume
resume-tells p dst c src v =
    tells-pick v (accepts v (reg v c)) (entry (reg v c) (Driver.Resume dst) (sent_to (coro v (reg v c)) (gets (reg v src)))) (step_number (resume p dst c src v).answer)
    (λ a. entered-number step_number (arrive (reg v src)) 0 (λ w. refl) (λ w r. refl) (reg v c) (Driver.Resume dst) (store_pc p v) (stored-accepts p v (reg v c) a) ∙ sym (sent_word (coro v (reg v c)) v (reg v src) a))

throw-tells : (p dst c src : ℕ) (v : World) → Tells v (aimed (enters (reg v c) (Driver.Resume dst) nothing (coro_suspended (coro v (reg v c)))) v) (step_number (resume_throw p dst c src v).answer)
unfolding resume_throw pick
throw-tells p dst c src v =
    tells-pick v (coro_suspended (coro v n) && accepts v n) (entry n d (sent_to (coro v n) nothing)) (step_number (resume_throw p dst c src v).answer)
    (λ a. go (coro v n) refl (and_left (coro_suspended (coro v n)) (accepts v n) a) (and_right (coro_suspended (coro v n)) (accepts v n) a) ∙ sym (thrown (coro v n) (and_left (coro_suspended (coro v n)) (accepts v n) a)))
  where
    n : ℕ
    n = reg v c

    x : ℕ
    x = reg v src

    d : Driver
    d = Driver.Resume dst

    test : (s : CoroState) (b : Bool) → is_created s ≡ b → is_suspended s ≡ true → accepts v n ≡ true → step_number (pick b (fault (finish_coroutine n CoroState.Failed x v) (Fault.Throw x)) (and_then (coro_enter n d (store_pc p v)) (throw_entered x))).answer ≡ 17
    test s true e h a = no_both h (created-susp s e)
    test s false e h a = entered-number step_number (throw_entered x) 17 (λ w. refl) (λ w r. refl) n d (store_pc p v) (stored-accepts p v n a)

    go : (y : Coroutine) → coro v n ≡ y → coro_suspended (coro v n) ≡ true → accepts v n ≡ true → step_number (throw_to (state_as y (not_a v n)) p dst n x v).answer ≡ 17
    go Absent e h a = no_both h (ap coro_suspended e)
    go (Is k r) e h a = test k.state (is_created k.state) refl (sym (ap coro_suspended e) ∙ h) a

close-tells : (p dst c src : ℕ) (v : World) → Tells v (aimed (enters (reg v c) (Driver.Resume dst) (closes (reg v src)) (coro_suspended (coro v (reg v c)))) v) (step_number (coro_close p dst c src v).answer)
unfolding coro_close
close-tells p dst c src v =
    tells-pick v (coro_suspended (coro v n) && accepts v n) (entry n d (sent_to (coro v n) (closes x))) (step_number (coro_close p dst c src v).answer)
    (λ a. go (coro v n) refl (and_left (coro_suspended (coro v n)) (accepts v n) a) (and_right (coro_suspended (coro v n)) (accepts v n) a) ∙ sym (closed (coro v n) x (and_left (coro_suspended (coro v n)) (accepts v n) a)))
  where
    n : ℕ
    n = reg v c

    x : ℕ
    x = reg v src

    d : Driver
    d = Driver.Resume dst

    in17 : accepts v n ≡ true → step_number (close_in p dst n x v).answer ≡ 17
    in17 a = entered-number step_number (close_entered n x) 17 (λ w. refl) (λ w r. refl) n d (store_pc p v) (stored-accepts p v n a)

    states : (s : CoroState) → is_suspended s ≡ true → accepts v n ≡ true → step_number (close_to (Ok s) p dst n x v).answer ≡ 17
    states CoroState.Created h a = no_both h refl
    states CoroState.Running h a = no_both h refl
    states CoroState.Yielded h a = in17 a
    states CoroState.Awaiting h a = in17 a
    states CoroState.Returned h a = no_both h refl
    states CoroState.Failed h a = no_both h refl

    go : (y : Coroutine) → coro v n ≡ y → coro_suspended (coro v n) ≡ true → accepts v n ≡ true → step_number (close_to (state_as y (not_a v n)) p dst n x v).answer ≡ 17
    go Absent e h a = no_both h (ap coro_suspended e)
    go (Is k r) e h a = states k.state (sym (ap coro_suspended e) ∙ h) a

turn-tells : (p has x val n : ℕ) (v : World)
    → Tells v (aimed (enters n (Driver.Iter has val x) (gets nil) (may_turn x n v)) v) (step_number (iter_on (state_as (coro v n) (not_a v n)) p has x val n v).answer)
unfolding pick
turn-tells p has x val n v =
    tells-pick v (may_turn x n v && accepts v n) (entry n d (sent_to (coro v n) (gets nil))) (step_number (iter_on (state_as (coro v n) (not_a v n)) p has x val n v).answer)
    (λ a. go (coro v n) refl (and_left (may_turn x n v) (accepts v n) a) (and_right (may_turn x n v) (accepts v n) a) ∙ sym (sent_word (coro v n) v nil (and_right (may_turn x n v) (accepts v n) a)))
  where
    d : Driver
    d = Driver.Iter has val x

    tests : (k : Core) (a b c : Bool) → (not a && not c) ≡ true → (is_resumable k.state ≡ true) → is_returned k.state ≡ b → accepts v n ≡ true
        → step_number (pick (a || b) (Exec.put has 0 (set_done x v)) (pick c (fault v Fault.TypeError) (and_then (coro_enter n d (store_pc p v)) (arrive nil)))).answer ≡ 0
    tests k true b c m q e h = no_both m refl
    tests k false true c m q e h = no_both q (returned-not k.state e)
    tests k false false true m q e h = no_both m refl
    tests k false false false m q e h = entered-number step_number (arrive nil) 0 (λ w. refl) (λ w r. refl) n d (store_pc p v) (stored-accepts p v n h)

    go : (y : Coroutine) → coro v n ≡ y → may_turn x n v ≡ true → accepts v n ≡ true → step_number (iter_on (state_as y (not_a v n)) p has x val n v).answer ≡ 0
    go Absent e m a = no_both a (ap (λ y. accepts_as y v) e)
    go (Is k r) e m a =
        tests k (is_done (object v x)) (is_returned k.state) (is_awaiting k.state) (ap (λ y. not (is_done (object v x)) && not (awaits y)) (sym e) ∙ m)
        (and_left (is_resumable k.state) (not (is_nil k.frames)) (and_left (is_resumable k.state && not (is_nil k.frames)) (not (overflows k v)) (ap (λ y. accepts_as y v) (sym e) ∙ a))) refl a

iter-tells : (p has iter val src : ℕ) (v : World)
    → Tells v (aimed (enters (reg v src) (Driver.Iter has val (reg v iter)) (gets nil) (may_turn (reg v iter) (reg v src) v)) v) (step_number (iter_next p has iter val src v).answer)
unfolding iter_next
iter-tells p has iter val src v = turn-tells p has (reg v iter) val (reg v src) v

-- ---- an instruction; a cleanup's start is 17

-- a call's answer
abbrev Answers : World → Op → Type 0
Answers w o = Tells w (entry_by (act w o) w) (number_of (call o w).answer)

instr-tells : (w : World) (o : Op) (F : ℕ → List ℕ → List (Slot Object) → Aim) {p : ℕ} {ok : World → Bool} {arm : World → After Step} → table o ≡ Instruction p ok arm
    → act w o ≡ at p (ok w) (F (top_base w.frames) w.stack w.slots) → ((v : World) → Tells v (aimed (F (top_base v.frames) v.stack v.slots) v) (step_number (arm v).answer)) → Answers w o
unfolding call instruction pick
instr-tells w o F {p} {ok} {arm} e q owes =
    subst (λ x. Tells w (entry_by x w) (number_of (doing (table o) w).answer)) (sym q)
    (subst (λ r. Tells w (entry_by (at p (ok w) (F (top_base w.frames) w.stack w.slots)) w) (number_of (doing r w).answer)) (sym e) (gate (is_nil w.frames) (ok w)))
  where
    aim : World → Aim
    aim u = F (top_base u.frames) u.stack u.slots

    done : {v : World} (n : ℕ) → Alike p w v → Tells w (aimed (aim w) w) (number_of (Gate.answer_of n (arm v).answer))
    done {v} n a =
        subst (Tells w (aimed (aim w) w)) (sym (step-number n (arm v).answer))
        (subst (λ e. Tells w e (step_number (arm v).answer)) ((λ i. aimed (F (a.base i) (a.stack i) (a.slots i)) v) ∙ aimed-alike a (aim w)) (tells_at v w (coro-alike a) (aimed (aim v) v) (step_number (arm v).answer) (owes v)))

    paid : (ch : After Charge) → ChargeCase p w ch → Tells w (charged ch.answer w (aimed (aim w) w)) (number_of (Gate.charged arm ch.world ch.answer).answer)
    paid ch (c-done n v r) = done n (alike r)
    paid ch (c-spent v r) = tt
    paid ch (c-close n c z x t) = subst (λ e. Tells w e 17) (sym x) refl

    gate : (a b : Bool) → Tells w (pick a nobody (pick (not b) nobody (charged (charge (Some p) w).answer w (aimed (aim w) w))))
        (number_of (pick a (refused w Fault.NoFrame) (pick (not b) (refused w Fault.BadOperand) (and_then (charge (Some p) w) (Gate.charged arm)))).answer)
    gate true b = tt
    gate false false = tt
    gate false true = paid (charge (Some p) w) (charge-case p w)

-- ---- the calls

host-tells : (c x : ℕ) (w : World) → Tells w (entry_by (act w (Op.HostEntry c x)) w) (number_of (call (Op.HostEntry c x) w).answer)
unfolding call on_host host_entry pick
host-tells c x w = go (is_nil w.frames)
  where
    go : (b : Bool) → Tells w (pick (not b) nobody (aimed (enters c Driver.Host (gets x) true) w)) (number_of (pick (not b) (refused w Fault.Busy) (and_then (coro_enter c Driver.Host w) (host_arrive x))).answer)
    go false = tt
    go true =
        tells-pick w (accepts w c) (entry c Driver.Host (sent_to (coro w c) (gets x))) (number_of (and_then (coro_enter c Driver.Host w) (host_arrive x)).answer)
        (λ a. entered-number number_of (host_arrive x) 0 (λ w. refl) (λ w r. refl) c Driver.Host w a ∙ sym (sent_word (coro w c) w x a))

call-tells : (w : World) {o : Op} {a : Act} {d : Says.Announced} → act w o ≡ a → Kind w o a d → Answers w o
call-tells w {o} q (k-at {a = a} e (to-suspend (yields pc dst src))) = instr-tells w o (λ b s xs. a) e q (λ v. tt)
call-tells w {o} q (k-at {a = a} e (to-suspend (yields_kv pc dst src key))) = instr-tells w o (λ b s xs. a) e q (λ v. tt)
call-tells w {o} q (k-at {a = a} e (to-suspend (waits pc dst src))) = instr-tells w o (λ b s xs. a) e q (λ v. tt)
call-tells w {o} q (k-at e (to-enter (resumes pc dst c src))) =
    instr-tells w o (λ b s xs. enters (get_or s (b + c) 0) (Driver.Resume dst) (gets (get_or s (b + src) 0)) true) refl refl (resume-tells pc dst c src)
call-tells w {o} q (k-at e (to-enter (throws pc dst c src))) =
    instr-tells w o (λ b s xs. enters (get_or s (b + c) 0) (Driver.Resume dst) nothing (coro_suspended (coro_in xs (get_or s (b + c) 0)))) refl refl (throw-tells pc dst c src)
call-tells w {o} q (k-at e (to-enter (shuts pc dst c src))) =
    instr-tells w o (λ b s xs. enters (get_or s (b + c) 0) (Driver.Resume dst) (closes (get_or s (b + src) 0)) (coro_suspended (coro_in xs (get_or s (b + c) 0)))) refl refl (close-tells pc dst c src)
call-tells w {o} q (k-at e (to-enter (turns pc has iter val src))) =
    instr-tells w o (λ b s xs. enters (get_or s (b + src) 0) (Driver.Iter has val (get_or s (b + iter) 0)) (gets nil) (not (is_done (object_in xs (get_or s (b + iter) 0))) && not (awaits (coro_in xs (get_or s (b + src) 0)))))
    refl refl (iter-tells pc has iter val src)
call-tells w {o} q (k-at {a = a} e aimless) = instr-tells w o (λ b s xs. a) e q (λ v. tt)
call-tells w q (k-host c x) = host-tells c x w
call-tells w q (k-finish kind x) = tt
call-tells w q (k-raise f pc) = tt
call-tells w {o} q (k-other e) = subst (λ x. Tells w (entry_by x w) (number_of (call o w).answer)) (sym q) tt

new_is : (w : World) (c : ℕ) → new_in (coro w c) ≡ state_is (view_of w) seen_created c
unfolding new_in
new_is w c = go (coro w c)
  where
    go : (x : Coroutine) → new_in x ≡ seen_in (λ y. seen_created y.state) (seen_of x)
    go Absent = refl
    go (Is k r) = sym (new-state k.state)

-- what is sent
what : Option Says.Entry → Sent
what none = nothing
what (some e) = e.sent

-- WHAT AN ENTRY ANSWERS
pub entry-answers : (c : ℕ) (w : World) (k : Call) → D.Enters steps c w k → (b : By (view_of w) (model_op k) c) → number_of (step w k).answer ≡ entry_number (state_is (view_of w) seen_created c) b.sent
unfolding what entry-by
entry-answers c w (SetUp s) h b = no-entry refl (entering c w (SetUp s) (enters-old c w (SetUp s) h)).by
entry-answers c w (Do o) h b =
    let t = entering c w (Do o) (enters-old c w (Do o) h) in
    let it : entry_by (act w o.op) w ≡ entry c t.driver t.sent = sym (entry-sound w o t.healthy) ∙ t.by in
    let n : number_of (call o.op w).answer ≡ entry_number (new_in (coro w c)) t.sent = subst (λ e. Tells w e (number_of (call o.op w).answer)) it (call-tells w refl (kind-of w o.op)) in
    ap number_of (number-sound w o t.healthy) ∙ n ∙ (λ i. entry_number (new_is w c i) (same t i))
  where
    same : (t : Entering c w (Do o) (step w (Do o)).world) → t.sent ≡ b.sent
    same t = sym (ap what (entry-by c w (Do o) (step w (Do o)).world t).says) ∙ ap what b.says
