-- A Resume, a host entry, or a turn of a loop that goes on, that is answered 0 has entered whom it names.
use Prim.Native.Nat.{ℕ, ◌+◌}
use native.Mathlib.Omega.{arith}
use mathlib.Core.Path.{◌≡◌, refl, sym, ap, ◌∙◌, subst}
use mathlib.Core.Bool.{Bool, true, false, not, ◌&&◌, ◌||◌}
use mathlib.Core.List.{List}
use mathlib.Core.Option.{some}
use lib.ListN.{get_or}
use lib.Dec.{ltb, leb}
use Rattle.lists.specs.Pick.{pick}
use Rattle.heap.specs.Fault as Faults
use Rattle.heap.specs.Word.{nil, class_of}
use Rattle.heap.specs.Table as Table
use Rattle.heap.specs.Table.{Slot}
use Rattle.heap.specs.declared.fault.Fault.{Fault}
use Rattle.heap.specs.declared.object.CoroState.{CoroState}
use Rattle.heap.specs.declared.value.Class.{Class}
use Rattle.std.specs.Prelude.{Option, Result, Some, None, Ok, Err}
use Rattle.model.specs.declared.coro.Entered.{Entered}
use Rattle.model.specs.Lists.{is_nil}
use Rattle.model.specs.State.{is_created, is_resumable, is_awaiting, is_returned}
use Rattle.model.specs.Object.{Object, Coroutine, Absent, Is, is_done}
use Rattle.model.specs.World.{World, After, after, and_then}
use Rattle.model.specs.Frames.{top_base, reg, store_pc}
use Rattle.model.specs.Heap.{object, coro, not_a, place, set_done}
use Rattle.model.specs.Coro.{state_as, entered, overflows, enter_as, coro_enter}
use Rattle.model.specs.Cleanup.{charge}
use Rattle.model.specs.Exec as Exec
use Rattle.model.specs.Exec.{fault, arrive, resume, iter_on, iter_next}
use Rattle.model.specs.Gate as Gate
use Rattle.model.specs.Gate.{refused, instruction, on_host}
use Rattle.model.specs.Added.{host_arrive, host_entry}
use Rattle.model.specs.Sound.{sound}
use Rattle.model.specs.Answer.{step_number, number_of}
use Rattle.model.specs.Call.{Call, SetUp, Do, Operation}
use Rattle.model.specs.Step as M
use Rattle.model.specs.Step.{call, tested, step}
use Rattle.model.specs.declared.machine.Driver.{Driver}
use Rattle.model.specs.declared.machine.Charge.{Charge}
use Rattle.model.specs.declared.exec.Step.{Step}
use Rattle.model.specs.declared.call.Op.{Op}
use Rattle.claims_model.specs.Engine.{seen_returned, seen_in, state_is}
use Rattle.claims_model.specs.Says.{register_word, Sent, gets}
use Rattle.claims_model.specs.Demand3 as D
use Rattle.claims_model.specs.Steps.{seen_of, view_of, model_op, steps}
use Rattle.claims_model.proofs.Entry as E
use Rattle.claims_model.proofs.Entry.{act, accepts_as, accepts, aimed, sent_to, entry_by}
use Rattle.claims_model.proofs.Split.{next}
use Rattle.claims_model.proofs.Cores.{no_both, coro_in, object_in}
use Rattle.claims_model.proofs.Enters.{accepts-stored, ChargeCase, c-done, c-spent, c-close, charge-case}
use Rattle.claims_model.proofs.Instr.{Alike, alike, aimed-alike}
use Rattle.claims_model.proofs.Claim.{entry-sound}
use Rattle.claims_model.proofs.Acceptance.{named-enters}
use Rattle.claims_model.proofs.Views.{is-runs, base-top}
use Rattle.claims_model.proofs.Numbers.{step-number}
use Rattle.claims_model.proofs.Exact.{number-sound, some-op}

-- ---- coro_enter refuses by 1 to 4: where its tail answers another number, it accepts

module _ (n : ℕ) (no : (x : ℕ) → ltb 0 x ≡ true → leb x 4 ≡ true → x ≡ n → ⊥) where
  pub absent-number : (c : Class) (p : Option ℕ) → Faults.number_of (Table.not_a c p) ≡ n → ⊥
  absent-number Class.Nil p h = no 1 refl refl h
  absent-number (Class.Ref o) None h = no 1 refl refl h
  absent-number (Class.Ref o) (Some i) h = no 2 refl refl h
  absent-number (Class.Int z) p h = no 2 refl refl h
  absent-number Class.Opaque p h = no 2 refl refl h

  module _ {A : Type 0} (num : A → ℕ) (f : World → Result Entered Fault → After A) (out : (w : World) (g : Fault) → num (f w (Err g)).answer ≡ Faults.number_of g) where
    pub accepted-by : (c : ℕ) (d : Driver) (u : World) → num (and_then (coro_enter c d u) f).answer ≡ n → accepts u c ≡ true
    unfolding coro_enter pick
    accepted-by c d u h = go (coro u c) h
      where
        go : (x : Coroutine) → num (and_then (enter_as x c d u) f).answer ≡ n → accepts_as x u ≡ true
        go Absent q = absurd (absent-number (class_of c) (place u c) (sym (out u (not_a u c)) ∙ q))
        go (Is k r) q = tests (is_resumable k.state) (is_nil k.frames) (overflows k u) q
          where
            tests : (a b o : Bool)
                → num (and_then (pick (not a || b) (after u (Err Fault.InvalidCoroState)) (pick o (after u (Err Fault.StackOverflow)) (after (entered c d k r u) (pick (is_created k.state) (Ok Entered.Fresh) (Ok (Entered.Suspended k.waiting)))))) f).answer ≡ n
                → (a && not b && not o) ≡ true
            tests false b o q = absurd (no 3 refl refl (sym (out u Fault.InvalidCoroState) ∙ q))
            tests true true o q = absurd (no 3 refl refl (sym (out u Fault.InvalidCoroState) ∙ q))
            tests true false true q = absurd (no 4 refl refl (sym (out u Fault.StackOverflow) ∙ q))
            tests true false false q = refl

pub zero-not : (x : ℕ) → ltb 0 x ≡ true → leb x 4 ≡ true → x ≡ 0 → ⊥
zero-not x a b e = no_both a (ap (ltb 0) e)

-- c is entered
record Own (c : ℕ) (e : E.Entry) : Type 0 where
  driver : Driver
  sent : Sent
  is : e ≡ E.entry c driver sent

aimed-in : (c : ℕ) (d : Driver) (x : Sent) (may : Bool) (w : World) → may ≡ true → accepts w c ≡ true → Own c (aimed (E.enters c d x may) w)
unfolding pick
aimed-in c d x may w m a = record { driver = d; sent = sent_to (coro w c) x; is = (λ i. pick (m i && a i) (E.entry c d (sent_to (coro w c) x)) E.nobody) }

pub stored : (p : ℕ) (v : World) (c : ℕ) → accepts (store_pc p v) c ≡ true → accepts v c ≡ true
stored p v c a = sym (accepts-stored {p = p} {w = v} {u = store_pc p v} (record { setup = refl; stack = refl; frames = refl; chain = refl; slots = refl; used = refl }) c) ∙ a

-- ---- an instruction

instr-own : (w : World) (c : ℕ) (o : Op) (p : ℕ) (ok : Bool) (F : ℕ → List ℕ → List (Slot Object) → E.Aim) (arm : World → After Step) → act w o ≡ E.at p ok (F (top_base w.frames) w.stack w.slots)
    → ((v : World) → Alike p w v → step_number (arm v).answer ≡ 0 → Own c (aimed (F (top_base v.frames) v.stack v.slots) v))
    → number_of (instruction p ok arm w).answer ≡ 0 → Own c (entry_by (act w o) w)
unfolding instruction pick
instr-own w c o p ok F arm e owes h = subst (λ x. Own c (entry_by x w)) (sym e) (gate (is_nil w.frames) ok h)
  where
    aim : World → E.Aim
    aim u = F (top_base u.frames) u.stack u.slots

    paid : (ch : After Charge) → ChargeCase p w ch → number_of (Gate.charged arm ch.world ch.answer).answer ≡ 0 → Own c (E.charged ch.answer w (aimed (aim w) w))
    paid ch (c-done n v r) h =
        let a = alike r in
        subst (Own c) ((λ i. aimed (F (a.base i) (a.stack i) (a.slots i)) v) ∙ aimed-alike a (aim w)) (owes v a (sym (step-number n (arm v).answer) ∙ h))
    paid ch (c-spent v r) h = absurd (omega (arith, h))
    paid ch (c-close n u z x t) h = absurd (omega (arith, h))

    gate : (a b : Bool) → number_of (pick a (refused w Fault.NoFrame) (pick (not b) (refused w Fault.BadOperand) (and_then (charge (Some p) w) (Gate.charged arm)))).answer ≡ 0
        → Own c (pick a E.nobody (pick (not b) E.nobody (E.charged (charge (Some p) w).answer w (aimed (aim w) w))))
    gate true b h = absurd (omega (arith, h))
    gate false false h = absurd (omega (arith, h))
    gate false true h = paid (charge (Some p) w) (charge-case p w) h

reg-alike : {p : ℕ} {w v : World} → Alike p w v → (q : ℕ) → reg v q ≡ reg w q
reg-alike a q = λ i. get_or (a.stack i) (a.base i + q) 0

-- ---- the calls

resume-by : (w : World) (pc dst q src : ℕ) → number_of (call (Op.Resume pc dst q src) w).answer ≡ 0 → Own (reg w q) (entry_by (act w (Op.Resume pc dst q src)) w)
unfolding call resume
resume-by w pc dst q src =
    instr-own w (reg w q) (Op.Resume pc dst q src) pc _ (λ b s xs. E.enters (get_or s (b + q) 0) (Driver.Resume dst) (gets (get_or s (b + src) 0)) true) (resume pc dst q src) refl
    (λ v a h.
    subst (λ c. Own c (aimed (E.enters (reg v q) (Driver.Resume dst) (gets (reg v src)) true) v)) (reg-alike a q)
    (aimed-in (reg v q) (Driver.Resume dst) (gets (reg v src)) true v refl (stored pc v (reg v q) (accepted-by 0 zero-not step_number (arrive (reg v src)) (λ u g. refl) (reg v q) (Driver.Resume dst) (store_pc pc v) h))))

returned_in : Coroutine → Bool
returned_in Absent = false
returned_in (Is k r) = is_returned k.state

-- a turn of a loop that is not done, over one that has not returned
iter-in : (p has iter val src : ℕ) (v : World) → is_done (object v (reg v iter)) ≡ false → returned_in (coro v (reg v src)) ≡ false → step_number (iter_next p has iter val src v).answer ≡ 0
    → Own (reg v src) (aimed (E.enters (reg v src) (Driver.Iter has val (reg v iter)) (gets nil) (not (is_done (object v (reg v iter))) && not (E.awaits (coro v (reg v src))))) v)
unfolding iter_next returned_in pick
iter-in p has iter val src v d r h = let t = go (coro v n) refl r h in aimed-in n (Driver.Iter has val x) (gets nil) _ v (λ i. not (d i) && not (t.0 i)) t.1
  where
    n : ℕ
    n = reg v src

    x : ℕ
    x = reg v iter

    tests : (a b c : Bool) → a ≡ false → b ≡ false → step_number (pick (a || b) (Exec.put has 0 (set_done x v)) (pick c (fault v Fault.TypeError) (and_then (coro_enter n (Driver.Iter has val x) (store_pc p v)) (arrive nil)))).answer ≡ 0
        → (c ≡ false) × (accepts v n ≡ true)
    tests true b c e f h = no_both refl e
    tests false true c e f h = no_both refl f
    tests false false true e f h = absurd (omega (arith, h))
    tests false false false e f h = (refl, stored p v n (accepted-by 0 zero-not step_number (arrive nil) (λ u g. refl) n (Driver.Iter has val x) (store_pc p v) h))

    go : (y : Coroutine) → coro v n ≡ y → returned_in y ≡ false → step_number (iter_on (state_as y (not_a v n)) p has x val n v).answer ≡ 0 → (E.awaits (coro v n) ≡ false) × (accepts v n ≡ true)
    go Absent e q h = absurd (absent-number 0 zero-not (class_of n) (place v n) h)
    go (Is k r) e q h = let t = tests (is_done (object v x)) (is_returned k.state) (is_awaiting k.state) d q h in (ap E.awaits e ∙ t.0, t.1)

iter-by : (w : World) (pc has iter val src : ℕ) → is_done (object w (reg w iter)) ≡ false → returned_in (coro w (reg w src)) ≡ false → number_of (call (Op.IterNext pc has iter val src) w).answer ≡ 0
    → Own (reg w src) (entry_by (act w (Op.IterNext pc has iter val src)) w)
unfolding call
iter-by w pc has iter val src d r =
    instr-own w (reg w src) (Op.IterNext pc has iter val src) pc _
    (λ b s xs. E.enters (get_or s (b + src) 0) (Driver.Iter has val (get_or s (b + iter) 0)) (gets nil) (not (is_done (object_in xs (get_or s (b + iter) 0))) && not (E.awaits (coro_in xs (get_or s (b + src) 0))))) (iter_next pc has iter val src) refl
    (λ v a h.
    subst (λ c. Own c (aimed (E.enters (reg v src) (Driver.Iter has val (reg v iter)) (gets nil) (not (is_done (object v (reg v iter))) && not (E.awaits (coro v (reg v src))))) v)) (reg-alike a src)
    (iter-in pc has iter val src v ((λ i. is_done (object_in (a.slots i) (reg-alike a iter i))) ∙ d) ((λ i. returned_in (coro_in (a.slots i) (reg-alike a src i))) ∙ r) h))

host-by : (w : World) (c x : ℕ) → number_of (call (Op.HostEntry c x) w).answer ≡ 0 → Own c (entry_by (act w (Op.HostEntry c x)) w)
unfolding call on_host host_entry pick
host-by w c x h = go (is_nil w.frames) h
  where
    go : (b : Bool) → number_of (pick (not b) (refused w Fault.Busy) (and_then (coro_enter c Driver.Host w) (host_arrive x))).answer ≡ 0
        → Own c (pick (not b) E.nobody (aimed (E.enters c Driver.Host (gets x) true) w))
    go false h = absurd (omega (arith, h))
    go true h = aimed-in c Driver.Host (gets x) true w refl (accepted-by 0 zero-not number_of (host_arrive x) (λ u g. refl) c Driver.Host w h)

-- ---- as claimed

-- a call that is not answered 11 is made on a sound machine
pub answered-sound : (n : ℕ) → (11 ≡ n → ⊥) → (w : World) (o : Operation) → number_of (step w (Do o)).answer ≡ n → sound w ≡ true
unfolding step tested pick
answered-sound n other w o h = go (sound w) refl h
  where
    go : (b : Bool) → sound w ≡ b → number_of (pick b (call o.op w) (M.told (refused w Fault.Unsound))).answer ≡ n → sound w ≡ true
    go true e q = e
    go false e q = absurd (other q)

enters-by : (w : World) (k : Call) (p : Op) (c : ℕ) → model_op k ≡ some p → number_of (step w k).answer ≡ 0 → (number_of (call p w).answer ≡ 0 → Own c (entry_by (act w p) w)) → D.Enters steps c w k
enters-by w (SetUp s) p c e h f = let z : ◌≡◌ {A = ℕ} 0 1 = cc in absurd (omega arith)
enters-by w (Do o) p c e h f =
    let y = answered-sound 0 (λ q. omega (arith, q)) w o h in
    let by = subst (λ p. number_of (call p w).answer ≡ 0 → Own c (entry_by (act w p) w)) (sym (some-op e)) f (ap number_of (sym (number-sound w o y)) ∙ h) in
    let t = named-enters w (Do o) c by.driver by.sent (entry-sound w o y ∙ by.is) in
    record { before = is-runs w c ∙ t.before; after = is-runs (next w (Do o)) c ∙ t.after }

word-reg : (w : World) (q : ℕ) → register_word (view_of w) q ≡ reg w q
word-reg w q = ap (λ b. get_or w.stack (b + q) 0) (base-top w.frames)

pub resumed : (w : World) (k : Call) (pc dst q src : ℕ) → model_op k ≡ some (Op.Resume pc dst q src) → number_of (step w k).answer ≡ 0 → D.Enters steps (register_word (view_of w) q) w k
resumed w k pc dst q src e h = subst (λ c. D.Enters steps c w k) (sym (word-reg w q)) (enters-by w k (Op.Resume pc dst q src) (reg w q) e h (resume-by w pc dst q src))

pub hosted : (c : ℕ) (w : World) (k : Call) (x : ℕ) → model_op k ≡ some (Op.HostEntry c x) → number_of (step w k).answer ≡ 0 → D.Enters steps c w k
hosted c w k x e h = enters-by w k (Op.HostEntry c x) c e h (host-by w c x)

returned-is : (w : World) (c : ℕ) → state_is (view_of w) seen_returned c ≡ false → returned_in (coro w c) ≡ false
unfolding returned_in
returned-is w c h = go (coro w c) h
  where
    code : (s : CoroState) → seen_returned s ≡ is_returned s
    code CoroState.Created = refl
    code CoroState.Running = refl
    code CoroState.Yielded = refl
    code CoroState.Awaiting = refl
    code CoroState.Returned = refl
    code CoroState.Failed = refl

    go : (x : Coroutine) → seen_in (λ y. seen_returned y.state) (seen_of x) ≡ false → returned_in x ≡ false
    go Absent q = refl
    go (Is k r) q = sym (code k.state) ∙ q

pub turned : (w : World) (k : Call) (pc has iter val src : ℕ) → model_op k ≡ some (Op.IterNext pc has iter val src) → number_of (step w k).answer ≡ 0
    → (view_of w).done (register_word (view_of w) iter) ≡ false → state_is (view_of w) seen_returned (register_word (view_of w) src) ≡ false → D.Enters steps (register_word (view_of w) src) w k
turned w k pc has iter val src e h d r =
    subst (λ c. D.Enters steps c w k) (sym (word-reg w src))
    (enters-by w k (Op.IterNext pc has iter val src) (reg w src) e h
    (iter-by w pc has iter val src (ap (λ x. is_done (object w x)) (sym (word-reg w iter)) ∙ d) (returned-is w (reg w src) (ap (state_is (view_of w) seen_returned) (sym (word-reg w src)) ∙ r))))
