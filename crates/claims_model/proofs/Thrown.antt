-- A throw into one that has begun, or a close, that is answered 17 has entered somebody.
use Prim.Native.Nat.{ℕ, ◌+◌}
use native.Mathlib.Omega.{arith}
use mathlib.Core.Path.{◌≡◌, refl, sym, ap, ◌∙◌, subst}
use mathlib.Core.Bool.{Bool, true, false, not, ◌&&◌}
use mathlib.Core.List.{List}
use mathlib.Core.Option.{some}
use lib.ListN.{get_or}
use lib.Dec.{ltb, leb}
use Rattle.lists.specs.Pick.{pick}
use Rattle.heap.specs.Word.{class_of}
use Rattle.heap.specs.Table.{Slot}
use Rattle.heap.specs.declared.fault.Fault.{Fault}
use Rattle.heap.specs.declared.object.CoroState.{CoroState}
use Rattle.model.specs.Lists.{is_nil}
use Rattle.model.specs.State.{is_created, is_suspended, is_resumable}
use Rattle.model.specs.Object.{Core, Object, Coroutine, Absent, Is}
use Rattle.model.specs.World.{World, After, and_then}
use Rattle.model.specs.Frames.{top_base, reg, store_pc}
use Rattle.model.specs.Heap.{coro, not_a, place}
use Rattle.model.specs.Coro.{state_as, overflows, coro_enter, finish_coroutine}
use Rattle.model.specs.Cleanup.{coro_suspended, charge}
use Rattle.model.specs.Exec.{fault, throw_entered, throw_to, resume_throw, close_entered, close_in, close_to, coro_close}
use Rattle.model.specs.Gate as Gate
use Rattle.model.specs.Gate.{refused, instruction}
use Rattle.model.specs.Answer.{step_number, number_of}
use Rattle.model.specs.Call.{Call, SetUp, Do}
use Rattle.model.specs.Step.{call, step}
use Rattle.model.specs.declared.machine.Driver.{Driver}
use Rattle.model.specs.declared.machine.Charge.{Charge}
use Rattle.std.specs.Prelude.{Some, Ok}
use Rattle.model.specs.declared.exec.Step.{Step}
use Rattle.model.specs.declared.call.Op.{Op}
use Rattle.claims_model.specs.Engine.{seen_created, seen_in, state_is}
use Rattle.claims_model.specs.Says.{Sent, nothing, closes, register_word}
use Rattle.claims_model.specs.Demand3 as D
use Rattle.claims_model.specs.Steps.{seen_of, view_of, model_op, steps}
use Rattle.claims_model.proofs.Entry as E
use Rattle.claims_model.proofs.Entry.{act, accepts_as, accepts, aimed, sent_to, entry_by}
use Rattle.claims_model.proofs.Split.{next}
use Rattle.claims_model.proofs.Cores.{no_both, coro_in, and_left}
use Rattle.claims_model.proofs.Enters.{ChargeCase, c-done, c-spent, c-close, charge-case}
use Rattle.claims_model.proofs.Instr.{Alike, alike, coro-alike, aimed-alike}
use Rattle.claims_model.proofs.Claim.{entry-sound}
use Rattle.claims_model.proofs.Acceptance.{named-enters}
use Rattle.claims_model.proofs.Views.{is-runs, base-top, new-state}
use Rattle.claims_model.proofs.Numbers.{step-number}
use Rattle.claims_model.proofs.Exact.{number-sound, some-op}
use Rattle.claims_model.proofs.Resumed.{absent-number, accepted-by, stored, answered-sound}

-- somebody is entered
pub record Somebody (e : E.Entry) : Type 0 where
  pub coro : ℕ
  pub driver : Driver
  pub sent : Sent
  pub is : e ≡ E.entry coro driver sent

seventeen-not : (x : ℕ) → ltb 0 x ≡ true → leb x 4 ≡ true → x ≡ 17 → ⊥
seventeen-not x a b e = no_both b (ap (λ y. leb y 4) e)

-- ---- the arms

-- who may be entered, and has begun, is suspended
begun-suspends : (s : CoroState) → is_resumable s ≡ true → is_created s ≡ false → is_suspended s ≡ true
begun-suspends CoroState.Created h n = no_both refl n
begun-suspends CoroState.Running h n = no_both h refl
begun-suspends CoroState.Yielded h n = refl
begun-suspends CoroState.Awaiting h n = refl
begun-suspends CoroState.Returned h n = no_both h refl
begun-suspends CoroState.Failed h n = no_both h refl

new_in : Coroutine → Bool
new_in Absent = false
new_in (Is k r) = is_created k.state

accepts-suspended : (y : Coroutine) (v : World) → accepts_as y v ≡ true → new_in y ≡ false → coro_suspended y ≡ true
unfolding new_in
accepts-suspended Absent v a n = no_both a refl
accepts-suspended (Is k r) v a n = begun-suspends k.state (and_left (is_resumable k.state) (not (is_nil k.frames)) (and_left (is_resumable k.state && not (is_nil k.frames)) (not (overflows k v)) a)) n

aimed-in : (c : ℕ) (d : Driver) (x : Sent) (v : World) → new_in (coro v c) ≡ false → accepts v c ≡ true → Somebody (aimed (E.enters c d x (coro_suspended (coro v c))) v)
unfolding pick
aimed-in c d x v n a =
    record { coro = c; driver = d; sent = sent_to (coro v c) x; is = (λ i. pick (accepts-suspended (coro v c) v a n i && a i) (E.entry c d (sent_to (coro v c) x)) E.nobody) }

throw-in : (p dst q src : ℕ) (v : World) → new_in (coro v (reg v q)) ≡ false → step_number (resume_throw p dst q src v).answer ≡ 17
    → Somebody (aimed (E.enters (reg v q) (Driver.Resume dst) nothing (coro_suspended (coro v (reg v q)))) v)
unfolding resume_throw new_in pick
throw-in p dst q src v n h = aimed-in (reg v q) (Driver.Resume dst) nothing v n (go (coro v (reg v q)) n h)
  where
    x : ℕ
    x = reg v src

    test : (b : Bool) → b ≡ false → step_number (pick b (fault (finish_coroutine (reg v q) CoroState.Failed x v) (Fault.Throw x)) (and_then (coro_enter (reg v q) (Driver.Resume dst) (store_pc p v)) (throw_entered x))).answer ≡ 17 → accepts v (reg v q) ≡ true
    test true e h = no_both refl e
    test false e h = stored p v (reg v q) (accepted-by 17 seventeen-not step_number (throw_entered x) (λ u g. refl) (reg v q) (Driver.Resume dst) (store_pc p v) h)

    go : (y : Coroutine) → new_in y ≡ false → step_number (throw_to (state_as y (not_a v (reg v q))) p dst (reg v q) x v).answer ≡ 17 → accepts v (reg v q) ≡ true
    go Absent n h = absurd (absent-number 17 seventeen-not (class_of (reg v q)) (place v (reg v q)) h)
    go (Is k r) n h = test (is_created k.state) n h

close-in : (p dst q src : ℕ) (v : World) → step_number (coro_close p dst q src v).answer ≡ 17
    → Somebody (aimed (E.enters (reg v q) (Driver.Resume dst) (closes (reg v src)) (coro_suspended (coro v (reg v q)))) v)
unfolding coro_close new_in
close-in p dst q src v h = let t = go (coro v (reg v q)) h in aimed-in (reg v q) (Driver.Resume dst) (closes (reg v src)) v t.0 t.1
  where
    x : ℕ
    x = reg v src

    goes : step_number (close_in p dst (reg v q) x v).answer ≡ 17 → accepts v (reg v q) ≡ true
    goes h = stored p v (reg v q) (accepted-by 17 seventeen-not step_number (close_entered (reg v q) x) (λ u g. refl) (reg v q) (Driver.Resume dst) (store_pc p v) h)

    states : (s : CoroState) → step_number (close_to (Ok s) p dst (reg v q) x v).answer ≡ 17 → (is_created s ≡ false) × (accepts v (reg v q) ≡ true)
    states CoroState.Created h = absurd (omega (arith, h))
    states CoroState.Running h = absurd (omega (arith, h))
    states CoroState.Yielded h = (refl, goes h)
    states CoroState.Awaiting h = (refl, goes h)
    states CoroState.Returned h = absurd (omega (arith, h))
    states CoroState.Failed h = absurd (omega (arith, h))

    go : (y : Coroutine) → step_number (close_to (state_as y (not_a v (reg v q))) p dst (reg v q) x v).answer ≡ 17 → (new_in y ≡ false) × (accepts v (reg v q) ≡ true)
    go Absent h = absurd (absent-number 17 seventeen-not (class_of (reg v q)) (place v (reg v q)) h)
    go (Is k r) h = states k.state h

-- ---- the instruction; a cleanup's start enters somebody

instr-some : (w : World) (o : Op) (p : ℕ) (ok : Bool) (F : ℕ → List ℕ → List (Slot Object) → E.Aim) (arm : World → After Step) → act w o ≡ E.at p ok (F (top_base w.frames) w.stack w.slots)
    → ((v : World) → Alike p w v → step_number (arm v).answer ≡ 17 → Somebody (aimed (F (top_base v.frames) v.stack v.slots) v))
    → number_of (instruction p ok arm w).answer ≡ 17 → Somebody (entry_by (act w o) w)
unfolding instruction pick
instr-some w o p ok F arm e owes h = subst (λ x. Somebody (entry_by x w)) (sym e) (gate (is_nil w.frames) ok h)
  where
    aim : World → E.Aim
    aim u = F (top_base u.frames) u.stack u.slots

    paid : (ch : After Charge) → ChargeCase p w ch → number_of (Gate.charged arm ch.world ch.answer).answer ≡ 17 → Somebody (E.charged ch.answer w (aimed (aim w) w))
    paid ch (c-done n v r) h =
        let a = alike r in
        subst Somebody ((λ i. aimed (F (a.base i) (a.stack i) (a.slots i)) v) ∙ aimed-alike a (aim w)) (owes v a (sym (step-number n (arm v).answer) ∙ h))
    paid ch (c-spent v r) h = absurd (omega (arith, h))
    paid ch (c-close n c z x t) h = record { coro = c; driver = Driver.Finalize; sent = closes 0; is = x }

    gate : (a b : Bool) → number_of (pick a (refused w Fault.NoFrame) (pick (not b) (refused w Fault.BadOperand) (and_then (charge (Some p) w) (Gate.charged arm)))).answer ≡ 17
        → Somebody (pick a E.nobody (pick (not b) E.nobody (E.charged (charge (Some p) w).answer w (aimed (aim w) w))))
    gate true b h = absurd (omega (arith, h))
    gate false false h = absurd (omega (arith, h))
    gate false true h = paid (charge (Some p) w) (charge-case p w) h

throw-some : (w : World) (pc dst q src : ℕ) → new_in (coro w (reg w q)) ≡ false → number_of (call (Op.ResumeThrow pc dst q src) w).answer ≡ 17 → Somebody (entry_by (act w (Op.ResumeThrow pc dst q src)) w)
unfolding call new_in
throw-some w pc dst q src n =
    instr-some w (Op.ResumeThrow pc dst q src) pc _ (λ b s xs. E.enters (get_or s (b + q) 0) (Driver.Resume dst) nothing (coro_suspended (coro_in xs (get_or s (b + q) 0)))) (resume_throw pc dst q src) refl
    (λ v a. throw-in pc dst q src v (ap new_in (coro-alike a (reg v q)) ∙ ((λ i. new_in (coro w (get_or (a.stack i) (a.base i + q) 0))) ∙ n)))

close-some : (w : World) (pc dst q src : ℕ) → number_of (call (Op.CoroClose pc dst q src) w).answer ≡ 17 → Somebody (entry_by (act w (Op.CoroClose pc dst q src)) w)
unfolding call
close-some w pc dst q src =
    instr-some w (Op.CoroClose pc dst q src) pc _ (λ b s xs. E.enters (get_or s (b + q) 0) (Driver.Resume dst) (closes (get_or s (b + src) 0)) (coro_suspended (coro_in xs (get_or s (b + q) 0)))) (coro_close pc dst q src) refl
    (λ v a. close-in pc dst q src v)

-- ---- as claimed

somebody-enters : (w : World) (k : Call) (p : Op) → model_op k ≡ some p → number_of (step w k).answer ≡ 17 → (number_of (call p w).answer ≡ 17 → Somebody (entry_by (act w p) w)) → (c : ℕ) × D.Enters steps c w k
somebody-enters w (SetUp s) p e h f = let z : ◌≡◌ {A = ℕ} 0 1 = cc in absurd (omega arith)
somebody-enters w (Do o) p e h f =
    let y = answered-sound 17 (λ q. omega (arith, q)) w o h in
    let b = subst (λ p. number_of (call p w).answer ≡ 17 → Somebody (entry_by (act w p) w)) (sym (some-op e)) f (ap number_of (sym (number-sound w o y)) ∙ h) in
    let t = named-enters w (Do o) b.coro b.driver b.sent (entry-sound w o y ∙ b.is) in
    (b.coro, record { before = is-runs w b.coro ∙ t.before; after = is-runs (next w (Do o)) b.coro ∙ t.after })

new_is : (w : World) (c : ℕ) → state_is (view_of w) seen_created c ≡ false → new_in (coro w c) ≡ false
unfolding new_in
new_is w c h = go (coro w c) h
  where
    go : (x : Coroutine) → seen_in (λ y. seen_created y.state) (seen_of x) ≡ false → new_in x ≡ false
    go Absent q = refl
    go (Is k r) q = sym (new-state k.state) ∙ q

pub threw : (w : World) (k : Call) (pc dst q src : ℕ) → model_op k ≡ some (Op.ResumeThrow pc dst q src) → number_of (step w k).answer ≡ 17 → state_is (view_of w) seen_created (register_word (view_of w) q) ≡ false → (c : ℕ) × D.Enters steps c w k
threw w k pc dst q src e h n =
    somebody-enters w k (Op.ResumeThrow pc dst q src) e h
    (throw-some w pc dst q src (new_is w (reg w q) (ap (λ b. state_is (view_of w) seen_created (get_or w.stack (b + q) 0)) (sym (base-top w.frames)) ∙ n)))

pub closed_in : (w : World) (k : Call) (pc dst q src : ℕ) → model_op k ≡ some (Op.CoroClose pc dst q src) → number_of (step w k).answer ≡ 17 → (c : ℕ) × D.Enters steps c w k
closed_in w k pc dst q src e h = somebody-enters w k (Op.CoroClose pc dst q src) e h (close-some w pc dst q src)
