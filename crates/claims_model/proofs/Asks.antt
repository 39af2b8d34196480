-- The asking calls: when they are answered 0, and what they write. Assumes nothing.
use Prim.Native.Nat.{ℕ}
use native.Mathlib.Omega.{arith}
use mathlib.Core.Path.{◌≡◌, refl, sym, ap, ◌∙◌, subst}
use mathlib.Core.Bool.{Bool, true, false}
use mathlib.Core.List.{List, [], ◌∷◌}
use mathlib.Core.Option.{some}
use Rattle.lists.specs.Pick.{pick}
use Rattle.heap.specs.Word.{class_of}
use Rattle.heap.specs.Object.{code_of}
use Rattle.heap.specs.declared.fault.Fault.{Fault}
use Rattle.heap.specs.declared.object.CoroState.{CoroState}
use Rattle.model.specs.State.{is_returned}
use Rattle.model.specs.Object.{Rest, Coroutine, Absent, Is}
use Rattle.model.specs.World.{World, After}
use Rattle.model.specs.Frames.{reg, put_at}
use Rattle.model.specs.Heap.{place, coro, not_a}
use Rattle.model.specs.Coro.{state_as}
use Rattle.model.specs.Exec as Exec
use Rattle.model.specs.Exec.{fault, status_of, coro_status, coro_current, key_of, coro_key, result_in, coro_result}
use Rattle.model.specs.Answer.{step_number, number_of}
use Rattle.model.specs.Gate.{instruction}
use Rattle.model.specs.Sound.{sound}
use Rattle.model.specs.Call.{Call}
use Rattle.model.specs.Step.{call}
use Rattle.model.specs.declared.machine.Active.{Active}
use Rattle.model.specs.declared.exec.Step.{Step}
use Rattle.model.specs.declared.call.Op.{Op}
use Rattle.claims_model.specs.Engine.{code, seen_returned, seen_in, state_is}
use Rattle.claims_model.specs.Says.{register_word, lie}
use Rattle.claims_model.specs.Held.{into}
use Rattle.claims_model.specs.Delivery.{recorded}
use Rattle.claims_model.specs.Events.{inmost}
use Rattle.claims_model.specs.Asks.{Admits, Exact, code_in, or_nil, Asks}
use Rattle.claims_model.specs.Steps.{seen_of, view_of, model_op, steps}
use Rattle.claims_model.proofs.Cores.{no_both, coro_in}
use Rattle.claims_model.proofs.Instr.{Alike}
use Rattle.claims_model.proofs.Views.{ended-state, base-top}
use Rattle.claims_model.proofs.Whom.{is_none}
use Rattle.claims_model.proofs.Numbers.{step-number}
use Rattle.claims_model.proofs.Paid.{paid_for, paid-number, zero-went, for-paid}
use Rattle.claims_model.proofs.Exact.{healthy-sound, at-step, sound-healthy}
use Rattle.claims_model.proofs.Resumed.{absent-number, zero-not}
use Rattle.claims_model.proofs.Undone.{reg-alike, word-reg}
use Rattle.claims_model.proofs.Touches.{stepped}
use Rattle.claims_model.proofs.Named.{instr-zero, tested-zero, put-alike}

code_same : (s : CoroState) → code_of s ≡ code s
code_same CoroState.Created = refl
code_same CoroState.Running = refl
code_same CoroState.Yielded = refl
code_same CoroState.Awaiting = refl
code_same CoroState.Returned = refl
code_same CoroState.Failed = refl

-- ---- the arms

status-put : (dst r : ℕ) (v : World) → step_number (coro_status dst r v).answer ≡ 0 → (coro_status dst r v).world.stack ≡ put_at v.frames dst (code_in (seen_of (coro v (reg v r)))) v.stack
unfolding coro_status
status-put dst r v = go (coro v (reg v r))
  where
    go : (y : Coroutine) → let o = status_of (state_as y (not_a v (reg v r))) dst v in step_number o.answer ≡ 0 → o.world.stack ≡ put_at v.frames dst (code_in (seen_of y)) v.stack
    go Absent h = absurd (absent-number 0 zero-not (class_of (reg v r)) (place v (reg v r)) h)
    go (Is k s) h = ap (λ x. put_at v.frames dst x v.stack) (code_same k.state)

result-put : (dst r : ℕ) (v : World) → step_number (coro_result dst r v).answer ≡ 0 → (coro_result dst r v).world.stack ≡ put_at v.frames dst (recorded (seen_of (coro v (reg v r)))) v.stack
unfolding coro_result pick
result-put dst r v = go (coro v (reg v r))
  where
    test : (s : Rest) (b : Bool) → let o = pick b (Exec.put dst s.result v) (fault v Fault.InvalidCoroState) in step_number o.answer ≡ 0 → o.world.stack ≡ put_at v.frames dst s.result v.stack
    test s true h = refl
    test s false h = absurd (omega (arith, h))

    go : (y : Coroutine) → let o = result_in y (not_a v (reg v r)) dst v in step_number o.answer ≡ 0 → o.world.stack ≡ put_at v.frames dst (recorded (seen_of y)) v.stack
    go Absent h = absurd (absent-number 0 zero-not (class_of (reg v r)) (place v (reg v r)) h)
    go (Is k s) h = test s (is_returned k.state) h

current-is : (chain : List Active) → Exec.current chain ≡ or_nil (inmost chain)
current-is [] = refl
current-is (a ∷ chain) = refl

-- they are told 0 exactly if there is somebody, or somebody that has returned

abbrev Both : Type 0 → Type 0 → Type 0
Both A B = (A → B) × (B → A)

status-told : (dst r : ℕ) (v : World) → Both (step_number (coro_status dst r v).answer ≡ 0) (seen_in (λ x. true) (seen_of (coro v (reg v r))) ≡ true)
unfolding coro_status
status-told dst r v = go (coro v (reg v r))
  where
    go : (y : Coroutine) → Both (step_number (status_of (state_as y (not_a v (reg v r))) dst v).answer ≡ 0) (seen_in (λ x. true) (seen_of y) ≡ true)
    go Absent = (λ h. absurd (absent-number 0 zero-not (class_of (reg v r)) (place v (reg v r)) h), λ h. no_both h refl)
    go (Is k s) = (λ h. refl, λ h. refl)

key-told : (dst r : ℕ) (v : World) → Both (step_number (coro_key dst r v).answer ≡ 0) (seen_in (λ x. true) (seen_of (coro v (reg v r))) ≡ true)
unfolding coro_key
key-told dst r v = go (coro v (reg v r))
  where
    go : (y : Coroutine) → Both (step_number (key_of y (not_a v (reg v r)) dst v).answer ≡ 0) (seen_in (λ x. true) (seen_of y) ≡ true)
    go Absent = (λ h. absurd (absent-number 0 zero-not (class_of (reg v r)) (place v (reg v r)) h), λ h. no_both h refl)
    go (Is k s) = (λ h. refl, λ h. refl)

result-told : (dst r : ℕ) (v : World) → Both (step_number (coro_result dst r v).answer ≡ 0) (seen_in (λ x. seen_returned x.state) (seen_of (coro v (reg v r))) ≡ true)
unfolding coro_result pick
result-told dst r v = go (coro v (reg v r))
  where
    test : (s : Rest) (b : Bool) → Both (step_number (pick b (Exec.put dst s.result v) (fault v Fault.InvalidCoroState)).answer ≡ 0) (b ≡ true)
    test s true = (λ h. refl, λ h. refl)
    test s false = (λ h. absurd (omega (arith, h)), λ h. no_both h refl)

    go : (y : Coroutine) → Both (step_number (result_in y (not_a v (reg v r)) dst v).answer ≡ 0) (seen_in (λ x. seen_returned x.state) (seen_of y) ≡ true)
    go Absent = (λ h. absurd (absent-number 0 zero-not (class_of (reg v r)) (place v (reg v r)) h), λ h. no_both h refl)
    go (Is k s) = subst (λ b. Both (step_number (result_in (Is k s) (not_a v (reg v r)) dst v).answer ≡ 0) (b ≡ true)) (sym (ended-state k.state)) (test s (is_returned k.state))

-- ---- and so are the calls

-- an instruction whose arm is told 0 exactly if t holds
exact-instr : (w : World) → sound w ≡ true → (pc : ℕ) (ok : Bool) (arm : World → After Step) (rs : List ℕ) (t : Bool) → lie (view_of w) rs ≡ ok → ((v : World) → Alike pc w v → Both (step_number (arm v).answer ≡ 0) (t ≡ true))
    → Both (number_of (instruction pc ok arm w).answer ≡ 0) (Admits steps w rs t)
exact-instr w h pc ok arm rs t l told = (only, then)
  where
    only : number_of (instruction pc ok arm w).answer ≡ 0 → Admits steps w rs t
    only n =
        let g = zero-went w pc ok arm n in
        let p = g.paid in
        record {
          pays = record { healthy = sound-healthy w h; stands = is_none w.frames ∙ g.stands; paid = for-paid w h pc p };
          lies = l ∙ g.within;
          passes = (told p.left p.alike).0 g.number;
        }

    then : Admits steps w rs t → number_of (instruction pc ok arm w).answer ≡ 0
    then a =
        let p = paid_for w h pc (a.pays.paid pc) in
        ap number_of (paid-number w pc p ok arm (sym (is_none w.frames) ∙ a.pays.stands) (sym l ∙ a.lies)) ∙ step-number p.words (arm p.left).answer ∙ (told p.left p.alike).1 a.passes

-- a call of such an instruction
exact-call : (o : Op) (rs : List ℕ) (t : World → Bool) → ((w : World) → sound w ≡ true → Both (number_of (call o w).answer ≡ 0) (Admits steps w rs (t w))) → (w : World) (k : Call) → model_op k ≡ some o → Exact steps w k rs (t w)
exact-call o rs t f w k e = (
  stepped (λ w z. Admits steps w rs (t w)) o (λ w. tested-zero w o (λ z. Admits steps w rs (t w)) (λ h. (f w h).0)) w k e,
  λ a. let h = healthy-sound w a.pays.healthy in at-step w h k o e ((f w h).1 a),
)

-- whom a register names
abbrev Whom : (CoroState → Bool) → ℕ → World → Bool
Whom p r w = state_is (view_of w) p (register_word (view_of w) r)

whom-alike : {pc : ℕ} {w v : World} → Alike pc w v → (p : CoroState → Bool) (r : ℕ) → seen_in (λ x. p x.state) (seen_of (coro v (reg v r))) ≡ Whom p r w
whom-alike {w = w} a p r = λ i. seen_in (λ x. p x.state) (seen_of (coro_in (a.slots i) ((reg-alike a r ∙ sym (word-reg w r)) i)))

exact-status : (pc dst r : ℕ) (w : World) → sound w ≡ true → Both (number_of (call (Op.CoroStatus pc dst r) w).answer ≡ 0) (Admits steps w (dst ∷ r ∷ []) (Whom (λ x. true) r w))
unfolding call
exact-status pc dst r w h =
    exact-instr w h pc _ (coro_status dst r) (dst ∷ r ∷ []) (Whom (λ x. true) r w) (rw (base-top w.frames) refl)
    (λ v a. subst (λ b. Both (step_number (coro_status dst r v).answer ≡ 0) (b ≡ true)) (whom-alike a (λ x. true) r) (status-told dst r v))

exact_key : (pc dst r : ℕ) (w : World) → sound w ≡ true → Both (number_of (call (Op.CoroKey pc dst r) w).answer ≡ 0) (Admits steps w (dst ∷ r ∷ []) (Whom (λ x. true) r w))
unfolding call
exact_key pc dst r w h =
    exact-instr w h pc _ (coro_key dst r) (dst ∷ r ∷ []) (Whom (λ x. true) r w) (rw (base-top w.frames) refl)
    (λ v a. subst (λ b. Both (step_number (coro_key dst r v).answer ≡ 0) (b ≡ true)) (whom-alike a (λ x. true) r) (key-told dst r v))

exact-result : (pc dst r : ℕ) (w : World) → sound w ≡ true → Both (number_of (call (Op.CoroResult pc dst r) w).answer ≡ 0) (Admits steps w (dst ∷ r ∷ []) (Whom seen_returned r w))
unfolding call
exact-result pc dst r w h =
    exact-instr w h pc _ (coro_result dst r) (dst ∷ r ∷ []) (Whom seen_returned r w) (rw (base-top w.frames) refl)
    (λ v a. subst (λ b. Both (step_number (coro_result dst r v).answer ≡ 0) (b ≡ true)) (whom-alike a seen_returned r) (result-told dst r v))

exact-current : (pc dst : ℕ) (w : World) → sound w ≡ true → Both (number_of (call (Op.CoroCurrent pc dst) w).answer ≡ 0) (Admits steps w (dst ∷ []) true)
unfolding call coro_current
exact-current pc dst w h = exact-instr w h pc _ (coro_current dst) (dst ∷ []) true (rw (base-top w.frames) refl) (λ v a. (λ n. refl, λ n. refl))

-- ---- what they write

abbrev StatusIn : ℕ → ℕ → World → World → Type 0
StatusIn dst r w z = z.stack ≡ into w.frames dst (code_in ((view_of w).coro (register_word (view_of w) r))) w.stack

abbrev ResultIn : ℕ → ℕ → World → World → Type 0
ResultIn dst r w z = z.stack ≡ into w.frames dst (recorded ((view_of w).coro (register_word (view_of w) r))) w.stack

abbrev CurrentIn : ℕ → World → World → Type 0
CurrentIn dst w z = z.stack ≡ into w.frames dst (or_nil (inmost w.chain)) w.stack

status-by : (pc dst r : ℕ) (w : World) → number_of (call (Op.CoroStatus pc dst r) w).answer ≡ 0 → StatusIn dst r w (call (Op.CoroStatus pc dst r) w).world
unfolding call
status-by pc dst r w =
    instr-zero w pc _ (coro_status dst r) (StatusIn dst r w)
    (λ v a h. status-put dst r v h ∙ put-alike a dst (code_in (seen_of (coro v (reg v r)))) ∙ (λ i. into w.frames dst (code_in (seen_of (coro_in (a.slots i) ((reg-alike a r ∙ sym (word-reg w r)) i)))) w.stack))

result_by : (pc dst r : ℕ) (w : World) → number_of (call (Op.CoroResult pc dst r) w).answer ≡ 0 → ResultIn dst r w (call (Op.CoroResult pc dst r) w).world
unfolding call
result_by pc dst r w =
    instr-zero w pc _ (coro_result dst r) (ResultIn dst r w)
    (λ v a h. result-put dst r v h ∙ put-alike a dst (recorded (seen_of (coro v (reg v r)))) ∙ (λ i. into w.frames dst (recorded (seen_of (coro_in (a.slots i) ((reg-alike a r ∙ sym (word-reg w r)) i)))) w.stack))

current-by : (pc dst : ℕ) (w : World) → number_of (call (Op.CoroCurrent pc dst) w).answer ≡ 0 → CurrentIn dst w (call (Op.CoroCurrent pc dst) w).world
unfolding call coro_current
current-by pc dst w =
    instr-zero w pc _ (coro_current dst) (CurrentIn dst w)
    (λ v a h. put-alike a dst (Exec.current v.chain) ∙ ap (λ x. into w.frames dst x w.stack) (ap Exec.current a.chain ∙ current-is w.chain))

-- WHAT IS ASKED
pub asks : Asks steps
asks =
    record {
      status-if = λ w k pc dst r. exact-call (Op.CoroStatus pc dst r) (dst ∷ r ∷ []) (Whom (λ x. true) r) (exact-status pc dst r) w k;
      current-if = λ w k pc dst. exact-call (Op.CoroCurrent pc dst) (dst ∷ []) (λ w. true) (exact-current pc dst) w k;
      key-if = λ w k pc dst r. exact-call (Op.CoroKey pc dst r) (dst ∷ r ∷ []) (Whom (λ x. true) r) (exact_key pc dst r) w k;
      result-if = λ w k pc dst r. exact-call (Op.CoroResult pc dst r) (dst ∷ r ∷ []) (Whom seen_returned r) (exact-result pc dst r) w k;
      status = λ w k pc dst r. stepped (StatusIn dst r) (Op.CoroStatus pc dst r) (λ w. tested-zero w (Op.CoroStatus pc dst r) (StatusIn dst r w) (λ h. status-by pc dst r w)) w k;
      current = λ w k pc dst. stepped (CurrentIn dst) (Op.CoroCurrent pc dst) (λ w. tested-zero w (Op.CoroCurrent pc dst) (CurrentIn dst w) (λ h. current-by pc dst w)) w k;
      result = λ w k pc dst r. stepped (ResultIn dst r) (Op.CoroResult pc dst r) (λ w. tested-zero w (Op.CoroResult pc dst r) (ResultIn dst r w) (λ h. result_by pc dst r w)) w k;
    }
