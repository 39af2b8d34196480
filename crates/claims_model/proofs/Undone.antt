-- A close, and a throw, of a coroutine that has not begun, and of a word that names none; so who comes has not begun.
use Prim.Native.Nat.{ℕ, ◌+◌}
use native.Mathlib.Omega.{arith}
use native.Mathlib.Decide.{ℕ_discrete}
use mathlib.Core.Logic.{◌⊎◌, inl}
use mathlib.Core.Path.{◌≡◌, refl, sym, ap, ◌∙◌, subst}
use mathlib.Core.Bool.{Bool, true, false, not}
use mathlib.Core.List.{[], ◌∷◌}
use mathlib.Core.Option.{Option, none, some}
use lib.ListN.{get_or}
use lib.Dec.{eqb}
use borrow.Author.Tests.{eq-eqb}
use Rattle.lists.specs.Pick.{pick}
use Rattle.heap.specs.Word.{nil}
use Rattle.heap.specs.declared.fault.Fault.{Fault}
use Rattle.heap.specs.declared.object.CoroState.{CoroState}
use Rattle.model.specs.Lists.{is_nil}
use Rattle.model.specs.State.{is_created}
use Rattle.model.specs.Object.{Core, Rest, Coroutine, Absent, Is}
use Rattle.model.specs.World.{World, After, and_then}
use Rattle.model.specs.Frames.{reg}
use Rattle.model.specs.Heap.{coro, not_a}
use Rattle.model.specs.Coro.{coro_state, state_as}
use Rattle.model.specs.Cleanup.{charge}
use Rattle.model.specs.Gate as Gate
use Rattle.model.specs.Gate.{instruction, refused}
use Rattle.model.specs.Exec.{close_to, coro_close, throw_to, resume_throw}
use Rattle.model.specs.Sound.{sound}
use Rattle.model.specs.Answer.{step_number, number_of}
use Rattle.model.specs.Call.{Call, SetUp, Do}
use Rattle.model.specs.Step as M
use Rattle.model.specs.Step.{call, tested, step}
use Rattle.model.specs.declared.machine.Charge.{Charge}
use Rattle.std.specs.Prelude.{Some, Ok}
use Rattle.model.specs.declared.exec.Step.{Step}
use Rattle.model.specs.declared.call.Op.{Op}
use Rattle.model.specs.declared.call.Answer.{Answer}
use Rattle.claims_model.specs.Engine.{Seen, seen_created, seen_in, state_is}
use Rattle.claims_model.specs.Says.{register_word, lie, Announced, announced_by, whom}
use Rattle.claims_model.specs.Events.{ends_unbegun, ended_as}
use Rattle.claims_model.specs.Asks.{Pays}
use Rattle.claims_model.specs.Steps.{seen_of, view_of, model_op, steps}
use Rattle.claims_model.proofs.Entry as E
use Rattle.claims_model.proofs.Entry.{yields, yields_kv, waits, resumes, throws, shuts, turns, act, entry_by, pc_by}
use Rattle.claims_model.proofs.Held.{Seat, core_in, core_at}
use Rattle.claims_model.proofs.Split.{next}
use Rattle.claims_model.proofs.Cores.{no_both}
use Rattle.claims_model.proofs.Ended.{there-seen}
use Rattle.claims_model.proofs.Enters.{ChargeCase, c-done, c-spent, c-close, charge-case}
use Rattle.claims_model.proofs.Instr.{Alike, alike, coro-alike}
use Rattle.claims_model.proofs.Events.{no-entry}
use Rattle.claims_model.proofs.Views.{new-state, seen_at, base-top, to-suspend, to-enter, aimless, Kind, k-at, k-host, k-finish, k-raise, k-other, kind-of}
use Rattle.claims_model.proofs.Whom.{told, is_none, whom-told}
use Rattle.claims_model.proofs.Paid.{Paid, paid_for, paid-number}
use Rattle.claims_model.proofs.Claim as Claim
use Rattle.claims_model.proofs.Claim.{StepCase, anew, same, step_case}
use Rattle.claims_model.proofs.Numbers.{step-number}
use Rattle.claims_model.proofs.Exact.{healthy-sound, no-some, one-some, some-op, at-step}
use Rattle.claims_model.proofs.States.{comes-else}

is-created : (s : CoroState) → is_created s ≡ true → s ≡ CoroState.Created
is-created CoroState.Created h = refl
is-created CoroState.Running h = no_both h refl
is-created CoroState.Yielded h = no_both h refl
is-created CoroState.Awaiting h = no_both h refl
is-created CoroState.Returned h = no_both h refl
is-created CoroState.Failed h = no_both h refl

-- what an arm answers, and what it leaves of c
pub record Ends (c n : ℕ) (y : Option Seen) (o : After Step) : Type 0 where
  pub number : step_number o.answer ≡ n
  pub seen : (core_at o.world c).seen ≡ y

ends_as : {c n : ℕ} {y : Option Seen} {a b : After Step} → a ≡ b → Ends c n y b → Ends c n y a
ends_as {c} {n} {y} e = subst (Ends c n y) (sym e)

module _ (c : ℕ) (k : Core) (r : Rest) (new : is_created k.state ≡ true) (v : World) (e : coro v c ≡ Is k r) where
  close-ends : (p dst q src : ℕ) → reg v q ≡ c → Ends c 0 (ended_as CoroState.Returned 0) (coro_close p dst q src v)
  unfolding coro_close
  close-ends p dst q src f =
      ends_as
      (ap (λ n. close_to (coro_state v n) p dst n (reg v src) v) f
      ∙ ap (λ y. close_to (state_as y (not_a v c)) p dst c (reg v src) v) e
      ∙ ap (λ s. close_to (Ok s) p dst c (reg v src) v) (is-created k.state new)) (record { number = refl; seen = there-seen c CoroState.Returned nil v refl e })

  throw-ends : (p dst q src : ℕ) → reg v q ≡ c → Ends c 17 (ended_as CoroState.Failed (reg v src)) (resume_throw p dst q src v)
  unfolding resume_throw pick
  throw-ends p dst q src f =
      ends_as
      (ap (λ n. throw_to (coro_state v n) p dst n (reg v src) v) f
      ∙ ap (λ y. throw_to (state_as y (not_a v c)) p dst c (reg v src) v) e
      ∙ ap (λ s. throw_to (Ok s) p dst c (reg v src) v) (is-created k.state new)) (record { number = refl; seen = there-seen c CoroState.Failed (reg v src) v refl e })

-- ---- the instruction: no cleanup comes first

told_none : (pc : ℕ) (x : E.Entry) → told pc x ≡ none → x ≡ E.nobody
told_none pc E.nobody e = refl
told_none pc (E.entry c d s) e = let z : ◌≡◌ {A = ℕ} 0 1 = cc in absurd (omega arith)

-- an answer other than n has changed nothing
abbrev LeavesSeen : World → ℕ → ℕ → Option Seen → After Answer → Type 0
LeavesSeen w c n y o = (core_at o.world c).seen ≡ pick (eqb (number_of o.answer) n) y (core_at w c).seen

instr-ends : (w : World) (c n : ℕ) (y : Option Seen) (o : Op) (p : ℕ) (ok : Bool) (a : E.Aim) (arm : World → After Step) → eqb 10 n ≡ false → eqb 12 n ≡ false → eqb 13 n ≡ false → act w o ≡ E.at p ok a → entry_by (act w o) w ≡ E.nobody
    → ((v : World) → Alike p w v → Ends c n y (arm v)) → LeavesSeen w c n y (instruction p ok arm w)
unfolding instruction pick
instr-ends w c n y o p ok a arm n10 n12 n13 e h owes = gate (is_nil w.frames) ok (sym (ap (λ x. entry_by x w) e) ∙ h)
  where
    other : (m : ℕ) (z : World) → eqb m n ≡ false → (core_at z c).seen ≡ (core_at w c).seen → (core_at z c).seen ≡ pick (eqb m n) y (core_at w c).seen
    other m z q s = s ∙ sym (ap (λ b. pick b y (core_at w c).seen) q)

    paid : (ch : After Charge) → ChargeCase p w ch → E.charged ch.answer w (E.aimed a w) ≡ E.nobody → LeavesSeen w c n y (Gate.charged arm ch.world ch.answer)
    paid ch (c-done m v r) q =
        let t = owes v (alike r) in
        t.seen ∙ sym (ap (λ i. pick (eqb i n) y (core_at w c).seen) (step-number m (arm v).answer ∙ t.number) ∙ ap (λ b. pick b y (core_at w c).seen) (eq-eqb n n refl))
    paid ch (c-spent v r) q = other 10 v n10 (ap (λ z. (core_in z).seen) (coro-alike (alike r) c))
    paid ch (c-close m u z x t) q = no-entry q x

    gate : (b d : Bool) → pick b E.nobody (pick (not d) E.nobody (E.charged (charge (Some p) w).answer w (E.aimed a w))) ≡ E.nobody
        → LeavesSeen w c n y (pick b (refused w Fault.NoFrame) (pick (not d) (refused w Fault.BadOperand) (and_then (charge (Some p) w) (Gate.charged arm))))
    gate true d q = other 12 w n12 refl
    gate false false q = other 13 w n13 refl
    gate false true q = paid (charge (Some p) w) (charge-case p w) q

-- ---- the two calls

pub reg-alike : {p : ℕ} {w v : World} → Alike p w v → (q : ℕ) → reg v q ≡ reg w q
reg-alike a q = λ i. get_or (a.stack i) (a.base i + q) 0

abbrev Left : World → ℕ → ℕ → Option Seen → Op → Type 0
Left w c n y o = entry_by (act w o) w ≡ E.nobody → (core_at (call o w).world c).seen ≡ pick (eqb (number_of (call o w).answer) n) y (core_at w c).seen

module _ (w : World) (c : ℕ) (k : Core) (r : Rest) (new : is_created k.state ≡ true) (e : coro w c ≡ Is k r) (pc dst q src : ℕ) (f : reg w q ≡ c) where
  close-left : Left w c 0 (ended_as CoroState.Returned 0) (Op.CoroClose pc dst q src)
  unfolding call
  close-left n =
      instr-ends w c 0 (ended_as CoroState.Returned 0) (Op.CoroClose pc dst q src) pc _ _ (coro_close pc dst q src) refl refl refl refl n
      (λ v a. close-ends c k r new v (coro-alike a c ∙ e) pc dst q src (reg-alike a q ∙ f))

  throw-left : Left w c 17 (ended_as CoroState.Failed (reg w src)) (Op.ResumeThrow pc dst q src)
  unfolding call
  throw-left n =
      instr-ends w c 17 (ended_as CoroState.Failed (reg w src)) (Op.ResumeThrow pc dst q src) pc _ _ (resume_throw pc dst q src) refl refl refl refl n
      (λ v a. subst (λ x. Ends c 17 (ended_as CoroState.Failed x) (resume_throw pc dst q src v)) (reg-alike a src) (throw-ends c k r new v (coro-alike a c ∙ e) pc dst q src (reg-alike a q ∙ f)))

by_call : (c : ℕ) (w : World) (p : Op) (n : ℕ) (y : Option Seen) → eqb 11 n ≡ false → Left w c n y p → (k : Call) → model_op k ≡ some p → whom (view_of w) (model_op k) ≡ none
    → (view_of (step w k).world).coro c ≡ pick (eqb (number_of (step w k).answer) n) y ((view_of w).coro c)
unfolding step tested pick
by_call c w p n y n11 f (SetUp s) o m = let z : ◌≡◌ {A = ℕ} 0 1 = cc in absurd (omega arith)
by_call c w p n y n11 f (Do j) o m = go (sound w) refl
  where
    go : (b : Bool) → sound w ≡ b → let o = pick b (call j.op w) (M.told (refused w Fault.Unsound)) in (view_of o.world).coro c ≡ pick (eqb (number_of o.answer) n) y ((view_of w).coro c)
    go false e = sym (ap (λ b. pick b y ((view_of w).coro c)) n11)
    go true e =
        let nobody = told_none (pc_by (act w j.op)) (entry_by (act w j.op) w) (sym (whom-told w e j.op) ∙ m) in
        sym (seen_at (call j.op w).world c) ∙ subst (Left w c n y) (sym (some-op o)) f nobody ∙ ap (pick (eqb (number_of (call j.op w).answer) n) y) (seen_at w c)

pub word-reg : (w : World) (q : ℕ) → register_word (view_of w) q ≡ reg w q
word-reg w q = ap (λ b. get_or w.stack (b + q) 0) (base-top w.frames)

-- one that is new is there
new-there : {A : Type 0} (w : World) (c : ℕ) → state_is (view_of w) seen_created c ≡ true → ((k : Core) (r : Rest) → is_created k.state ≡ true → coro w c ≡ Is k r → A) → A
new-there {A} w c h f = go (coro w c) refl h
  where
    go : (x : Coroutine) → coro w c ≡ x → seen_in (λ y. seen_created y.state) (seen_of x) ≡ true → A
    go Absent e q = no_both q refl
    go (Is k r) e q = f k r (sym (new-state k.state) ∙ q) e

pub closes-created : (c : ℕ) (w : World) (k : Call) (pc dst q src : ℕ) → model_op k ≡ some (Op.CoroClose pc dst q src) → register_word (view_of w) q ≡ c → state_is (view_of w) seen_created c ≡ true → whom (view_of w) (model_op k) ≡ none
    → (view_of (step w k).world).coro c ≡ pick (eqb (number_of (step w k).answer) 0) (ended_as CoroState.Returned 0) ((view_of w).coro c)
closes-created c w k pc dst q src o f h m =
    new-there w c h (λ l r new e. by_call c w (Op.CoroClose pc dst q src) 0 (ended_as CoroState.Returned 0) refl (close-left w c l r new e pc dst q src (sym (word-reg w q) ∙ f)) k o m)

pub throws-created : (c : ℕ) (w : World) (k : Call) (pc dst q src : ℕ) → model_op k ≡ some (Op.ResumeThrow pc dst q src) → register_word (view_of w) q ≡ c → state_is (view_of w) seen_created c ≡ true → whom (view_of w) (model_op k) ≡ none
    → (view_of (step w k).world).coro c ≡ pick (eqb (number_of (step w k).answer) 17) (ended_as CoroState.Failed (register_word (view_of w) src)) ((view_of w).coro c)
throws-created c w k pc dst q src o f h m =
    new-there w c h (λ l r new e.
    by_call c w (Op.ResumeThrow pc dst q src) 17 (ended_as CoroState.Failed (register_word (view_of w) src)) refl
    (subst (λ x. Left w c 17 (ended_as CoroState.Failed x) (Op.ResumeThrow pc dst q src)) (sym (word-reg w src)) (throw-left w c l r new e pc dst q src (sym (word-reg w q) ∙ f))) k o m)

-- ---- they are answered so where they are paid for

module _ (w : World) (pc dst q src : ℕ) (m : Pays steps w) (l : lie (view_of w) (dst ∷ q ∷ src ∷ []) ≡ true) (n : state_is (view_of w) seen_created (register_word (view_of w) q) ≡ true) where
  well : sound w ≡ true
  well = healthy-sound w m.healthy

  paid : Paid pc w
  paid = paid_for w well pc (m.paid pc)

  stand : is_nil w.frames ≡ false
  stand = sym (is_none w.frames) ∙ m.stands

  -- an arm that ends it so is the instruction's
  numbered : {y : Option Seen} {x : ℕ} (ok : Bool) (arm : World → After Step) → ok ≡ true → ((k : Core) (r : Rest) → is_created k.state ≡ true → coro paid.left (register_word (view_of w) q) ≡ Is k r → Ends (register_word (view_of w) q) x y (arm paid.left))
      → number_of (instruction pc ok arm w).answer ≡ x
  numbered ok arm o f =
      ap number_of (paid-number w pc paid ok arm stand o) ∙ step-number paid.words (arm paid.left).answer
      ∙ new-there w (register_word (view_of w) q) n (λ k r new e. (f k r new (coro-alike paid.alike (register_word (view_of w) q) ∙ e)).number)

  named : reg paid.left q ≡ register_word (view_of w) q
  named = reg-alike paid.alike q ∙ sym (word-reg w q)

  close-number : number_of (call (Op.CoroClose pc dst q src) w).answer ≡ 0
  unfolding call
  close-number = numbered _ (coro_close pc dst q src) (rw (← base-top w.frames) l) (λ k r new e. close-ends (register_word (view_of w) q) k r new paid.left e pc dst q src named)

  throw-number : number_of (call (Op.ResumeThrow pc dst q src) w).answer ≡ 17
  unfolding call
  throw-number = numbered _ (resume_throw pc dst q src) (rw (← base-top w.frames) l) (λ k r new e. throw-ends (register_word (view_of w) q) k r new paid.left e pc dst q src named)

  pub accepts-close : (k : Call) → model_op k ≡ some (Op.CoroClose pc dst q src) → number_of (step w k).answer ≡ 0
  accepts-close k e = at-step w well k (Op.CoroClose pc dst q src) e close-number

  pub accepts-throw-created : (k : Call) → model_op k ≡ some (Op.ResumeThrow pc dst q src) → number_of (step w k).answer ≡ 17
  accepts-throw-created k e = at-step w well k (Op.ResumeThrow pc dst q src) e throw-number

-- ---- and of a word that names none: nothing comes of it

module _ (w : World) (c : ℕ) (e : coro w c ≡ Absent) where
  here : {p : ℕ} {v : World} → Alike p w v → coro v c ≡ Absent
  here a = coro-alike a c ∙ e

  same_seen : {p : ℕ} {v : World} → Alike p w v → (core_at v c).seen ≡ (core_at w c).seen
  same_seen a = ap (λ z. (core_in z).seen) (coro-alike a c)

  close-none : {p₀ : ℕ} (v : World) → Alike p₀ w v → (p dst q src : ℕ) → reg v q ≡ c → (core_at (coro_close p dst q src v).world c).seen ≡ (core_at w c).seen
  unfolding coro_close
  close-none v a p dst q src f =
      ap (λ n. (core_at (close_to (coro_state v n) p dst n (reg v src) v).world c).seen) f ∙ ap (λ y. (core_at (close_to (state_as y (not_a v c)) p dst c (reg v src) v).world c).seen) (here a) ∙ same_seen a

  throw-none : {p₀ : ℕ} (v : World) → Alike p₀ w v → (p dst q src : ℕ) → reg v q ≡ c → (core_at (resume_throw p dst q src v).world c).seen ≡ (core_at w c).seen
  unfolding resume_throw
  throw-none v a p dst q src f =
      ap (λ n. (core_at (throw_to (coro_state v n) p dst n (reg v src) v).world c).seen) f ∙ ap (λ y. (core_at (throw_to (state_as y (not_a v c)) p dst c (reg v src) v).world c).seen) (here a) ∙ same_seen a

  -- what holds of what is seen of c holds after an instruction, if its arm leaves it so
  pub instr-any : (P : Option Seen → Type 0) → P (core_at w c).seen → (p : ℕ) (ok : Bool) (arm : World → After Step) → ((v : World) → Alike p w v → P (core_at (arm v).world c).seen) → P (core_at (instruction p ok arm w).world c).seen
  unfolding instruction pick
  instr-any P now p ok arm owes = gate (is_nil w.frames) ok
    where
      paid : (ch : After Charge) → ChargeCase p w ch → P (core_at (Gate.charged arm ch.world ch.answer).world c).seen
      paid ch (c-done m v r) = owes v (alike r)
      paid ch (c-spent v r) = subst P (sym (same_seen (alike r))) now
      paid ch (c-close m u z x t) = go (ℕ_discrete c u)
        where
          go : Dec (c ≡ u) → P (core_at z c).seen
          go (yes q) = no_both (ap (λ y. is_nil (core_in y).frames) e) (ap (λ y. is_nil (core_at w y).frames) q ∙ t.solid)
          go (no q) = subst P (sym (ap (λ (y : Seat). y.seen) (t.others c q))) now

      gate : (b d : Bool) → P (core_at (pick b (refused w Fault.NoFrame) (pick (not d) (refused w Fault.BadOperand) (and_then (charge (Some p) w) (Gate.charged arm)))).world c).seen
      gate true d = now
      gate false false = now
      gate false true = paid (charge (Some p) w) (charge-case p w)

  instr-stays : (p : ℕ) (ok : Bool) (arm : World → After Step) → ((v : World) → Alike p w v → (core_at (arm v).world c).seen ≡ (core_at w c).seen) → (core_at (instruction p ok arm w).world c).seen ≡ (core_at w c).seen
  instr-stays p ok arm owes = instr-any (λ x. x ≡ (core_at w c).seen) refl p ok arm owes

  absent-stays : {o : Op} {a : E.Act} {d : Announced} → Kind w o a d → ends_unbegun d ≡ some c → (core_at (call o w).world c).seen ≡ (core_at w c).seen
  unfolding call
  absent-stays (k-at e (to-suspend (yields pc dst src))) n = no-some refl n
  absent-stays (k-at e (to-suspend (yields_kv pc dst src key))) n = no-some refl n
  absent-stays (k-at e (to-suspend (waits pc dst src))) n = no-some refl n
  absent-stays (k-at e (to-enter (resumes pc dst u src))) n = no-some refl n
  absent-stays (k-at e (to-enter (throws pc dst q src))) n = instr-stays pc _ (resume_throw pc dst q src) (λ v a. throw-none v a pc dst q src (reg-alike a q ∙ one-some refl n))
  absent-stays (k-at e (to-enter (shuts pc dst q src))) n = instr-stays pc _ (coro_close pc dst q src) (λ v a. close-none v a pc dst q src (reg-alike a q ∙ one-some refl n))
  absent-stays (k-at e (to-enter (turns pc has iter val src))) n = no-some refl n
  absent-stays (k-at e aimless) n = no-some refl n
  absent-stays (k-host u x) n = no-some refl n
  absent-stays (k-finish kind x) n = no-some refl n
  absent-stays (k-raise f pc) n = no-some refl n
  absent-stays (k-other e) n = no-some refl n

-- WHO COMES
pub comes : (c : ℕ) (w : World) (k : Call) → (view_of w).coro c ≡ none → ((view_of (next w k)).coro c ≡ none) ⊎ (state_is (view_of (next w k)) seen_created c ≡ true)
comes c w k h = go (ends_unbegun (announced_by (view_of w) (model_op k))) refl
  where
    gone : (x : Coroutine) → seen_of x ≡ none → x ≡ Absent
    gone Absent e = refl
    gone (Is k r) e = let z : ◌≡◌ {A = ℕ} 0 1 = cc in absurd (omega arith)

    stays : {k : Call} (z : World) → StepCase w k z → ends_unbegun (announced_by (view_of w) (model_op k)) ≡ some c → (view_of z).coro c ≡ none
    stays z (anew s e) u = no-some refl u
    stays z (same k e) u = h
    stays z (Claim.does o e) u = sym (seen_at z c) ∙ absent-stays w c (gone (coro w c) h) (kind-of w o.op) u ∙ seen_at w c ∙ h

    named : (u : ℕ) → ends_unbegun (announced_by (view_of w) (model_op k)) ≡ some u → Dec (u ≡ c) → ((view_of (next w k)).coro c ≡ none) ⊎ (state_is (view_of (next w k)) seen_created c ≡ true)
    named u e (yes q) = inl (stays (next w k) (step_case w k) (e ∙ ap {B = Option ℕ} some q))
    named u e (no q) = comes-else c w k (λ p. q (one-some e p)) h

    go : (x : Option ℕ) → ends_unbegun (announced_by (view_of w) (model_op k)) ≡ x → ((view_of (next w k)).coro c ≡ none) ⊎ (state_is (view_of (next w k)) seen_created c ≡ true)
    go none e = comes-else c w k (λ p. no-some e p) h
    go (some u) e = named u e (ℕ_discrete u c)
