-- The events are exact: the proof.
use Prim.Native.Nat.{ℕ}
use native.Mathlib.Omega.{arith}
use mathlib.Core.Path.{◌≡◌, refl, sym, ap, ◌∙◌}
use mathlib.Core.Bool.{Bool, true, false}
use mathlib.Core.List.{List, [], ◌∷◌}
use mathlib.Core.Option.{Option, none, some}
use Rattle.lists.specs.Pick.{pick, pick_true}
use Rattle.heap.specs.declared.fault.Fault.{Fault}
use Rattle.model.specs.State.{is_suspended}
use Rattle.model.specs.World.{World}
use Rattle.model.specs.Heap.{coro}
use Rattle.model.specs.Gate.{refused}
use Rattle.model.specs.Sound.{sound}
use Rattle.model.specs.Answer.{number_of}
use Rattle.model.specs.Call.{Call, SetUp, Do, Operation, typed, as_call}
use Rattle.model.specs.Step.{call, tested, step, told}
use Rattle.model.specs.declared.machine.Active.{Active}
use Rattle.model.specs.declared.call.Op.{Op}
use Rattle.claims_model.specs.Says.{suspend, neither, Announced, announced, announced_by, Entry, entry}
use Rattle.claims_model.specs.Held.{By}
use Rattle.claims_model.specs.Demand3 as D
use Rattle.claims_model.specs.Events.{Healthy, inmost, who_suspends}
use Rattle.claims_model.specs.Steps.{view_of, model_op, steps}
use Rattle.claims_model.proofs.Entry as E
use Rattle.claims_model.proofs.Entry.{act, pc_by, entry_by}
use Rattle.claims_model.proofs.Suspension.{suspends_in, takes_by}
use Rattle.claims_model.proofs.Held.{core_in, core_at}
use Rattle.claims_model.proofs.Split.{next, Suspends, Enters}
use Rattle.claims_model.proofs.Accepted as A
use Rattle.claims_model.proofs.Cores.{no_both}
use Rattle.claims_model.proofs.Events.{run-susp, suspended-one}
use Rattle.claims_model.proofs.Calls.{shape}
use Rattle.claims_model.proofs.Claim as Claim
use Rattle.claims_model.proofs.Claim.{StepCase, anew, same, step_case, fresh-absent, entry-sound}
use Rattle.claims_model.proofs.Acceptance.{named-enters, suspends-exactly, takes-sound}
use Rattle.claims_model.proofs.Views.{is-runs, is-suspended-core, Alike, l-at, l-host, l-finish, l-raise, l-other, says-alike}
use Rattle.claims_model.proofs.Whom as Whom
use Rattle.claims_model.proofs.Whom.{whom-told}
use Rattle.claims_model.proofs.Restores.{suspends-old}
use Rattle.claims_model.proofs.Numbers.{ok_number, aims_to, call-number}

-- ---- a machine that is not refused is sound

look-typed : typed Op.Look ≡ true
unfolding typed
look-typed = refl

pub healthy-sound : (w : World) → Healthy steps w → sound w ≡ true
unfolding step tested pick
healthy-sound w h = go (sound w) refl (h (as_call Op.Look look-typed) refl)
  where
    go : (b : Bool) → sound w ≡ b → number_of (pick b (call Op.Look w) (told (refused w Fault.Unsound))).answer ≡ 0 → sound w ≡ true
    go true e n = e
    go false e n = absurd (omega (arith, n))

pub number-sound : (w : World) (o : Operation) → sound w ≡ true → (step w (Do o)).answer ≡ (call o.op w).answer
unfolding step tested pick
number-sound w o e = ap (λ b. (pick b (call o.op w) (told (refused w Fault.Unsound))).answer) e

-- ---- options

pub no-some : {A : Type 0} {x : Option ℕ} {c : ℕ} → x ≡ none → x ≡ some c → A
no-some p q = let z : ◌≡◌ {A = ℕ} 0 1 = cc in absurd (omega arith)

pub some-op : {a b : Op} → ◌≡◌ {A = Option Op} (some a) (some b) → a ≡ b
some-op e = cc

-- what a call answers at a sound machine is what its operation answers
pub at-step : (w : World) → sound w ≡ true → (k : Call) (o : Op) {x : ℕ} → model_op k ≡ some o → number_of (call o w).answer ≡ x → number_of (step w k).answer ≡ x
at-step w h (SetUp s) o e n = let z : ◌≡◌ {A = ℕ} 0 1 = cc in absurd (omega arith)
at-step w h (Do j) o e n = ap number_of (number-sound w j h) ∙ ap (λ p. number_of (call p w).answer) (some-op e) ∙ n

-- so it is not refused
look-numbered : (w : World) → number_of (call Op.Look w).answer ≡ 0
unfolding call
look-numbered w = refl

pub sound-healthy : (w : World) → sound w ≡ true → Healthy steps w
sound-healthy w h k e = at-step w h k Op.Look e (look-numbered w)

pub one-some : {x : Option ℕ} {c u : ℕ} → x ≡ some c → x ≡ some u → c ≡ u
one-some p q = cc

pub pick_some : (b : Bool) (x : Option ℕ) (c : ℕ) → pick b x none ≡ some c → (b ≡ true) × (x ≡ some c)
unfolding pick
pick_some true x c e = (refl, e)
pick_some false x c e = no-some refl e

inmost-old : (chain : List Active) (c : ℕ) → inmost chain ≡ some c → A.inmost chain ≡ some c
inmost-old [] c e = e
inmost-old (a ∷ chain) c e = e

-- ---- entries

abbrev back : Option Entry → E.Entry
back none = E.nobody
back (some y) = E.entry y.coro y.driver y.sent

pub entered : (c : ℕ) (w : World) (k : Call) → Healthy steps w → By (view_of w) (model_op k) c → D.Enters steps c w k
entered c w (SetUp s) h b = let x = b.says in let z : ◌≡◌ {A = ℕ} 0 1 = cc in absurd (omega arith)
entered c w (Do o) h b =
    let e = healthy-sound w h in
    let x = by (entry_by (act w o.op) w) (sym (whom-told w e o.op) ∙ b.says) in
    let t = named-enters w (Do o) c b.driver b.sent (entry-sound w o e ∙ x) in
    record { before = is-runs w c ∙ t.before; after = is-runs (next w (Do o)) c ∙ t.after }
  where
    by : (y : E.Entry) → Whom.told (pc_by (act w o.op)) y ≡ some (entry c b.driver b.sent b.pc) → y ≡ E.entry c b.driver b.sent
    by E.nobody q = ap back q
    by (E.entry u d x) q = ap back q

-- ---- suspensions

susp-aims : (w : World) (n : ℕ) {a : E.Act} {d : Announced} → aims_to a ≡ true → Alike a d → who_suspends (view_of w) d n ≡ pick (ok_number n) (inmost w.chain) none
susp-aims w n h (l-at pc ok (E.enters c d x may)) = no_both h refl
susp-aims w n h (l-at pc ok (E.suspends s dst x)) = refl
susp-aims w n h (l-at pc ok E.neither) = no_both h refl
susp-aims w n h (l-host c x) = no_both h refl
susp-aims w n h (l-finish kind x) = no_both h refl
susp-aims w n h (l-raise f pc) = no_both h refl
susp-aims w n h l-other = no_both h refl

susp-not : (w : World) (n : ℕ) {a : E.Act} {d : Announced} → aims_to a ≡ false → Alike a d → who_suspends (view_of w) d n ≡ none
susp-not w n h (l-at pc ok (E.enters c d x may)) = refl
susp-not w n h (l-at pc ok (E.suspends s dst x)) = no_both refl h
susp-not w n h (l-at pc ok E.neither) = refl
susp-not w n h (l-host c x) = refl
susp-not w n h (l-finish kind x) = refl
susp-not w n h (l-raise f pc) = refl
susp-not w n h l-other = refl

pub suspends : (c : ℕ) (w : World) (k : Call) → D.Suspends steps c w k → who_suspends (view_of w) (announced_by (view_of w) (model_op k)) (number_of (step w k).answer) ≡ some c
suspends c w k g = go (next w k) (step_case w k) h.after
  where
    h : Suspends c w k
    h = suspends-old c w k g

    go : {k : Call} (z : World) → StepCase w k z → is_suspended (core_at z c).state ≡ true → who_suspends (view_of w) (announced_by (view_of w) (model_op k)) (number_of (step w k).answer) ≡ some c
    go z (anew s e) a = no_both a (ap (λ x. is_suspended (core_in x).state) (fresh-absent s c))
    go z (same k e) a = no_both a (run-susp (core_at w c).state h.before)
    go z (Claim.does o e) a =
        let s = suspended-one c (shape w o.op) (run-susp (core_at w c).state h.before) a in
        let q : aims_to (act w o.op) ≡ true = ap aims_to s.by in
        let n : ok_number (number_of (step w (Do o)).answer) ≡ true = ap (λ x. ok_number (number_of x)) (number-sound w o e) ∙ (call-number w e o.op q).ok ∙ s.says.takes in
        susp-aims w (number_of (step w (Do o)).answer) q (says-alike w o.op) ∙ picked n (ap inmost s.suspend.inmost ∙ ap {B = Option ℕ} some (sym s.its_own))
      where
        picked : {b : Bool} {x : Option ℕ} → b ≡ true → x ≡ some c → pick b x none ≡ some c
        picked p q = (λ i. pick (p i) (q i) none) ∙ pick_true (some c) none

pub suspended-by : (c : ℕ) (w : World) (k : Call) → who_suspends (view_of w) (announced_by (view_of w) (model_op k)) (number_of (step w k).answer) ≡ some c → D.Suspends steps c w k
unfolding step tested pick
suspended-by c w (SetUp s) h = no-some refl h
suspended-by c w (Do o) h = go (aims_to (act w o.op)) refl (sound w) refl
  where
    n : ℕ
    n = number_of (step w (Do o)).answer

    go : (b : Bool) → aims_to (act w o.op) ≡ b → (t : Bool) → sound w ≡ t → D.Suspends steps c w (Do o)
    go false q t e = no-some (susp-not w n q (says-alike w o.op)) h
    go true q true e =
        let x = pick_some (ok_number n) (inmost w.chain) c (sym (susp-aims w n q (says-alike w o.op)) ∙ h) in
        let takes : takes_by (act w o.op) (suspends_in o.op) w ≡ true = sym (call-number w e o.op q).ok ∙ ap (λ y. ok_number (number_of y)) (sym (number-sound w o e)) ∙ x.0 in
        let s = suspends-exactly w (Do o) c (takes-sound w o e ∙ takes) (inmost-old w.chain c x.1) in
        record { before = is-runs w c ∙ s.before; after = is-suspended-core (next w (Do o)) c ∙ s.after }
    go true q false e =
        let x = pick_some (ok_number n) (inmost w.chain) c (sym (susp-aims w n q (says-alike w o.op)) ∙ h) in
        no_both x.0 (ap (λ b. ok_number (number_of (pick b (call o.op w) (told (refused w Fault.Unsound))).answer)) e)
