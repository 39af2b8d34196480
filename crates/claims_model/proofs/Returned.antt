-- Returns are exact: the proof.
use Prim.Native.Nat.{ℕ}
use native.Mathlib.Decide.{ℕ_discrete}
use mathlib.Core.Path.{◌≡◌, refl, sym, ap, ◌∙◌, subst}
use mathlib.Core.Logic.{◌⊎◌, inl, inr}
use mathlib.Core.Bool.{Bool, true, false, ◌&&◌}
use mathlib.Core.List.{List, [], ◌∷◌}
use mathlib.Core.Option.{Option, none, some}
use lib.Dec.{eqb}
use Rattle.lists.specs.Pick.{pick, pick_true}
use Rattle.heap.specs.declared.fault.Fault.{Fault}
use Rattle.heap.specs.declared.heap.ResultKind.{ResultKind}
use Rattle.heap.specs.declared.object.CoroState.{CoroState}
use Rattle.model.specs.State.{is_created, is_running, is_suspended, is_returned}
use Rattle.model.specs.World.{World, After}
use Rattle.model.specs.Frames.{is_coro}
use Rattle.model.specs.Heap.{coro}
use Rattle.model.specs.Machine.{finish}
use Rattle.model.specs.Sound.{sound}
use Rattle.model.specs.Answer.{number_of}
use Rattle.model.specs.Call.{Call, SetUp, Do}
use Rattle.model.specs.Step.{call, step, told}
use Rattle.model.specs.declared.machine.Cont.{Cont}
use Rattle.model.specs.declared.machine.Frame.{Frame}
use Rattle.std.specs.Prelude.{Option as RustOption}
use Rattle.model.specs.declared.call.Op.{Op}
use Rattle.model.specs.declared.call.Answer.{Answer}
use Rattle.claims_model.specs.Says.{Announced, finishes, announced, announced_by, Entry}
use Rattle.claims_model.specs.Delivery.{recorded}
use Rattle.claims_model.specs.Events as Said
use Rattle.claims_model.specs.Events.{inmost, is_body, on_body, who_suspends, who_returns}
use Rattle.claims_model.specs.Steps.{view_of, model_op, steps}
use Rattle.claims_model.specs.Touches.{May}
use Rattle.claims_model.proofs.Entry.{Act, act}
use Rattle.claims_model.proofs.Held.{Seat, core_in, core_at}
use Rattle.claims_model.proofs.Split.{next}
use Rattle.claims_model.proofs.Cores.{no_both, and_left, and_right, Kept, kept, unborn, Mode}
use Rattle.claims_model.proofs.Shape as S
use Rattle.claims_model.proofs.Shape.{View, view, Ends, Worked, done, quiet, tops, puts, pushes, pops, fails, Apart, Shape}
use Rattle.claims_model.proofs.Events.{run-born, ready-run}
use Rattle.claims_model.proofs.Sounds.{apart, first_runs}
use Rattle.claims_model.proofs.Calls.{shape}
use Rattle.claims_model.proofs.Claim as Claim
use Rattle.claims_model.proofs.Claim.{StepCase, anew, same, step_case, fresh-absent, next-sound}
use Rattle.claims_model.proofs.Views.{is-runs, is-ended, seen_at, Kind, k-at, k-host, k-finish, k-raise, k-other, kind-of}
use Rattle.claims_model.proofs.Finishes.{Unmade, FinishCase, f-other, f-returns, finish-case, body_on}
use Rattle.claims_model.proofs.Escapes.{Ended, e-works, e-returns}
use Rattle.claims_model.proofs.Unwinds.{unwind-ended}
use Rattle.claims_model.proofs.Exact.{number-sound, no-some, pick_some, some-op}

-- ---- one that runs, and is moved, runs or has failed

pub data Going (s : CoroState) : Type 0 where
  runs : is_running s ≡ true → Going s
  failed : s ≡ CoroState.Failed → Going s

pub run-returned : (s : CoroState) → is_running s ≡ true → is_returned s ≡ false
run-returned CoroState.Created e = refl
run-returned CoroState.Running e = refl
run-returned CoroState.Yielded e = refl
run-returned CoroState.Awaiting e = refl
run-returned CoroState.Returned e = sym e
run-returned CoroState.Failed e = refl

going-not : {s : CoroState} → Going s → is_returned s ≡ false
going-not {s} (runs e) = run-returned s e
going-not (failed e) = ap is_returned e

going-born : {s : CoroState} → Going s → is_created s ≡ false
going-born {s} (runs e) = run-born s e
going-born (failed e) = ap is_created e

going-kept : {b : Mode} {c : ℕ} {k l : Seat} → Kept b c k l → Going k.state → Going l.state
going-kept {k} {l} (kept e) g = subst (λ y. Going y.state) (sym e) g
going-kept (unborn a b m n) g = no_both a (going-born g)

going-ends : {v c : ℕ} {k l : ℕ → Seat} → Ends CoroState.Failed v k l → Going (k c).state → Going (l c).state
going-ends {v} {c} {k} {l} e g = go (ℕ_discrete c v)
  where
    mine : (l v ≡ S.over CoroState.Failed (l v).seen (k v)) ⊎ ((is_created (k v).state ≡ true) × (l v ≡ k v)) → c ≡ v → Going (l c).state
    mine (inl x) q = failed (ap (λ y. (l y).state) q ∙ ap (λ y. y.state) x)
    mine (inr x) q = subst (λ y. Going y.state) (sym (ap l q ∙ x.1 ∙ ap k (sym q))) g

    go : Dec (c ≡ v) → Going (l c).state
    go (yes q) = mine e.mine q
    go (no q) = subst (λ y. Going y.state) (sym (e.others c q)) g

going-worked : (c : ℕ) {m : Option May} {b : Mode} {v z : View} → Worked m b v z → Going (v.cores c).state → Going (z.cores c).state
going-worked c done g = g
going-worked c (quiet k q t) g = going-worked c t (going-kept (q c) g)
going-worked c (tops f e s t) g = going-worked c t g
going-worked c (puts r x a t) g = going-worked c t g
going-worked c (pushes f xs a p q) g = g
going-worked c (pops f fs free p q t) g = going-worked c t g
going-worked c (fails f fs a chain k y p q r e t) g = going-worked c t (going-ends e g)

apart-worked : (c : ℕ) {m : Option May} {b : Mode} {v z : View} → Worked m b v z → Apart c v.chain → Apart c z.chain
apart-worked c done g = g
apart-worked c (quiet k q t) g = apart-worked c t g
apart-worked c (tops f e s t) g = apart-worked c t g
apart-worked c (puts r x a t) g = apart-worked c t g
apart-worked c (pushes f xs a p q) g = g
apart-worked c (pops f fs free p q t) g = apart-worked c t g
apart-worked c (fails f fs a chain k y p q r e t) g = apart-worked c t (subst (Apart c) r g).1

-- ---- a call that is no finish and no unwind lets nobody return

no_return : {A : Type 0} {w z : World} {o : Op} (c : ℕ) → Shape w o z → S.is_ending (act w o) ≡ false → is_running (core_at w c).state ≡ true → is_returned (core_at z c).state ≡ true → A
no_return c (S.works e m i t) n b l = no_both l (going-not (going-worked c t (runs b)))
no_return {A} {w} {z} c (S.enters u d sent e t) n b l = go (ℕ_discrete c u)
  where
    go : Dec (c ≡ u) → A
    go (yes q) = no_both b (ap (λ x. is_running (core_at w x).state) q ∙ ready-run (core_at w u).state t.ready)
    go (no q) = no_both l (ap (λ x. is_returned x.state) (t.others c q) ∙ run-returned (core_at w c).state b)
no_return {A} {w} {z} c (S.suspended p ok s dst x a chain e q t) n b l = go (ℕ_discrete c a.coro)
  where
    not-returned : (s : CoroState) → is_suspended s ≡ true → is_returned s ≡ false
    not-returned CoroState.Created h = refl
    not-returned CoroState.Running h = refl
    not-returned CoroState.Yielded h = refl
    not-returned CoroState.Awaiting h = refl
    not-returned CoroState.Returned h = sym h
    not-returned CoroState.Failed h = refl

    go : Dec (c ≡ a.coro) → A
    go (yes y) = no_both l (ap (λ u. is_returned (core_at z u).state) y ∙ ap (λ k. is_returned k.state) t.mine ∙ not-returned s t.is-suspended)
    go (no y) = no_both l (going-not (going-kept (t.others c y) (runs b)))
no_return c (S.returns v x f fs a chain e en g t u) n b l = no_both en.0 n
no_return {A} {w} {z} c (S.stops e i t) n b l = go (t.each c)
  where
    go : (Apart c w.chain × (core_at z c ≡ core_at w c)) ⊎ (((core_at z c).state ≡ CoroState.Failed) ⊎ ((is_created (core_at w c).state ≡ true) × (core_at z c ≡ core_at w c))) → A
    go (inl x) = no_both l (ap (λ y. is_returned y.state) x.1 ∙ run-returned (core_at w c).state b)
    go (inr (inl x)) = no_both l (ap is_returned x)
    go (inr (inr x)) = no_both x.0 (run-born (core_at w c).state b)

-- ---- by an unwind

ended-who : (w : World) (c : ℕ) {o : After Answer} {who : Option ℕ} → Ended (view w) o who → is_running (core_at w c).state ≡ true → is_returned (core_at o.world c).state ≡ true → who ≡ some c
ended-who w c (e-works t) b l = no_both l (going-not (going-worked c t (runs b)))
ended-who w c {o} (e-returns u f fs a chain t r n) b l = go (ℕ_discrete c a.coro)
  where
    go : Dec (c ≡ a.coro) → some a.coro ≡ some c
    go (yes q) = ap {B = Option ℕ} some (sym q)
    go (no q) = no_both l (ap (λ y. is_returned y.state) (r.ends.others c q) ∙ going-not (going-worked c t (runs b)))

-- whoever is named ran, and has returned
pub record Has (w : World) (c : ℕ) (z : World) : Type 0 where
  pub before : is_running (core_at w c).state ≡ true
  pub after : is_returned (core_at z c).state ≡ true

some_one : {a c : ℕ} → ◌≡◌ {A = Option ℕ} (some a) (some c) → a ≡ c
some_one e = cc

ended-has : (w : World) → sound w ≡ true → (c : ℕ) {o : After Answer} {who : Option ℕ} → Ended (view w) o who → who ≡ some c → Has w c o.world
ended-has w h c (e-works t) q = no-some refl q
ended-has w h c {o} (e-returns u f fs a chain t r n) q = go (is_running (core_at w c).state) refl
  where
    its : a.coro ≡ c
    its = some_one q

    left : Seat
    left = core_at o.world a.coro

    ends : Going (u.cores a.coro).state → (left ≡ S.over CoroState.Returned left.seen (u.cores a.coro)) ⊎ ((is_created (u.cores a.coro).state ≡ true) × (left ≡ u.cores a.coro)) → is_returned (core_at o.world c).state ≡ true
    ends g (inl x) = ap (λ y. is_returned (core_at o.world y).state) (sym its) ∙ ap (λ y. is_returned y.state) x
    ends g (inr x) = no_both x.0 (going-born g)

    go : (b : Bool) → is_running (core_at w c).state ≡ b → Has w c o.world
    go true b = record { before = b; after = ends (subst (λ y. Going (u.cores y).state) (sym its) (going-worked c t (runs b))) r.ends.mine }
    go false b = absurd ((subst (Apart c) r.inmost (apart-worked c t (apart w h c b))).0 (sym its))

-- ---- by a finish

body-coro : (c : Cont) → is_body c ≡ is_coro c
body-coro Cont.Entry = refl
body-coro (Cont.Write r) = refl
body-coro (Cont.Dyn r) = refl
body-coro (Cont.Value r) = refl
body-coro Cont.Discard = refl
body-coro Cont.Coro = refl

pub on-body : (fs : List Frame) → on_body fs ≡ body_on fs
on-body [] = refl
on-body (f ∷ fs) = body-coro f.cont

both_true : {a b : Bool} → a ≡ true → b ≡ true → (a && b) ≡ true
both_true p q = λ i. p i && q i

finish-who : (kind : ResultKind) (x : ℕ) (w : World) (c : ℕ) (o : After Answer) → is_running (core_at w c).state ≡ true → is_returned (core_at o.world c).state ≡ true → FinishCase kind x w o → who_returns (view_of w) (finishes kind x) (number_of o.answer) ≡ some c
finish-who kind x w c o b l (f-other e n) = no_both l (ap (λ k. is_returned (core_in k).state) (e c) ∙ run-returned (core_at w c).state b)
finish-who kind x w c o b l (f-returns f fs a chain y p q r m n ends tells ints) = go (ℕ_discrete c a.coro)
  where
    go : Dec (c ≡ a.coro) → who_returns (view_of w) (finishes kind x) (number_of o.answer) ≡ some c
    go (yes h) = (λ i. pick (both_true (ap (λ t. eqb t 0) n) (ap on_body p ∙ body-coro f.cont ∙ q) i) (inmost (r i)) none) ∙ pick_true (some a.coro) none ∙ ap {B = Option ℕ} some (sym h)
    go (no h) = no_both l (ap (λ k. is_returned k.state) (ends.others c h) ∙ run-returned (core_at w c).state b)

finish-has : (kind : ResultKind) (x : ℕ) (w : World) → sound w ≡ true → (c : ℕ) (o : After Answer) → who_returns (view_of w) (finishes kind x) (number_of o.answer) ≡ some c → FinishCase kind x w o → Has w c o.world
finish-has kind x w h c o e (f-other all why) = go why
  where
    t : ((eqb (number_of o.answer) 0 && on_body w.frames) ≡ true) × (inmost w.chain ≡ some c)
    t = pick_some (eqb (number_of o.answer) 0 && on_body w.frames) (inmost w.chain) c e

    go : (body_on w.frames ≡ false) ⊎ ((w.chain ≡ []) ⊎ Unmade kind x w o) → Has w c o.world
    go (inl q) = no_both (and_right (eqb (number_of o.answer) 0) (on_body w.frames) t.0) (on-body w.frames ∙ q)
    go (inr (inl q)) = no-some (ap inmost q) t.1
    go (inr (inr q)) = no_both (and_left (eqb (number_of o.answer) 0) (on_body w.frames) t.0) q.numbered
finish-has kind x w h c o e (f-returns f fs a chain y p q r m n ends tells ints) = record { before = ap (λ u. is_running (core_at w u).state) (sym its) ∙ ran; after = ap (λ u. is_returned (core_at o.world u).state) (sym its) ∙ go ends.mine }
  where
    its : a.coro ≡ c
    its = some_one (sym (ap inmost r) ∙ (pick_some (eqb (number_of o.answer) 0 && on_body w.frames) (inmost w.chain) c e).1)

    ran : is_running (core_at w a.coro).state ≡ true
    ran = first_runs w h a chain r

    go : (core_at o.world a.coro ≡ S.over CoroState.Returned (core_at o.world a.coro).seen (core_at w a.coro)) ⊎ ((is_created (core_at w a.coro).state ≡ true) × (core_at o.world a.coro ≡ core_at w a.coro)) → is_returned (core_at o.world a.coro).state ≡ true
    go (inl k) = ap (λ y. is_returned y.state) k
    go (inr k) = no_both k.0 (run-born (core_at w a.coro).state ran)

-- ---- every call

call-who : (w : World) → sound w ≡ true → (c : ℕ) {o : Op} {a : Act} {d : Announced} → act w o ≡ a → is_running (core_at w c).state ≡ true
    → is_returned (core_at (call o w).world c).state ≡ true → Kind w o a d → who_returns (view_of w) d (number_of (call o w).answer) ≡ some c
unfolding call
call-who w h c {o} q b l (k-at e i) = no_return c (shape w o) (ap S.is_ending q) b l
call-who w h c {o} q b l (k-host u x) = no_return c (shape w o) refl b l
call-who w h c q b l (k-finish kind x) = finish-who kind x w c (finish kind x w) b l (finish-case kind x w)
call-who w h c q b l (k-raise f pc) = ended-who w c (unwind-ended w h f pc) b l
call-who w h c {o} q b l (k-other e) = no_return c (shape w o) (ap S.is_ending q) b l

call-has : (w : World) → sound w ≡ true → (c : ℕ) {o : Op} {a : Act} {d : Announced} → who_returns (view_of w) d (number_of (call o w).answer) ≡ some c → Kind w o a d
    → Has w c (call o w).world
unfolding call
call-has w h c e (k-at p i) = no-some refl e
call-has w h c e (k-host u x) = no-some refl e
call-has w h c e (k-finish kind x) = finish-has kind x w h c (finish kind x w) e (finish-case kind x w)
call-has w h c e (k-raise f pc) = ended-has w h c (unwind-ended w h f pc) e
call-has w h c e (k-other p) = no-some refl e

pub returns : (c : ℕ) (w : World) (k : Call) → Said.Returns steps c w k → who_returns (view_of w) (announced_by (view_of w) (model_op k)) (number_of (step w k).answer) ≡ some c
returns c w k g = go (next w k) (step_case w k) (sym (is-ended (next w k) c) ∙ g.after)
  where
    ran : is_running (core_at w c).state ≡ true
    ran = sym (is-runs w c) ∙ g.before

    go : {k : Call} (z : World) → StepCase w k z → is_returned (core_at z c).state ≡ true → who_returns (view_of w) (announced_by (view_of w) (model_op k)) (number_of (step w k).answer) ≡ some c
    go z (anew s e) a = no_both a (ap (λ x. is_returned (core_in x).state) (fresh-absent s c))
    go z (same k e) a = no_both a (run-returned (core_at w c).state ran)
    go z (Claim.does o e) a = ap (λ y. who_returns (view_of w) (announced (view_of w) o.op) (number_of y)) (number-sound w o e) ∙ call-who w e c refl ran a (kind-of w o.op)

pub returned-by : (c : ℕ) (w : World) (k : Call) → sound w ≡ true → who_returns (view_of w) (announced_by (view_of w) (model_op k)) (number_of (step w k).answer) ≡ some c → Said.Returns steps c w k
returned-by c w (SetUp s) h e = no-some refl e
returned-by c w (Do o) h e =
    let t = call-has w h c (ap (λ y. who_returns (view_of w) (announced (view_of w) o.op) (number_of y)) (sym (number-sound w o h)) ∙ e) (kind-of w o.op) in
    record { before = is-runs w c ∙ t.before; after = is-ended (next w (Do o)) c ∙ ap (λ y. is_returned (core_at y c).state) (next-sound w o h) ∙ t.after }

-- ---- a close that its own signal ends is recorded as nil

ended-told : (w : World) (c : ℕ) {o : After Answer} {who : Option ℕ} → Ended (view w) o who → is_running (core_at w c).state ≡ true → is_returned (core_at o.world c).state ≡ true → recorded (core_at o.world c).seen ≡ 0
ended-told w c (e-works t) b l = no_both l (going-not (going-worked c t (runs b)))
ended-told w c {o} (e-returns u f fs a chain t r n) b l = go (ℕ_discrete c a.coro)
  where
    go : Dec (c ≡ a.coro) → recorded (core_at o.world c).seen ≡ 0
    go (yes q) = ap (λ y. recorded (core_at o.world y).seen) q ∙ r.told (ap (λ y. is_returned (core_at o.world y).state) (sym q) ∙ l)
    go (no q) = no_both l (ap (λ y. is_returned y.state) (r.ends.others c q) ∙ going-not (going-worked c t (runs b)))

unwind-told : (f : Fault) (pc : RustOption ℕ) (w : World) (c : ℕ) → sound w ≡ true → is_running (core_at w c).state ≡ true → let z = (call (Op.Unwind f pc) w).world in is_returned (core_at z c).state ≡ true → recorded (core_at z c).seen ≡ 0
unfolding call
unwind-told f pc w c h b l = ended-told w c (unwind-ended w h f pc) b l

pub closed : (c : ℕ) (w : World) (k : Call) (f : Fault) (pc : RustOption ℕ) → Said.Returns steps c w k → model_op k ≡ some (Op.Unwind f pc) → recorded ((view_of (next w k)).coro c) ≡ 0
closed c w k f pc g e = ap recorded (sym (seen_at (next w k) c)) ∙ go (next w k) (step_case w k) (sym (is-ended (next w k) c) ∙ g.after) e
  where
    ran : is_running (core_at w c).state ≡ true
    ran = sym (is-runs w c) ∙ g.before

    told : (o : Op) → o ≡ Op.Unwind f pc → sound w ≡ true → is_returned (core_at (call o w).world c).state ≡ true → recorded (core_at (call o w).world c).seen ≡ 0
    told o q s a = ap (λ p. recorded (core_at (call p w).world c).seen) q ∙ unwind-told f pc w c s ran (ap (λ p. is_returned (core_at (call p w).world c).state) (sym q) ∙ a)

    go : {k : Call} (z : World) → StepCase w k z → is_returned (core_at z c).state ≡ true → model_op k ≡ some (Op.Unwind f pc) → recorded (core_at z c).seen ≡ 0
    go z (anew s e) a q = no_both a (ap (λ x. is_returned (core_in x).state) (fresh-absent s c))
    go z (same k e) a q = no_both a (run-returned (core_at w c).state ran)
    go z (Claim.does o e) a q = told o.op (some-op q) e a
