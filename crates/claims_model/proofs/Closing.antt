-- By which word a coroutine is being closed; and what only a set-up changes.
use Prim.Native.Nat.{ℕ}
use native.Mathlib.Decide.{ℕ_discrete}
use mathlib.Core.Path.{◌≡◌, refl, sym, ap, ◌∙◌}
use mathlib.Core.Logic.{◌⊎◌, inl, inr}
use mathlib.Core.Bool.{Bool, true, false, ◌||◌}
use mathlib.Core.List.{List, ◌∷◌}
use mathlib.Core.Option.{Option, none}
use Rattle.lists.specs.Pick.{pick}
use Rattle.heap.specs.declared.object.CoroState.{CoroState}
use Rattle.model.specs.State.{is_created, is_running, is_awaiting, is_suspended}
use Rattle.model.specs.Object.{Coroutine, Absent, Is}
use Rattle.model.specs.World.{World}
use Rattle.model.specs.Heap.{coro}
use Rattle.model.specs.Call.{Call}
use Rattle.model.specs.declared.machine.Active.{Active}
use Rattle.model.specs.declared.call.Op.{Op}
use Rattle.claims_model.specs.Engine.{seen_in, state_is, seen_awaiting}
use Rattle.claims_model.specs.Says.{Announced, announced_by}
use Rattle.claims_model.specs.Held.{closer}
use Rattle.claims_model.specs.Demand3 as D
use Rattle.claims_model.specs.Events.{is_await, lives}
use Rattle.claims_model.specs.Steps.{seen_of, rules_of, view_of, model_op, steps}
use Rattle.claims_model.specs.Touches.{May}
use Rattle.claims_model.proofs.Entry as E
use Rattle.claims_model.proofs.Held.{Seat, core_in, core_at}
use Rattle.claims_model.proofs.Split.{next, Suspends, restarts}
use Rattle.claims_model.proofs.Cores.{no_both, busy, Kept, kept, unborn, Mode}
use Rattle.claims_model.proofs.Shape.{View, over, Ends, Worked, done, quiet, tops, puts, pushes, pops, fails, Apart, Shape, works, enters, suspended, returns, stops}
use Rattle.claims_model.proofs.Events.{ready-run, run-susp, suspended-one}
use Rattle.claims_model.proofs.Sounds.{first_runs}
use Rattle.claims_model.proofs.Calls.{shape}
use Rattle.claims_model.proofs.Claim.{StepCase, anew, same, does, step_case, fresh-absent}
use Rattle.claims_model.proofs.Views.{is-runs, is-suspended-core, is-awaits, closer-at, Alike, l-at, l-host, l-finish, l-raise, l-other, says-alike}
use Rattle.claims_model.proofs.Restores.{suspends-old, restarts-old}

-- ---- the set-up stays

setup-worked : {m : Option May} {b : Mode} {v z : View} → Worked m b v z → z.setup ≡ v.setup
setup-worked done = refl
setup-worked (quiet k q t) = setup-worked t
setup-worked (tops g e s t) = setup-worked t
setup-worked (puts r x a t) = setup-worked t
setup-worked (pushes f xs a p q) = refl
setup-worked (pops f fs free p q t) = setup-worked t
setup-worked (fails f fs a chain k y p q r e t) = setup-worked t

setup-stays : {w z : World} {o : Op} → Shape w o z → z.setup ≡ w.setup
setup-stays (works e b n t) = setup-worked t
setup-stays (enters u d sent e t) = t.setup
setup-stays (suspended p ok s dst x a chain e q t) = t.setup
setup-stays (returns v x f fs a chain e en g t u) = u.setup ∙ setup-worked t
setup-stays (stops e i t) = t.setup

pub fixed : (w : World) (k : Call) → (D.Restarts steps w k → ⊥) → rules_of (next w k).setup ≡ rules_of w.setup
fixed w k h = ap rules_of (go (next w k) (step_case w k) (restarts-old w k h))
  where
    go : {k : Call} (z : World) → StepCase w k z → restarts k ≡ false → z.setup ≡ w.setup
    go z (anew s e) q = no_both e q
    go z (same k e) q = refl
    go z (does o e) q = setup-stays (shape w o.op)

-- ---- one that lives

abbrev alive : CoroState → Bool
alive s = is_created s || busy s

lives-alive : (s : CoroState) → lives s ≡ alive s
lives-alive CoroState.Created = refl
lives-alive CoroState.Running = refl
lives-alive CoroState.Yielded = refl
lives-alive CoroState.Awaiting = refl
lives-alive CoroState.Returned = refl
lives-alive CoroState.Failed = refl

seen-alive : (w : World) (c : ℕ) → state_is (view_of w) lives c ≡ true → alive (core_at w c).state ≡ true
seen-alive w c h = go (coro w c) h
  where
    go : (x : Coroutine) → seen_in (λ y. lives y.state) (seen_of x) ≡ true → alive (core_in x).state ≡ true
    go Absent q = refl
    go (Is k r) q = sym (lives-alive k.state) ∙ q

or_right : (a b : Bool) → (a || b) ≡ true → b ≡ false → a ≡ true
or_right true b h n = refl
or_right false b h n = no_both h n

-- one that has ended stays so
dead-kept : {b : Mode} {c : ℕ} {k l : Seat} → Kept b c k l → alive k.state ≡ false → alive l.state ≡ false
dead-kept (kept e) h = ap (λ x. alive x.state) e ∙ h
dead-kept {k} (unborn a b m n) h = no_both (ap (λ x. x || busy k.state) a) h

dead-ends : {s : CoroState} {v : ℕ} {k l : ℕ → Seat} → Ends s v k l → alive s ≡ false → (c : ℕ) → alive (k c).state ≡ false → alive (l c).state ≡ false
dead-ends {s} {v} {k} {l} e n c h = go (ℕ_discrete c v)
  where
    mine : (l v ≡ over s (l v).seen (k v)) ⊎ ((is_created (k v).state ≡ true) × (l v ≡ k v)) → alive (k v).state ≡ false → alive (l v).state ≡ false
    mine (inl x) q = ap (λ y. alive y.state) x ∙ n
    mine (inr x) q = ap (λ y. alive y.state) x.1 ∙ q

    go : Dec (c ≡ v) → alive (l c).state ≡ false
    go (yes q) = ap (λ y. alive (l y).state) q ∙ mine e.mine (ap (λ y. alive (k y).state) (sym q) ∙ h)
    go (no q) = ap (λ y. alive y.state) (e.others c q) ∙ h

dead-worked : (c : ℕ) {m : Option May} {b : Mode} {v z : View} → Worked m b v z → alive (v.cores c).state ≡ false → alive (z.cores c).state ≡ false
dead-worked c done h = h
dead-worked c (quiet k q t) h = dead-worked c t (dead-kept (q c) h)
dead-worked c (tops g e s t) h = dead-worked c t h
dead-worked c (puts r x a t) h = dead-worked c t h
dead-worked c (pushes f xs a p q) h = h
dead-worked c (pops f fs free p q t) h = dead-worked c t h
dead-worked c (fails f fs a chain k y p q r e t) h = dead-worked c t (dead-ends e refl c h)

lived : (c : ℕ) {m : Option May} {b : Mode} {v z : View} → Worked m b v z → alive (z.cores c).state ≡ true → alive (v.cores c).state ≡ true
lived c {v = v} t h = go (alive (v.cores c).state) refl
  where
    go : (a : Bool) → alive (v.cores c).state ≡ a → alive (v.cores c).state ≡ true
    go true e = e
    go false e = no_both h (dead-worked c t e)

-- ---- closings stay

kept-closing : {b : Mode} {c : ℕ} {k l : Seat} → Kept b c k l → alive l.state ≡ true → l.closing ≡ k.closing
kept-closing (kept e) h = ap (λ x. x.closing) e
kept-closing {l = l} (unborn a b m n) h = m (or_right (is_created l.state) (busy l.state) h b)

ends-closing : {s : CoroState} {v : ℕ} {k l : ℕ → Seat} → Ends s v k l → alive s ≡ false → (c : ℕ) → alive (l c).state ≡ true → (l c).closing ≡ (k c).closing
ends-closing {s} {v} {k} {l} e n c h = go (ℕ_discrete c v)
  where
    mine : (l v ≡ over s (l v).seen (k v)) ⊎ ((is_created (k v).state ≡ true) × (l v ≡ k v)) → alive (l v).state ≡ true → (l v).closing ≡ (k v).closing
    mine (inl x) q = no_both q (ap (λ y. alive y.state) x ∙ n)
    mine (inr x) q = ap (λ y. y.closing) x.1

    go : Dec (c ≡ v) → (l c).closing ≡ (k c).closing
    go (yes q) = ap (λ y. (l y).closing) q ∙ mine e.mine (ap (λ y. alive (l y).state) (sym q) ∙ h) ∙ ap (λ y. (k y).closing) (sym q)
    go (no q) = ap (λ y. y.closing) (e.others c q)

worked-closing : (c : ℕ) {m : Option May} {b : Mode} {v z : View} → Worked m b v z → alive (z.cores c).state ≡ true → (z.cores c).closing ≡ (v.cores c).closing
worked-closing c done h = refl
worked-closing c (quiet k q t) h = worked-closing c t h ∙ kept-closing (q c) (lived c t h)
worked-closing c (tops g e s t) h = worked-closing c t h
worked-closing c (puts r x a t) h = worked-closing c t h
worked-closing c (pushes f xs a p q) h = refl
worked-closing c (pops f fs free p q t) h = worked-closing c t h
worked-closing c (fails f fs a chain k y p q r e t) h = worked-closing c t h ∙ ends-closing e refl c (lived c t h)

module _ (c : ℕ) {w z : World} (healthy : (a : Active) (chain : List Active) → w.chain ≡ a ∷ chain → is_running (core_at w a.coro).state ≡ true) where
  shape-closing : {o : Op} → Shape w o z → (is_running (core_at w c).state ≡ false → is_running (core_at z c).state ≡ true → ⊥) → (is_running (core_at w c).state ≡ true → is_suspended (core_at z c).state ≡ true → ⊥)
      → alive (core_at z c).state ≡ true → (core_at z c).closing ≡ (core_at w c).closing
  shape-closing (works e b n t) i s h = worked-closing c t h
  shape-closing (enters u d sent e t) i s h = go (ℕ_discrete c u)
    where
      go : Dec (c ≡ u) → (core_at z c).closing ≡ (core_at w c).closing
      go (yes q) = absurd (i (ap (λ x. is_running (core_at w x).state) q ∙ ready-run (core_at w u).state t.ready) (ap (λ x. is_running (core_at z x).state) q ∙ t.mine))
      go (no q) = ap (λ y. y.closing) (t.others c q)
  shape-closing (suspended p ok st dst x a chain e q t) i s h = go (ℕ_discrete c a.coro)
    where
      go : Dec (c ≡ a.coro) → (core_at z c).closing ≡ (core_at w c).closing
      go (yes y) = absurd (s (ap (λ x. is_running (core_at w x).state) y ∙ healthy a chain t.inmost) (ap (λ x. is_suspended (core_at z x).state) y ∙ ap (λ k. is_suspended k.state) t.mine ∙ t.is-suspended))
      go (no y) = kept-closing (t.others c y) h
  shape-closing (returns v x f fs a chain e en g t u) i s h = ends-closing u.ends refl c h ∙ worked-closing c t (back (alive (v.cores c).state) refl)
    where
      back : (b : Bool) → alive (v.cores c).state ≡ b → alive (v.cores c).state ≡ true
      back true e = e
      back false e = no_both h (dead-ends u.ends refl c e)
  shape-closing (stops e j t) i s h = go (t.each c)
    where
      go : (Apart c w.chain × (core_at z c ≡ core_at w c)) ⊎ (((core_at z c).state ≡ CoroState.Failed) ⊎ ((is_created (core_at w c).state ≡ true) × (core_at z c ≡ core_at w c))) → (core_at z c).closing ≡ (core_at w c).closing
      go (inl x) = ap (λ y. y.closing) x.1
      go (inr (inl x)) = no_both h (ap alive x)
      go (inr (inr x)) = ap (λ y. y.closing) x.1

pub closing : (c : ℕ) (w : World) (k : Call) → (D.Restarts steps w k → ⊥) → (D.Enters steps c w k → ⊥) → (D.Suspends steps c w k → ⊥) → state_is (view_of (next w k)) lives c ≡ true → closer ((view_of (next w k)).coro c) ≡ closer ((view_of w).coro c)
closing c w k r i s h = closer-at (next w k) c ∙ go (next w k) (step_case w k) (restarts-old w k r) (λ a b. i (record { before = is-runs w c ∙ a; after = is-runs (next w k) c ∙ b }))
    (λ a b. s (record { before = is-runs w c ∙ a; after = is-suspended-core (next w k) c ∙ b })) (seen-alive (next w k) c h) ∙ sym (closer-at w c)
  where
    go : {k : Call} (z : World) → StepCase w k z → restarts k ≡ false → (is_running (core_at w c).state ≡ false → is_running (core_at z c).state ≡ true → ⊥) → (is_running (core_at w c).state ≡ true → is_suspended (core_at z c).state ≡ true → ⊥)
        → alive (core_at z c).state ≡ true → (core_at z c).closing ≡ (core_at w c).closing
    go z (anew s e) q a b h = no_both e q
    go z (same k e) q a b h = refl
    go z (does o e) q a b h = shape-closing c (first_runs w e) (shape w o.op) a b h

-- ---- and a yield ends one

awaits-core : (x : Coroutine) → E.awaits x ≡ is_awaiting (core_in x).state
awaits-core Absent = refl
awaits-core (Is k r) = refl

pub yielded : (c : ℕ) (w : World) (k : Call) → D.Suspends steps c w k → closer ((view_of (next w k)).coro c) ≡ pick (state_is (view_of (next w k)) seen_awaiting c) (closer ((view_of w).coro c)) none
yielded c w k g = closer-at (next w k) c ∙ go (next w k) (step_case w k) h.after ∙ (λ i. pick (sym (is-awaits (next w k) c) i) (sym (closer-at w c) i) none)
  where
    h : Suspends c w k
    h = suspends-old c w k g

    go : {k : Call} (z : World) → StepCase w k z → is_suspended (core_at z c).state ≡ true → (core_at z c).closing ≡ pick (E.awaits (coro z c)) (core_at w c).closing none
    go z (anew s e) a = no_both a (ap (λ x. is_suspended (core_in x).state) (fresh-absent s c))
    go z (same k e) a = no_both a (run-susp (core_at w c).state h.before)
    go z (does o e) a =
        let s = suspended-one c (shape w o.op) (run-susp (core_at w c).state h.before) a in
        let mine = ap (core_at z) s.its_own ∙ s.suspend.mine in
        ap (λ x. x.closing) mine ∙ (λ i. pick (is_awaiting s.state) (core_at w (sym s.its_own i)).closing none)
        ∙ ap (λ b. pick b (core_at w c).closing none) (sym (awaits-core (coro z c) ∙ ap (λ x. is_awaiting x.state) mine))

-- ---- an Await leaves it Awaiting

abbrev awaits_by : E.Act → Bool
awaits_by (E.at pc ok (E.enters c d x may)) = false
awaits_by (E.at pc ok (E.suspends s dst x)) = is_awaiting s
awaits_by (E.at pc ok E.neither) = false
awaits_by (E.by_host c x) = false
awaits_by (E.finishes kind x) = false
awaits_by E.unwinds = false
awaits_by E.other = false

alike-await : {a : E.Act} {d : Announced} → Alike a d → is_await d ≡ awaits_by a
alike-await (l-at pc ok (E.enters c d x may)) = refl
alike-await (l-at pc ok (E.suspends s dst x)) = refl
alike-await (l-at pc ok E.neither) = refl
alike-await (l-host c x) = refl
alike-await (l-finish kind x) = refl
alike-await (l-raise f pc) = refl
alike-await l-other = refl

pub awaited : (c : ℕ) (w : World) (k : Call) → D.Suspends steps c w k → state_is (view_of (next w k)) seen_awaiting c ≡ is_await (announced_by (view_of w) (model_op k))
awaited c w k g = is-awaits (next w k) c ∙ go (next w k) (step_case w k) h.after
  where
    h : Suspends c w k
    h = suspends-old c w k g

    go : {k : Call} (z : World) → StepCase w k z → is_suspended (core_at z c).state ≡ true → E.awaits (coro z c) ≡ is_await (announced_by (view_of w) (model_op k))
    go z (anew s e) a = no_both a (ap (λ x. is_suspended (core_in x).state) (fresh-absent s c))
    go z (same k e) a = no_both a (run-susp (core_at w c).state h.before)
    go z (does o e) a =
        let s = suspended-one c (shape w o.op) (run-susp (core_at w c).state h.before) a in
        awaits-core (coro z c) ∙ ap (λ x. is_awaiting x.state) (ap (core_at z) s.its_own ∙ s.suspend.mine) ∙ sym (alike-await (says-alike w o.op) ∙ ap awaits_by s.by)
