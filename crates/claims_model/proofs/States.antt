-- The states of coroutines change in no other way: who runs runs on, unless it is suspended, returns or fails; and who comes has not begun.
use Prim.Native.Nat.{ℕ}
use native.Mathlib.Omega.{arith}
use native.Mathlib.Decide.{ℕ_discrete}
use mathlib.Core.Path.{◌≡◌, refl, sym, ap, ◌∙◌, subst}
use mathlib.Core.Logic.{◌⊎◌, inl, inr}
use mathlib.Core.Bool.{Bool, true, false}
use mathlib.Core.List.{◌∷◌}
use mathlib.Core.Option.{Option, none, some}
use Rattle.heap.specs.declared.object.CoroState.{CoroState}
use Rattle.model.specs.Lists.{is_nil}
use Rattle.model.specs.State.{is_created, is_running, is_suspended}
use Rattle.model.specs.Object.{Coroutine, Absent, Is}
use Rattle.model.specs.World.{World}
use Rattle.model.specs.Heap.{coro}
use Rattle.model.specs.Call.{Call}
use Rattle.model.specs.declared.call.Op.{Op}
use Rattle.claims_model.specs.Engine.{seen_created, seen_running, seen_suspended, seen_returned, seen_in, state_is}
use Rattle.claims_model.specs.Says.{announced_by}
use Rattle.claims_model.specs.Demand3 as D
use Rattle.claims_model.specs.Events as Said
use Rattle.claims_model.specs.Events.{ends_unbegun}
use Rattle.claims_model.specs.Steps.{seen_of, view_of, model_op, steps}
use Rattle.claims_model.specs.Touches.{May}
use Rattle.claims_model.proofs.Entry.{act}
use Rattle.claims_model.proofs.Held.{Seat, core_in, core_at}
use Rattle.claims_model.proofs.Split.{next, restarts}
use Rattle.claims_model.proofs.Cores.{no_both, Mode, m-plain, m-ending, m-undoing, Kept, kept, unborn}
use Rattle.claims_model.proofs.Shape as S
use Rattle.claims_model.proofs.Shape.{View, Ends, Worked, done, quiet, tops, puts, pushes, pops, fails, Apart, mode_of, Shape}
use Rattle.claims_model.proofs.Events.{susp-born, run-born}
use Rattle.claims_model.proofs.Sounds.{apart}
use Rattle.claims_model.proofs.Calls.{shape}
use Rattle.claims_model.proofs.Claim.{StepCase, anew, same, does, step_case, fresh-absent}
use Rattle.claims_model.proofs.Views.{new-state, is-runs, says-alike}
use Rattle.claims_model.proofs.Restores.{restarts-old}
use Rattle.claims_model.proofs.Still.{undone_by, alike-undone}

-- ---- what has begun stays so

module _ (c : ℕ) where
  begun_kept : {b : Mode} {k l : Seat} → Kept b c k l → is_created k.state ≡ false → is_created l.state ≡ false
  begun_kept (kept e) h = ap (λ x. is_created x.state) e ∙ h
  begun_kept (unborn a b m n) h = no_both a h

  begun-ends : {s : CoroState} {v : ℕ} {k l : ℕ → Seat} → is_created s ≡ false → Ends s v k l → is_created (k c).state ≡ false → is_created (l c).state ≡ false
  begun-ends {s} {v} {k} {l} n e h = go (ℕ_discrete c v)
    where
      mine : (l v ≡ S.over s (l v).seen (k v)) ⊎ ((is_created (k v).state ≡ true) × (l v ≡ k v)) → c ≡ v → is_created (l v).state ≡ false
      mine (inl x) q = ap (λ y. is_created y.state) x ∙ n
      mine (inr x) q = no_both x.0 (ap (λ y. is_created (k y).state) (sym q) ∙ h)

      go : Dec (c ≡ v) → is_created (l c).state ≡ false
      go (yes q) = ap (λ y. is_created (l y).state) q ∙ mine e.mine q
      go (no q) = ap (λ y. is_created y.state) (e.others c q) ∙ h

  begun-worked : {m : Option May} {b : Mode} {v z : View} → Worked m b v z → is_created (v.cores c).state ≡ false → is_created (z.cores c).state ≡ false
  begun-worked done h = h
  begun-worked (quiet k q t) h = begun-worked t (begun_kept (q c) h)
  begun-worked (tops g e s t) h = begun-worked t h
  begun-worked (puts r x a t) h = begun-worked t h
  begun-worked (pushes f xs a p q) h = h
  begun-worked (pops f fs free p q t) h = begun-worked t h
  begun-worked (fails f fs a chain k y p q r e t) h = begun-worked t (begun-ends refl e h)

  begun-shape : {w z : World} {o : Op} → Shape w o z → is_created (core_at w c).state ≡ false → is_created (core_at z c).state ≡ false
  begun-shape (S.works e b m t) h = begun-worked t h
  begun-shape {w} {z} (S.enters u d sent e t) h = go (ℕ_discrete c u)
    where
      go : Dec (c ≡ u) → is_created (core_at z c).state ≡ false
      go (yes q) = run-born (core_at z c).state (ap (λ x. is_running (core_at z x).state) q ∙ t.mine)
      go (no q) = ap (λ x. is_created x.state) (t.others c q) ∙ h
  begun-shape {w} {z} (S.suspended p ok s dst x a chain e q t) h = go (ℕ_discrete c a.coro)
    where
      go : Dec (c ≡ a.coro) → is_created (core_at z c).state ≡ false
      go (yes y) = susp-born (core_at z c).state (ap (λ u. is_suspended (core_at z u).state) y ∙ ap (λ k. is_suspended k.state) t.mine ∙ t.is-suspended)
      go (no y) = begun_kept (t.others c y) h
  begun-shape (S.returns v x f fs a chain e en g t u) h = begun-ends refl u.ends (begun-worked t h)
  begun-shape {w} {z} (S.stops e i t) h = go (t.each c)
    where
      go : (Apart c w.chain × (core_at z c ≡ core_at w c)) ⊎ (((core_at z c).state ≡ CoroState.Failed) ⊎ ((is_created (core_at w c).state ≡ true) × (core_at z c ≡ core_at w c))) → is_created (core_at z c).state ≡ false
      go (inl x) = ap (λ y. is_created y.state) x.1 ∙ h
      go (inr (inl x)) = ap is_created x
      go (inr (inr x)) = no_both x.0 h

-- who runs, and is not suspended, does not return and does not fail
pub runs_on : (c : ℕ) (w : World) (k : Call) → (D.Restarts steps w k → ⊥) → state_is (view_of w) seen_running c ≡ true → (D.Suspends steps c w k → ⊥) → (Said.Returns steps c w k → ⊥) → (Said.Fails steps c w k → ⊥) → state_is (view_of (next w k)) seen_running c ≡ true
runs_on c w k r h s e f = go (coro (next w k) c) refl (begun (next w k) (step_case w k) (restarts-old w k r))
  where
    ran : is_created (core_at w c).state ≡ false
    ran = run-born (core_at w c).state (sym (is-runs w c) ∙ h)

    begun : {k : Call} (z : World) → StepCase w k z → restarts k ≡ false → is_created (core_at z c).state ≡ false
    begun z (anew x q) n = no_both q n
    begun z (same k q) n = ran
    begun z (does o q) n = begun-shape c (shape w o.op) ran

    -- z is seen so
    seen : {x : Coroutine} → coro (next w k) c ≡ x → (p : CoroState → Bool) → seen_in (λ y. p y.state) (seen_of x) ≡ true → state_is (view_of (next w k)) p c ≡ true
    seen q p t = ap (λ y. seen_in (λ z. p z.state) (seen_of y)) q ∙ t

    state : {x : Coroutine} (t : CoroState) → coro (next w k) c ≡ x → ((p : CoroState → Bool) → p t ≡ true → seen_in (λ y. p y.state) (seen_of x) ≡ true) → is_created t ≡ false → state_is (view_of (next w k)) seen_running c ≡ true
    state CoroState.Created q p n = no_both refl n
    state CoroState.Running q p n = seen q seen_running (p seen_running refl)
    state CoroState.Yielded q p n = absurd (s (record { before = h; after = seen q seen_suspended (p seen_suspended refl) }))
    state CoroState.Awaiting q p n = absurd (s (record { before = h; after = seen q seen_suspended (p seen_suspended refl) }))
    state CoroState.Returned q p n = absurd (e (record { before = h; after = seen q seen_returned (p seen_returned refl) }))
    state CoroState.Failed q p n = absurd (f (record { before = h; after = seen q Said.seen_failed (p Said.seen_failed refl) }))

    go : (x : Coroutine) → coro (next w k) c ≡ x → is_created (core_at (next w k) c).state ≡ false → state_is (view_of (next w k)) seen_running c ≡ true
    go Absent q n = no_both (ap (λ y. is_created (core_in y).state) q) n
    go (Is k r) q n = state k.state q (λ p t. t) (sym (ap (λ y. is_created (core_in y).state) q) ∙ n)

-- ---- who comes is new

module _ (c : ℕ) where
  comes-kept : {b : Mode} {k l : Seat} → (b ≡ m-undoing c → ⊥) → Kept b c k l → is_created k.state ≡ true → is_created l.state ≡ true
  comes-kept f (kept e) h = ap (λ x. is_created x.state) e ∙ h
  comes-kept f (unborn a b m (inl n)) h = n.1
  comes-kept f (unborn a b m (inr n)) h = absurd (f n)

  comes-worked : {m : Option May} {b : Mode} {v z : View} → (b ≡ m-undoing c → ⊥) → Worked m b v z → Apart c v.chain → is_created (v.cores c).state ≡ true → Apart c z.chain × (is_created (z.cores c).state ≡ true)
  comes-worked f done n h = (n, h)
  comes-worked f (quiet k q t) n h = comes-worked f t n (comes-kept f (q c) h)
  comes-worked f (tops g e s t) n h = comes-worked f t n h
  comes-worked f (puts r x a t) n h = comes-worked f t n h
  comes-worked f (pushes g xs a p q) n h = (n, h)
  comes-worked f (pops g fs free p q t) n h = comes-worked f t n h
  comes-worked f (fails g fs a chain l y p q r e t) n h =
      let m : Apart c (a ∷ chain) = subst (Apart c) r n in
      comes-worked f t m.1 (ap (λ x. is_created x.state) (e.others c m.0) ∙ h)

  no_plain : m-plain ≡ m-undoing c → ⊥
  no_plain e = let z : ◌≡◌ {A = ℕ} 0 1 = cc in absurd (omega arith)

  no-ending : m-ending ≡ m-undoing c → ⊥
  no-ending e = let z : ◌≡◌ {A = ℕ} 0 1 = cc in absurd (omega arith)

  comes-shape : {w z : World} {o : Op} → (mode_of (act w o) ≡ m-undoing c → ⊥) → Shape w o z → Apart c w.chain → coro w c ≡ Absent → is_created (core_at z c).state ≡ true
  comes-shape {w} f (S.works e b m t) n h = (comes-worked (λ x. f (m ∙ x)) t n (ap (λ x. is_created (core_in x).state) h)).1
  comes-shape {w} {z} f (S.enters u d sent e t) n h = go (ℕ_discrete c u)
    where
      go : Dec (c ≡ u) → is_created (core_at z c).state ≡ true
      go (yes q) = no_both (ap (λ x. is_nil (core_in x).frames) h) (ap (λ x. is_nil (core_at w x).frames) q ∙ t.solid)
      go (no q) = ap (λ x. is_created x.state) (t.others c q) ∙ ap (λ x. is_created (core_in x).state) h
  comes-shape f (S.suspended p ok s dst x a chain e q t) n h = comes-kept no_plain (t.others c (subst (Apart c) t.inmost n).0) (ap (λ x. is_created (core_in x).state) h)
  comes-shape f (S.returns v x y fs a chain e en ev t u) n h =
      let m = comes-worked no-ending t n (ap (λ x. is_created (core_in x).state) h) in
      ap (λ x. is_created x.state) (u.ends.others c (subst (Apart c) u.inmost m.0).0) ∙ m.1
  comes-shape f (S.stops e i t) n h = ap (λ x. is_created x.state) (t.apart c n) ∙ ap (λ x. is_created (core_in x).state) h

pub comes-else : (c : ℕ) (w : World) (k : Call) → (ends_unbegun (announced_by (view_of w) (model_op k)) ≡ some c → ⊥) → (view_of w).coro c ≡ none → ((view_of (next w k)).coro c ≡ none) ⊎ (state_is (view_of (next w k)) seen_created c ≡ true)
comes-else c w k u h = go (coro (next w k) c) refl (new (next w k) (step_case w k) u)
  where
    gone : (x : Coroutine) → seen_of x ≡ none → x ≡ Absent
    gone Absent e = refl
    gone (Is k r) e = let z : ◌≡◌ {A = ℕ} 0 1 = cc in absurd (omega arith)

    away : coro w c ≡ Absent
    away = gone (coro w c) h

    new : {k : Call} (z : World) → StepCase w k z → (ends_unbegun (announced_by (view_of w) (model_op k)) ≡ some c → ⊥) → is_created (core_at z c).state ≡ true
    new z (anew s e) u = ap (λ x. is_created (core_in x).state) (fresh-absent s c)
    new z (same k e) u = ap (λ x. is_created (core_in x).state) away
    new z (does o e) u = comes-shape c (λ m. u (alike-undone (says-alike w o.op) ∙ ap undone_by m)) (shape w o.op) (apart w e c (ap (λ x. is_running (core_in x).state) away)) away

    go : (x : Coroutine) → coro (next w k) c ≡ x → is_created (core_at (next w k) c).state ≡ true → ((view_of (next w k)).coro c ≡ none) ⊎ (state_is (view_of (next w k)) seen_created c ≡ true)
    go Absent q n = inl (ap seen_of q)
    go (Is j r) q n = inr (ap (λ y. seen_in (λ z. seen_created z.state) (seen_of y)) q ∙ new-state j.state ∙ (sym (ap (λ y. is_created (core_in y).state) q) ∙ n))
