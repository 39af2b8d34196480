-- From the shape of a call to its events: who is entered and who suspended, and that a suspended one stays so.
use Prim.Native.Nat.{ℕ}
use native.Mathlib.Omega.{arith}
use native.Mathlib.Decide.{ℕ_discrete}
use mathlib.Core.Path.{◌≡◌, refl, sym, ap, ◌∙◌, subst}
use mathlib.Core.Logic.{◌⊎◌, inl, inr}
use mathlib.Core.Bool.{Bool, true, false, ◌||◌}
use mathlib.Core.List.{List, ◌∷◌}
use mathlib.Core.Option.{Option, none}
use Rattle.heap.specs.declared.object.CoroState.{CoroState}
use Rattle.model.specs.State.{is_created, is_running, is_suspended, is_resumable}
use Rattle.model.specs.World.{World}
use Rattle.model.specs.declared.machine.Driver.{Driver}
use Rattle.model.specs.declared.machine.Active.{Active}
use Rattle.model.specs.declared.machine.Frame.{Frame}
use Rattle.model.specs.declared.call.Op.{Op}
use Rattle.claims_model.specs.Says.{Sent}
use Rattle.claims_model.specs.Touches.{May}
use Rattle.claims_model.proofs.Entry.{suspends, at, Entry, entry, nobody, act, entry_by, pc_by}
use Rattle.claims_model.proofs.Suspension.{suspends_in, takes_by}
use Rattle.claims_model.proofs.Held.{Seat, core_at}
use Rattle.claims_model.proofs.Cores.{no_both, busy, Mode, m-plain, m-ending, m-undoing, Kept, kept, unborn}
use Rattle.claims_model.proofs.Shape.{View, over, Ends, Worked, done, quiet, tops, puts, pushes, pops, fails, Enter, Suspend, Return, Apart, Stop, Says, mode_of, Shape, works, enters, suspended, returns, stops}

-- ---- states

pub or_left : (a b : Bool) → (a || b) ≡ false → a ≡ false
or_left true b e = e
or_left false b e = refl

pub or_right : (a b : Bool) → (a || b) ≡ false → b ≡ false
or_right true b e = no_both refl e
or_right false b e = e

pub susp-run : (s : CoroState) → is_suspended s ≡ true → is_running s ≡ false
susp-run CoroState.Created e = refl
susp-run CoroState.Running e = sym e
susp-run CoroState.Yielded e = refl
susp-run CoroState.Awaiting e = refl
susp-run CoroState.Returned e = refl
susp-run CoroState.Failed e = refl

pub run-susp : (s : CoroState) → is_running s ≡ true → is_suspended s ≡ false
run-susp CoroState.Created e = refl
run-susp CoroState.Running e = refl
run-susp CoroState.Yielded e = sym e
run-susp CoroState.Awaiting e = sym e
run-susp CoroState.Returned e = refl
run-susp CoroState.Failed e = refl

pub susp-born : (s : CoroState) → is_suspended s ≡ true → is_created s ≡ false
susp-born CoroState.Created e = sym e
susp-born CoroState.Running e = refl
susp-born CoroState.Yielded e = refl
susp-born CoroState.Awaiting e = refl
susp-born CoroState.Returned e = refl
susp-born CoroState.Failed e = refl

pub run-born : (s : CoroState) → is_running s ≡ true → is_created s ≡ false
run-born CoroState.Created e = sym e
run-born CoroState.Running e = refl
run-born CoroState.Yielded e = refl
run-born CoroState.Awaiting e = refl
run-born CoroState.Returned e = refl
run-born CoroState.Failed e = refl

pub ready-run : (s : CoroState) → is_resumable s ≡ true → is_running s ≡ false
ready-run CoroState.Created e = refl
ready-run CoroState.Running e = sym e
ready-run CoroState.Yielded e = refl
ready-run CoroState.Awaiting e = refl
ready-run CoroState.Returned e = refl
ready-run CoroState.Failed e = refl

-- ---- a state that only a switch can give: P is is_running or is_suspended
module _ (P : CoroState → Bool) (idle : (s : CoroState) → busy s ≡ false → P s ≡ false) where
  pub not-kept : {b : Mode} {c : ℕ} {k l : Seat} → Kept b c k l → P k.state ≡ false → P l.state ≡ false
  not-kept (kept e) h = ap (λ x. P x.state) e ∙ h
  not-kept {l = l} (unborn a b m n) h = idle l.state b

  pub not-ends : {s : CoroState} {v : ℕ} {k l : ℕ → Seat} → Ends s v k l → busy s ≡ false → (u : ℕ) → P (k u).state ≡ false → P (l u).state ≡ false
  not-ends {s} {v} {k} {l} e b u h = go (ℕ_discrete u v)
    where
      mine : (l v ≡ over s (l v).seen (k v)) ⊎ ((is_created (k v).state ≡ true) × (l v ≡ k v)) → P (k v).state ≡ false → P (l v).state ≡ false
      mine (inl x) n = ap (λ y. P y.state) x ∙ idle s b
      mine (inr x) n = ap (λ y. P y.state) x.1 ∙ n

      go : Dec (u ≡ v) → P (l u).state ≡ false
      go (yes q) = ap (λ y. P (l y).state) q ∙ mine e.mine (ap (λ y. P (k y).state) (sym q) ∙ h)
      go (no q) = ap (λ y. P y.state) (e.others u q) ∙ h

  pub not-worked : (c : ℕ) {m : Option May} {b : Mode} {v z : View} → Worked m b v z → P (v.cores c).state ≡ false → P (z.cores c).state ≡ false
  not-worked c done h = h
  not-worked c (quiet k q t) h = not-worked c t (not-kept (q c) h)
  not-worked c (tops g e s t) h = not-worked c t h
  not-worked c (puts r x a t) h = not-worked c t h
  not-worked c (pushes f xs a p q) h = h
  not-worked c (pops f fs free p q t) h = not-worked c t h
  not-worked c (fails f fs a chain k y p q r e t) h = not-worked c t (not-ends e refl c h)

  -- of a call that is no entry of c and no suspension of it
  pub not-return : {v : View} {x : ℕ} {f : Frame} {fs : List Frame} {a : Active} {chain : List Active} {z : World} (c : ℕ) → Return v x f fs a chain z → P (v.cores c).state ≡ false → P (core_at z c).state ≡ false
  not-return c r h = not-ends r.ends refl c h

  pub not-stop : {w z : World} (c : ℕ) → Stop w z → P (core_at w c).state ≡ false → P (core_at z c).state ≡ false
  not-stop {w} {z} c s h = go (s.each c)
    where
      go : (Apart c w.chain × (core_at z c ≡ core_at w c)) ⊎ (((core_at z c).state ≡ CoroState.Failed) ⊎ ((is_created (core_at w c).state ≡ true) × (core_at z c ≡ core_at w c))) → P (core_at z c).state ≡ false
      go (inl x) = ap (λ y. P y.state) x.1 ∙ h
      go (inr (inl x)) = ap P x ∙ idle CoroState.Failed refl
      go (inr (inr x)) = ap (λ y. P y.state) x.1 ∙ h

pub idle-run : (s : CoroState) → busy s ≡ false → is_running s ≡ false
idle-run s e = or_left (is_running s) (is_suspended s) e

pub idle-susp : (s : CoroState) → busy s ≡ false → is_suspended s ≡ false
idle-susp s e = or_right (is_running s) (is_suspended s) e

-- ---- an entry: the call enters the coroutine that entry_by names, and nobody else
pub record EnteredBy (w : World) (o : Op) (c : ℕ) (z : World) : Type 0 where
  pub driver : Driver
  pub sent : Sent
  pub by : entry_by (act w o) w ≡ entry c driver sent
  pub enter : Enter w (pc_by (act w o)) c driver sent z

pub entered-one : {w z : World} {o : Op} (c : ℕ) → Shape w o z → is_running (core_at w c).state ≡ false → is_running (core_at z c).state ≡ true → EnteredBy w o c z
entered-one c (works e b n t) h r = no_both r (not-worked is_running idle-run c t h)
entered-one {w} {z} {o} c (enters u d sent e t) h r = go (ℕ_discrete c u)
  where
    go : Dec (c ≡ u) → EnteredBy w o c z
    go (yes q) = record { driver = d; sent = sent; by = e.entry ∙ ap (λ x. entry x d sent) (sym q); enter = subst (λ x. Enter w (pc_by (act w o)) x d sent z) (sym q) t }
    go (no q) = no_both r (ap (λ x. is_running x.state) (t.others c q) ∙ h)
entered-one {w} {z} {o} c (suspended p ok s dst x a chain e q t) h r = go (ℕ_discrete c a.coro)
  where
    go : Dec (c ≡ a.coro) → EnteredBy w o c z
    go (yes y) = no_both r (ap (λ u. is_running (core_at z u).state) y ∙ ap (λ k. is_running k.state) t.mine ∙ susp-run s t.is-suspended)
    go (no y) = no_both r (not-kept is_running idle-run (t.others c y) h)
entered-one c (returns v x f fs a chain e en g t u) h r = no_both r (not-return is_running idle-run c u (not-worked is_running idle-run c t h))
entered-one c (stops e i t) h r = no_both r (not-stop is_running idle-run c t h)

pub no-entry : {A : Type 0} {x : Entry} {c : ℕ} {d : Driver} {sent : Sent} → x ≡ nobody → x ≡ entry c d sent → A
no-entry p q = let z : ◌≡◌ {A = ℕ} 0 1 = cc in absurd (omega arith)

pub who : {c u : ℕ} {d e : Driver} {s t : Sent} {x : Entry} → x ≡ entry c d s → x ≡ entry u e t → c ≡ u
who p q = cc

-- and the other way round: whom entry_by names is entered
pub entry-enters : {w z : World} {o : Op} (c : ℕ) (d : Driver) (sent : Sent) → Shape w o z → entry_by (act w o) w ≡ entry c d sent → (is_running (core_at w c).state ≡ false) × (is_running (core_at z c).state ≡ true)
entry-enters c d sent (works e b n t) h = no-entry e.entry h
entry-enters {w} {z} c d sent (enters u b s e t) h =
    (ap (λ x. is_running (core_at w x).state) (who h e.entry) ∙ ready-run (core_at w u).state t.ready, ap (λ x. is_running (core_at z x).state) (who h e.entry) ∙ t.mine)
entry-enters c d sent (suspended p ok s dst x a chain e q t) h = no-entry e.entry h
entry-enters c d sent (returns v x f fs a chain e en g t u) h = no-entry e.entry h
entry-enters c d sent (stops e i t) h = no-entry e.entry h

-- ---- a suspension: the innermost coroutine, by a yield or await
pub record SuspendedBy (w : World) (o : Op) (c : ℕ) (z : World) : Type 0 where
  pub pc : ℕ
  pub ok : Bool
  pub state : CoroState
  pub dst : ℕ
  pub payload : ℕ
  pub body : Active
  pub chain : List Active
  pub says : Says w o nobody true
  pub by : act w o ≡ at pc ok (suspends state dst payload)
  pub its_own : c ≡ body.coro
  pub suspend : Suspend w pc state dst payload body chain z

pub suspended-one : {w z : World} {o : Op} (c : ℕ) → Shape w o z → is_suspended (core_at w c).state ≡ false → is_suspended (core_at z c).state ≡ true → SuspendedBy w o c z
suspended-one c (works e b n t) h r = no_both r (not-worked is_suspended idle-susp c t h)
suspended-one {w} {z} {o} c (enters u d sent e t) h r = go (ℕ_discrete c u)
  where
    go : Dec (c ≡ u) → SuspendedBy w o c z
    go (yes q) = no_both r (ap (λ x. is_suspended (core_at z x).state) q ∙ run-susp (core_at z u).state t.mine)
    go (no q) = no_both r (ap (λ x. is_suspended x.state) (t.others c q) ∙ h)
suspended-one {w} {z} {o} c (suspended p ok s dst x a chain e q t) h r = go (ℕ_discrete c a.coro)
  where
    go : Dec (c ≡ a.coro) → SuspendedBy w o c z
    go (yes y) = record { pc = p; ok = ok; state = s; dst = dst; payload = x; body = a; chain = chain; says = e; by = q; its_own = y; suspend = t }
    go (no y) = no_both r (not-kept is_suspended idle-susp (t.others c y) h)
suspended-one c (returns v x f fs a chain e en g t u) h r = no_both r (not-return is_suspended idle-susp c u (not-worked is_suspended idle-susp c t h))
suspended-one c (stops e i t) h r = no_both r (not-stop is_suspended idle-susp c t h)

-- ---- one that does not run and is not entered stays as it is, if it has begun, or is there and is not ended

-- a call of mode b does not end c, which is k
abbrev pub Firm : ℕ → Seat → Mode → Type 0
Firm c k b = is_created k.state ≡ true → (k.seen ≡ none) ⊎ (b ≡ m-undoing c) → ⊥

module _ (c : ℕ) (k : Seat) where
  stays : {b : Mode} {l m : Seat} → Firm c k b → Kept b c l m → l ≡ k → m ≡ k
  stays f (kept e) h = e ∙ h
  stays {b} {l} {m = j} f (unborn a i m n) h = absurd (f (ap (λ x. is_created x.state) (sym h) ∙ a) (of n))
    where
      of : ((l.seen ≡ none) × (is_created j.state ≡ true)) ⊎ (b ≡ m-undoing c) → (k.seen ≡ none) ⊎ (b ≡ m-undoing c)
      of (inl x) = inl (ap (λ (y : Seat). y.seen) (sym h) ∙ x.0)
      of (inr x) = inr x

  keep-worked : {m : Option May} {b : Mode} {v z : View} → Firm c k b → Worked m b v z → Apart c v.chain → v.cores c ≡ k → Apart c z.chain × (z.cores c ≡ k)
  keep-worked f done n h = (n, h)
  keep-worked f (quiet l q t) n h = keep-worked f t n (stays f (q c) h)
  keep-worked f (tops g e s t) n h = keep-worked f t n h
  keep-worked f (puts r x a t) n h = keep-worked f t n h
  keep-worked f (pushes g xs a p q) n h = (n, h)
  keep-worked f (pops g fs free p q t) n h = keep-worked f t n h
  keep-worked f (fails g fs a chain l y p q r e t) n h =
      let m : Apart c (a ∷ chain) = subst (Apart c) r n in
      keep-worked f t m.1 (e.others c m.0 ∙ h)

  pub suspended-still : {w z : World} {o : Op} → Firm c k m-plain → Firm c k m-ending → Firm c k (mode_of (act w o)) → Shape w o z → Apart c w.chain → core_at w c ≡ k → is_running (core_at z c).state ≡ false → core_at z c ≡ k
  suspended-still f g i (works e b m t) n h r = (keep-worked (subst (Firm c k) m i) t n h).1
  suspended-still {w} {z} f g i (enters u d sent e t) n h r = go (ℕ_discrete c u)
    where
      go : Dec (c ≡ u) → core_at z c ≡ k
      go (yes q) = no_both (ap (λ x. is_running (core_at z x).state) q ∙ t.mine) r
      go (no q) = t.others c q ∙ h
  suspended-still {w} f g i (suspended p ok s dst x a chain e q t) n h r = stays f (t.others c (subst (Apart c) t.inmost n).0) h
  suspended-still f g i (returns v x y fs a chain e en ev t u) n h r =
      let m = keep-worked g t n h in
      u.ends.others c (subst (Apart c) u.inmost m.0).0 ∙ m.1
  suspended-still f g i (stops e j t) n h r = t.apart c n ∙ h

-- where coro_suspend accepts, the innermost coroutine is suspended
pub takes-suspends : {w z : World} {o : Op} → Shape w o z → takes_by (act w o) (suspends_in o) w ≡ true → (a : Active) × (chain : List Active) × (w.chain ≡ a ∷ chain) × (is_suspended (core_at z a.coro).state ≡ true)
takes-suspends (works e b n t) h = no_both h e.takes
takes-suspends (enters u d sent e t) h = no_both h e.takes
takes-suspends (suspended p ok s dst x a chain e q t) h = (a, chain, t.inmost, ap (λ k. is_suspended k.state) t.mine ∙ t.is-suspended)
takes-suspends (returns v x f fs a chain e en g t u) h = no_both h e.takes
takes-suspends (stops e i t) h = no_both h e.takes
