-- Who does not run is seen as before until it is entered; one that has not begun, unless it is closed or a word is thrown into it.
use Prim.Native.Nat.{ℕ}
use native.Mathlib.Omega.{arith}
use native.Mathlib.Decide.{ℕ_discrete}
use mathlib.Core.Path.{◌≡◌, refl, sym, ap, ◌∙◌}
use mathlib.Core.Logic.{◌⊎◌, inl, inr}
use mathlib.Core.Bool.{Bool, true, false}
use mathlib.Core.Option.{Option, none, some}
use Rattle.heap.specs.declared.object.CoroState.{CoroState}
use Rattle.model.specs.State.{is_created, is_running}
use Rattle.model.specs.Object.{Coroutine, Absent, Is}
use Rattle.model.specs.World.{World}
use Rattle.model.specs.Heap.{coro}
use Rattle.model.specs.Call.{Call}
use Rattle.model.specs.declared.call.Op.{Op}
use Rattle.claims_model.specs.Engine.{seen_created, seen_in, state_is}
use Rattle.claims_model.specs.Says.{Announced, announced_by, nothing, gets, closes, Entry, whom}
use Rattle.claims_model.specs.Demand3 as D
use Rattle.claims_model.specs.Events.{ends_unbegun, rests}
use Rattle.claims_model.specs.Steps.{seen_of, view_of, model_op, steps}
use Rattle.claims_model.proofs.Entry as E
use Rattle.claims_model.proofs.Entry.{act, pc_by, entry_by}
use Rattle.claims_model.proofs.Held.{Seat, core_in, core_at}
use Rattle.claims_model.proofs.Split.{next}
use Rattle.claims_model.proofs.Cores.{no_both, Mode, m-plain, m-ending, m-undoing}
use Rattle.claims_model.proofs.Shape.{mode_of, Shape, works, enters, suspended, returns, stops}
use Rattle.claims_model.proofs.Calls.{shape}
use Rattle.claims_model.proofs.Claim.{StepCase, anew, same, does, step_case, stays-firm, stays}
use Rattle.claims_model.proofs.Views.{is-runs, seen_at, Alike, l-at, l-host, l-finish, l-raise, l-other, says-alike}
use Rattle.claims_model.proofs.Whom.{told, whom-told}
use Rattle.claims_model.proofs.Restores.{restarts-old}

rest-born : (s : CoroState) → rests s ≡ true → is_created s ≡ false
rest-born CoroState.Created e = sym e
rest-born CoroState.Running e = refl
rest-born CoroState.Yielded e = refl
rest-born CoroState.Awaiting e = refl
rest-born CoroState.Returned e = refl
rest-born CoroState.Failed e = refl

rest-run : (s : CoroState) → rests s ≡ true → is_running s ≡ false
rest-run CoroState.Created e = refl
rest-run CoroState.Running e = sym e
rest-run CoroState.Yielded e = refl
rest-run CoroState.Awaiting e = refl
rest-run CoroState.Returned e = refl
rest-run CoroState.Failed e = refl

is-rests : (w : World) (c : ℕ) → state_is (view_of w) rests c ≡ true → rests (core_at w c).state ≡ true
is-rests w c h = go (coro w c) h
  where
    go : (x : Coroutine) → seen_in (λ y. rests y.state) (seen_of x) ≡ true → rests (core_in x).state ≡ true
    go Absent q = q
    go (Is k r) q = q

-- who is not entered does not run
not_entered : (c : ℕ) (w : World) (k : Call) → (D.Enters steps c w k → ⊥) → is_running (core_at w c).state ≡ false → is_running (core_at (next w k) c).state ≡ false
not_entered c w k i idle = out (is_running (core_at (next w k) c).state) refl
  where
    out : (b : Bool) → is_running (core_at (next w k) c).state ≡ b → is_running (core_at (next w k) c).state ≡ false
    out false e = e
    out true e = absurd (i (record { before = is-runs w c ∙ idle; after = is-runs (next w k) c ∙ e }))

pub still : (c : ℕ) (w : World) (k : Call) → (D.Restarts steps w k → ⊥) → (D.Enters steps c w k → ⊥) → state_is (view_of w) rests c ≡ true → (view_of (next w k)).coro c ≡ (view_of w).coro c
still c w k r i h = sym (seen_at (next w k) c) ∙ ap (λ (x : Seat). x.seen) (stays c w k (core_at w c) (rest-born (core_at w c).state q) idle (restarts-old w k r) (not_entered c w k i idle) refl) ∙ seen_at w c
  where
    q : rests (core_at w c).state ≡ true
    q = is-rests w c h

    idle : is_running (core_at w c).state ≡ false
    idle = rest-run (core_at w c).state q

-- ---- one that has not begun

new-run : (s : CoroState) → seen_created s ≡ true → is_running s ≡ false
new-run CoroState.Created e = refl
new-run CoroState.Running e = sym e
new-run CoroState.Yielded e = refl
new-run CoroState.Awaiting e = refl
new-run CoroState.Returned e = refl
new-run CoroState.Failed e = refl

is-new : (w : World) (c : ℕ) → state_is (view_of w) seen_created c ≡ true → is_running (core_at w c).state ≡ false
is-new w c h = go (coro w c) h
  where
    go : (x : Coroutine) → seen_in (λ y. seen_created y.state) (seen_of x) ≡ true → is_running (core_in x).state ≡ false
    go Absent q = refl
    go (Is k r) q = new-run k.state q

-- whom a mode ends, in the claim's words
abbrev pub undone_by : Mode → Option ℕ
undone_by m-plain = none
undone_by m-ending = none
undone_by (m-undoing c) = some c

pub alike-undone : {a : E.Act} {d : Announced} → Alike a d → ends_unbegun d ≡ undone_by (mode_of a)
alike-undone (l-at pc ok (E.enters c d nothing may)) = refl
alike-undone (l-at pc ok (E.enters c d (gets x) may)) = refl
alike-undone (l-at pc ok (E.enters c d (closes x) may)) = refl
alike-undone (l-at pc ok (E.suspends s dst x)) = refl
alike-undone (l-at pc ok E.neither) = refl
alike-undone (l-host c x) = refl
alike-undone (l-finish kind x) = refl
alike-undone (l-raise f pc) = refl
alike-undone l-other = refl

not-undone : (c : ℕ) (w : World) (k : Call) → (D.Restarts steps w k → ⊥) → (D.Enters steps c w k → ⊥) → state_is (view_of w) seen_created c ≡ true → (ends_unbegun (announced_by (view_of w) (model_op k)) ≡ some c → ⊥) → (view_of (next w k)).coro c ≡ (view_of w).coro c
not-undone c w k r i h u = sym (seen_at (next w k) c) ∙ ap (λ (x : Seat). x.seen)
    (stays-firm c w k (core_at w c) (λ _ x. firm m-plain (λ e. no-some (ap undone_by e)) x) (λ _ x. firm m-ending (λ e. no-some (ap undone_by e)) x)
    (λ o q _ x. firm (mode_of (act w o.op)) (λ e. u (ap (λ (j : Call). ends_unbegun (announced_by (view_of w) (model_op j))) q ∙ alike-undone (says-alike w o.op) ∙ ap undone_by e)) x)
    idle (restarts-old w k r) (not_entered c w k i idle) refl)
    ∙ seen_at w c
  where
    idle : is_running (core_at w c).state ≡ false
    idle = is-new w c h

    no-some : ◌≡◌ {A = Option ℕ} none (some c) → ⊥
    no-some e = let z : ◌≡◌ {A = ℕ} 0 1 = cc in absurd (omega arith)

    firm : (b : Mode) → (b ≡ m-undoing c → ⊥) → ((core_at w c).seen ≡ none) ⊎ (b ≡ m-undoing c) → ⊥
    firm b n (inl e) = no_both h (ap (seen_in (λ y. seen_created y.state)) (sym (seen_at w c) ∙ e))
    firm b n (inr e) = n e

-- where another is entered it stays
no-whom : {A : Type 0} {x : Option Entry} {y : Entry} → x ≡ none → x ≡ some y → A
no-whom p q = let z : ◌≡◌ {A = ℕ} 0 1 = cc in absurd (omega arith)

beside : {w z : World} {o : Op} (c : ℕ) (y : Entry) → Shape w o z → told (pc_by (act w o)) (entry_by (act w o) w) ≡ some y → is_running (core_at z c).state ≡ false → core_at z c ≡ core_at w c
beside {w} {z} {o} c y (works e b n t) q l = no-whom (ap (told (pc_by (act w o))) e.entry) q
beside {w} {z} {o} c y (enters u d s e t) q l = go (ℕ_discrete c u)
  where
    go : Dec (c ≡ u) → core_at z c ≡ core_at w c
    go (yes p) = no_both (ap (λ x. is_running (core_at z x).state) p ∙ t.mine) l
    go (no p) = t.others c p
beside {w} {z} {o} c y (suspended p ok s dst x a chain e n t) q l = no-whom (ap (told (pc_by (act w o))) e.entry) q
beside {w} {z} {o} c y (returns v x f fs a chain e en g t u) q l = no-whom (ap (told (pc_by (act w o))) e.entry) q
beside {w} {z} {o} c y (stops e i t) q l = no-whom (ap (told (pc_by (act w o))) e.entry) q

pub unbegun : (c : ℕ) (w : World) (k : Call) → (D.Restarts steps w k → ⊥) → (D.Enters steps c w k → ⊥) → state_is (view_of w) seen_created c ≡ true → (ends_unbegun (announced_by (view_of w) (model_op k)) ≡ some c → whom (view_of w) (model_op k) ≡ none → ⊥)
    → (view_of (next w k)).coro c ≡ (view_of w).coro c
unbegun c w k r i h u = go (whom (view_of w) (model_op k)) refl
  where
    case : (y : Entry) {k : Call} (z : World) → StepCase w k z → whom (view_of w) (model_op k) ≡ some y → is_running (core_at z c).state ≡ false → (view_of z).coro c ≡ (view_of w).coro c
    case y z (anew s e) q l = no-whom refl q
    case y z (same k e) q l = refl
    case y z (does o e) q l = sym (seen_at z c) ∙ ap (λ (x : Seat). x.seen) (beside c y (shape w o.op) (sym (whom-told w e o.op) ∙ q) l) ∙ seen_at w c

    go : (y : Option Entry) → whom (view_of w) (model_op k) ≡ y → (view_of (next w k)).coro c ≡ (view_of w).coro c
    go none e = not-undone c w k r i h (λ q. u q e)
    go (some y) e = case y (next w k) (step_case w k) e (not_entered c w k i (is-new w c h))
