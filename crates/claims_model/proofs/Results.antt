-- The result of a coroutine that fails: the word that was raised, or nil where the run is stopped.
use Prim.Native.Nat.{ℕ}
use native.Mathlib.Omega.{arith}
use mathlib.Core.Path.{◌≡◌, refl, sym, ap, ◌∙◌, subst}
use mathlib.Core.Logic.{◌⊎◌, inl, inr}
use mathlib.Core.Bool.{true}
use mathlib.Core.Option.{Option, none, some}
use Rattle.heap.specs.declared.fault.Fault.{Fault}
use Rattle.heap.specs.declared.object.CoroState.{CoroState}
use Rattle.model.specs.State.{is_running}
use Rattle.model.specs.Object.{Coroutine, Absent, Is}
use Rattle.model.specs.World.{World}
use Rattle.model.specs.Heap.{coro}
use Rattle.model.specs.Coro.{abort_coros}
use Rattle.model.specs.Added.{stop_run}
use Rattle.model.specs.Sound.{sound}
use Rattle.model.specs.Call.{Call}
use Rattle.model.specs.Step.{call}
use Rattle.std.specs.Prelude.{Option as RustOption}
use Rattle.model.specs.declared.call.Op.{Op}
use Rattle.claims_model.specs.Engine.{Seen}
use Rattle.claims_model.specs.Events as Said
use Rattle.claims_model.specs.Events.{raised, ended_as}
use Rattle.claims_model.specs.Steps.{view_of, model_op, steps}
use Rattle.claims_model.proofs.Held.{core_in, core_at}
use Rattle.claims_model.proofs.Split.{next}
use Rattle.claims_model.proofs.Cores.{no_both}
use Rattle.claims_model.proofs.Shape.{Apart}
use Rattle.claims_model.proofs.Ended.{stop-seen}
use Rattle.claims_model.proofs.Claim as Claim
use Rattle.claims_model.proofs.Claim.{StepCase, anew, same, step_case, fresh-absent}
use Rattle.claims_model.proofs.Views.{is-runs, seen_at}
use Rattle.claims_model.proofs.Exact.{one-some, some-op}
use Rattle.claims_model.proofs.Failures.{is_failed, run-fails}
use Rattle.claims_model.proofs.Losses.{unwound, not-apart, is-failed}

module _ (w : World) (h : sound w ≡ true) (c : ℕ) (r : is_running (core_at w c).state ≡ true) where
  unwind-spoils : (f : Fault) (pc : RustOption ℕ) (x : ℕ) → raised (view_of w) f ≡ some x → is_failed (core_at (call (Op.Unwind f pc) w).world c).state ≡ true → (core_at (call (Op.Unwind f pc) w).world c).seen ≡ ended_as CoroState.Failed x
  unfolding call
  unwind-spoils f pc x e l =
      let t = (unwound w h f pc).lost c r l in
      let (y, q, d) = (unwound w h f pc).gone c t.0 t.1 in
      d.1 ∙ ap (ended_as CoroState.Failed) (one-some q e)

  stop-spoils : (core_at (call Op.StopRun w).world c).seen ≡ ended_as CoroState.Failed 0
  unfolding call stop_run abort_coros
  stop-spoils = go (stop-seen w.chain w c)
    where
      there : {A : Type 0} (x : Coroutine) → is_running (core_in x).state ≡ true → (core_in x).seen ≡ none → A
      there Absent q e = no_both q refl
      there (Is k s) q e = let z : ◌≡◌ {A = ℕ} 0 1 = cc in absurd (omega arith)

      go : Apart c w.chain ⊎ (((core_at w c).seen ≡ none) ⊎ ((core_at (call Op.StopRun w).world c).seen ≡ ended_as CoroState.Failed 0)) → (core_at (call Op.StopRun w).world c).seen ≡ ended_as CoroState.Failed 0
      go (inl n) = not-apart w h c r n
      go (inr (inl n)) = there (coro w c) r n
      go (inr (inr e)) = e

-- a call p that lets c fail, and what it leaves of c
by_call : (c : ℕ) (w : World) (p : Op) (y : Option Seen) (k : Call) → Said.Fails steps c w k → model_op k ≡ some p
    → (sound w ≡ true → is_running (core_at w c).state ≡ true → is_failed (core_at (call p w).world c).state ≡ true → (core_at (call p w).world c).seen ≡ y) → (view_of (next w k)).coro c ≡ y
by_call c w p y k g o f = go (next w k) (step_case w k) o (sym (is-failed (next w k) c) ∙ g.after)
  where
    ran : is_running (core_at w c).state ≡ true
    ran = sym (is-runs w c) ∙ g.before

    go : {k : Call} (z : World) → StepCase w k z → model_op k ≡ some p → is_failed (core_at z c).state ≡ true → (view_of z).coro c ≡ y
    go z (anew s e) o a = no_both a (ap (λ x. is_failed (core_in x).state) (fresh-absent s c))
    go z (same k e) o a = no_both a (run-fails (core_at w c).state ran)
    go z (Claim.does j e) o a = sym (seen_at z c) ∙ subst (λ q. is_failed (core_at (call q w).world c).state ≡ true → (core_at (call q w).world c).seen ≡ y) (sym (some-op o)) (f e ran) a

pub spoilt : (c : ℕ) (w : World) (k : Call) (f : Fault) (pc : RustOption ℕ) (x : ℕ) → Said.Fails steps c w k → model_op k ≡ some (Op.Unwind f pc) → raised (view_of w) f ≡ some x → (view_of (next w k)).coro c ≡ ended_as CoroState.Failed x
spoilt c w k f pc x g o e = by_call c w (Op.Unwind f pc) (ended_as CoroState.Failed x) k g o (λ h r l. unwind-spoils w h c r f pc x e l)

pub stopped : (c : ℕ) (w : World) (k : Call) → Said.Fails steps c w k → model_op k ≡ some Op.StopRun → (view_of (next w k)).coro c ≡ ended_as CoroState.Failed 0
stopped c w k g o = by_call c w Op.StopRun (ended_as CoroState.Failed 0) k g o (λ h r l. stop-spoils w h c r)
