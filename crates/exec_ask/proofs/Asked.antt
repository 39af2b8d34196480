-- What CoroStatus, CoroCurrent, CoroKey and CoroResult leave and answer, outcome by outcome. Assumes nothing.
use mathlib.Core.Path.{◌≡◌, refl, sym, ap, ◌∙◌}
use mathlib.Core.Bool.{Bool, true, false}
use mathlib.Core.List.{List, [], ◌∷◌}
use Prim.Native.Nat.{ℕ, ◌-◌, ◌≤◌}
use native.Mathlib.Omega.{arith}
use lib.ListN.{length}
use Rattle.lists.specs.Pick.{pick, pick_true, pick-false}
use Rattle.heap.specs.Object.{code_of}
use Rattle.heap.specs.declared.fault.Fault.{Fault}
use Rattle.heap.specs.declared.object.CoroState.{CoroState}
use Rattle.model.specs.State.{is_returned}
use Rattle.model.specs.Object.{Core, Rest, Absent, Is}
use Rattle.model.specs.World.{World}
use Rattle.model.specs.Frames.{reg, put_reg}
use Rattle.model.specs.Heap.{coro, not_a}
use Rattle.model.specs.Coro.{coro_state}
use Rattle.model.specs.Exec.{fault, put, status_of, coro_status, current, coro_current, key_of, coro_key, result_in, coro_result}
use Rattle.std.specs.Prelude.{Ok, Err}
use Rattle.model.specs.declared.exec.Step.{Step}
use Rattle.model.specs.declared.machine.Active.{Active}
use Rattle.model.specs.declared.machine.Fuel.{Fuel}
use Rattle.memory_tables.specs.Layout.{active_in}
use Rattle.memory_tables.specs.Parts.{Chain}
use Rattle.memory_tables.proofs.Decode.{top-active}
use Rattle.memory_world.specs.Memory.{Lent, Rep}
use Rattle.memory_world.specs.Contract.{Does}
use Rattle.memory_world.specs.declared.machine.Machine.{Machine}
use Rattle.memory_world.specs.declared.machine.Sizes.{Sizes}
use Rattle.memory_world.proofs.Does.{does}
use Rattle.memory_world.proofs.Lookup.{Lacks}
use Rattle.exec_ask.specs.Ask.{Current}

-- ---- CoroCurrent

pub current-none : (ws : List ℕ) (n : ℕ) → n ≡ 0 → Current ws n 0
current-none ws n e [] p = refl
current-none ws n e (a ∷ cs) p = let c = p.count in absurd (omega arith)

pub current-top : (ws : List ℕ) (n : ℕ) (a : Active) → 1 ≤ n → a ≡ active_in ws (n - 1) → Current ws n a.coro
current-top ws n a h e [] p = let c = p.count in absurd (omega arith)
current-top ws n a h e (x ∷ cs) p = ap (λ y. y.coro) (e ∙ top-active x cs ws n p)

module _ (l : Sizes) (M : Lent) (m : Machine) (f : Fuel) (w : World) (dst : ℕ) where
  pub current-told : (v : ℕ) → v ≡ current w.chain → Rep l (put_reg dst v w) M m f → Does l (coro_current dst w) M m f Step.Next
  unfolding coro_current
  current-told v e rep = does l M m f (coro_current dst w) (put_reg dst v w) Step.Next (ap (λ x. put dst x w) (sym e)) rep

  -- ---- the others, of the word v in register c

  module _ (c v : ℕ) (is : v ≡ reg w c) where
    pub status-refused : (g : Fault) → Err g ≡ coro_state w v → Rep l w M m f → Does l (coro_status dst c w) M m f (Step.Fault g)
    unfolding coro_status
    status-refused g e rep = does l M m f (coro_status dst c w) w (Step.Fault g) (ap (λ x. status_of (coro_state w x) dst w) (sym is) ∙ ap (λ s. status_of s dst w) (sym e)) rep

    pub status-told : (s : CoroState) (x : ℕ) → Ok s ≡ coro_state w v → x ≡ code_of s → Rep l (put_reg dst x w) M m f → Does l (coro_status dst c w) M m f Step.Next
    unfolding coro_status
    status-told s x e q rep =
        does l M m f (coro_status dst c w) (put_reg dst x w) Step.Next
        (ap (λ y. status_of (coro_state w y) dst w) (sym is) ∙ ap (λ t. status_of t dst w) (sym e) ∙ ap (λ y. put dst y w) (sym q)) rep

    pub key-refused : (g : Fault) → Lacks w.slots v g → Rep l w M m f → Does l (coro_key dst c w) M m f (Step.Fault g)
    unfolding coro_key
    key-refused g q rep =
        does l M m f (coro_key dst c w) w (Step.Fault g)
        (ap (λ y. key_of (coro w y) (not_a w y) dst w) (sym is) ∙ ap (λ k. key_of k (not_a w v) dst w) q.coro ∙ ap (fault w) (sym q.fault)) rep

    pub result-refused : (g : Fault) → Lacks w.slots v g → Rep l w M m f → Does l (coro_result dst c w) M m f (Step.Fault g)
    unfolding coro_result
    result-refused g q rep =
        does l M m f (coro_result dst c w) w (Step.Fault g)
        (ap (λ y. result_in (coro w y) (not_a w y) dst w) (sym is) ∙ ap (λ k. result_in k (not_a w v) dst w) q.coro ∙ ap (fault w) (sym q.fault)) rep

    module _ (k : Core) (r : Rest) (there : coro w v ≡ Is k r) where
      pub key-told : (x : ℕ) → x ≡ r.key → Rep l (put_reg dst x w) M m f → Does l (coro_key dst c w) M m f Step.Next
      unfolding coro_key
      key-told x q rep =
          does l M m f (coro_key dst c w) (put_reg dst x w) Step.Next
          (ap (λ y. key_of (coro w y) (not_a w y) dst w) (sym is) ∙ ap (λ z. key_of z (not_a w v) dst w) there ∙ ap (λ y. put dst y w) (sym q)) rep

      asked : (b : Bool) → is_returned k.state ≡ b → coro_result dst c w ≡ pick b (put dst r.result w) (fault w Fault.InvalidCoroState)
      unfolding coro_result
      asked b e =
          ap (λ y. result_in (coro w y) (not_a w y) dst w) (sym is) ∙ ap (λ z. result_in z (not_a w v) dst w) there
          ∙ ap (λ t. pick t (put dst r.result w) (fault w Fault.InvalidCoroState)) e

      pub result-early : is_returned k.state ≡ false → Rep l w M m f → Does l (coro_result dst c w) M m f (Step.Fault Fault.InvalidCoroState)
      result-early e rep = does l M m f (coro_result dst c w) w (Step.Fault Fault.InvalidCoroState) (asked false e ∙ pick-false _ _) rep

      pub result-told : (x : ℕ) → is_returned k.state ≡ true → x ≡ r.result → Rep l (put_reg dst x w) M m f → Does l (coro_result dst c w) M m f Step.Next
      result-told x e q rep = does l M m f (coro_result dst c w) (put_reg dst x w) Step.Next (asked true e ∙ pick_true _ _ ∙ ap (λ y. put dst y w) (sym q)) rep
