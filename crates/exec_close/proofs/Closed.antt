-- CoroClose on the world, outcome by outcome. Assumes nothing.
use mathlib.Core.Path.{◌≡◌, refl, sym, ap, ap₂, ◌∙◌, subst}
use mathlib.Core.Bool.{true, false}
use mathlib.Core.List.{[], ◌∷◌}
use Prim.Native.Nat.{ℕ}
use Rattle.lists.specs.Pick.{pick, pick_true, pick-false}
use Rattle.heap.specs.Word.{nil}
use Rattle.heap.specs.declared.fault.Fault.{Fault}
use Rattle.heap.specs.declared.object.CoroState.{CoroState}
use Rattle.model.specs.State.{is_created, is_running, is_suspended}
use Rattle.model.specs.World.{World, after}
use Rattle.model.specs.Frames.{reg, put_reg}
use Rattle.model.specs.Heap.{change_coro}
use Rattle.model.specs.Coro.{coro_state, finish_coroutine}
use Rattle.model.specs.Cleanup.{close}
use Rattle.model.specs.Exec.{fault, put, close_entered, close_in, close_to, coro_close}
use Rattle.std.specs.Prelude.{Result, Ok, Err}
use Rattle.model.specs.declared.coro.Entered.{Entered}
use Rattle.model.specs.declared.exec.Step.{Step}
use Rattle.model.specs.declared.machine.Fuel.{Fuel}
use Rattle.claims_sound.proofs.Tests.{no_false, no_true}
use Rattle.memory_world.specs.Memory.{Lent, Rep}
use Rattle.memory_world.specs.Contract.{Does}
use Rattle.memory_world.specs.declared.machine.Machine.{Machine}
use Rattle.memory_world.specs.declared.machine.Sizes.{Sizes}
use Rattle.memory_world.proofs.Does.{does}
use Rattle.exec_close.specs.Close.{end_created}

-- ---- after an entry

module _ (l : Sizes) (M : Lent) (m : Machine) (f : Fuel) (w : World) (v signal : ℕ) (a : Result Entered Fault) where
  abbrev closing : World
  closing = change_coro v (λ k. k) (close signal) w

  pub closes-entered : (e : Entered) → a ≡ Ok e → Rep l closing M m f → Does l (close_entered v signal w a) M m f (Step.Unwind (Fault.Throw signal))
  closes-entered e q rep = does l M m f (close_entered v signal w a) closing (Step.Unwind (Fault.Throw signal)) (ap (close_entered v signal w) q) rep

  pub closes-refused : (g : Fault) → a ≡ Err g → Rep l w M m f → Does l (close_entered v signal w a) M m f (Step.Fault g)
  closes-refused g e rep = does l M m f (close_entered v signal w a) w (Step.Fault g) (ap (close_entered v signal w) e) rep

-- ---- a coroutine that was never entered, or another

module _ (l : Sizes) (M : Lent) (m : Machine) (f : Fuel) (w : World) (s : CoroState) (v : ℕ) where
  pub end_fresh : is_created s ≡ true → Rep l (finish_coroutine v CoroState.Returned nil w) M m f → Rep l (end_created s v w) M m f
  end_fresh e rep = subst (λ u. Rep l u M m f) (sym (ap (λ b. pick b (finish_coroutine v CoroState.Returned nil w) w) e ∙ pick_true _ _)) rep

  pub end-other : is_created s ≡ false → Rep l w M m f → Rep l (end_created s v w) M m f
  end-other e rep = subst (λ u. Rep l u M m f) (sym (ap (λ b. pick b (finish_coroutine v CoroState.Returned nil w) w) e ∙ pick-false _ _)) rep

-- ---- by its state

module _ (l : Sizes) (M : Lent) (m : Machine) (f : Fuel) (w : World) (pc dst v signal : ℕ) where
  -- suspended
  suspended-one : (s : CoroState) → is_suspended s ≡ true → close_to (Ok s) pc dst v signal w ≡ close_in pc dst v signal w
  suspended-one CoroState.Created e = no_false e
  suspended-one CoroState.Running e = no_false e
  suspended-one CoroState.Yielded e = refl
  suspended-one CoroState.Awaiting e = refl
  suspended-one CoroState.Returned e = no_false e
  suspended-one CoroState.Failed e = no_false e

  busy : (s : CoroState) → is_running s ≡ true → close_to (Ok s) pc dst v signal w ≡ fault w Fault.InvalidCoroState
  busy CoroState.Created e = no_false e
  busy CoroState.Running e = refl
  busy CoroState.Yielded e = no_false e
  busy CoroState.Awaiting e = no_false e
  busy CoroState.Returned e = no_false e
  busy CoroState.Failed e = no_false e

  idle : (s : CoroState) → is_suspended s ≡ false → is_running s ≡ false → close_to (Ok s) pc dst v signal w ≡ put dst nil (end_created s v w)
  unfolding pick
  idle CoroState.Created p q = refl
  idle CoroState.Running p q = no_true q
  idle CoroState.Yielded p q = no_true p
  idle CoroState.Awaiting p q = no_true p
  idle CoroState.Returned p q = refl
  idle CoroState.Failed p q = refl

  pub close-suspended-one : (s : CoroState) (t : Step) → is_suspended s ≡ true → Does l (close_in pc dst v signal w) M m f t → Does l (close_to (Ok s) pc dst v signal w) M m f t
  close-suspended-one s t e d = subst (λ z. Does l z M m f t) (sym (suspended-one s e)) d

  pub close-busy : (s : CoroState) → is_running s ≡ true → Rep l w M m f → Does l (close_to (Ok s) pc dst v signal w) M m f (Step.Fault Fault.InvalidCoroState)
  close-busy s e rep = does l M m f (close_to (Ok s) pc dst v signal w) w (Step.Fault Fault.InvalidCoroState) (busy s e) rep

  pub close-idle : (s : CoroState) → is_suspended s ≡ false → is_running s ≡ false → Rep l (put_reg dst nil (end_created s v w)) M m f → Does l (close_to (Ok s) pc dst v signal w) M m f Step.Next
  close-idle s p q rep = does l M m f (close_to (Ok s) pc dst v signal w) (put_reg dst nil (end_created s v w)) Step.Next (idle s p q) rep

  -- the words in its registers
  module _ (c src : ℕ) (is : v ≡ reg w c) (es : signal ≡ reg w src) where
    by-words : (s : Result CoroState Fault) → s ≡ coro_state w v → close_to s pc dst v signal w ≡ coro_close pc dst c src w
    unfolding coro_close
    by-words s e = ap (λ t. close_to t pc dst v signal w) e ∙ ap₂ (λ x y. close_to (coro_state w x) pc dst x y w) is es

    pub close-refused : (g : Fault) → Err g ≡ coro_state w v → Rep l w M m f → Does l (coro_close pc dst c src w) M m f (Step.Fault g)
    close-refused g e rep = does l M m f (coro_close pc dst c src w) w (Step.Fault g) (sym (by-words (Err g) e)) rep

    pub closes : (s : CoroState) (t : Step) → Ok s ≡ coro_state w v → Does l (close_to (Ok s) pc dst v signal w) M m f t → Does l (coro_close pc dst c src w) M m f t
    closes s t e d = subst (λ z. Does l z M m f t) (by-words (Ok s) e) d
