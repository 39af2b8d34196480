-- ResumeThrow on the world, outcome by outcome. Assumes nothing.
use mathlib.Core.Path.{◌≡◌, refl, sym, ap, ap₂, ◌∙◌, subst}
use mathlib.Core.Bool.{Bool, true, false}
use Prim.Native.Nat.{ℕ}
use Rattle.lists.specs.Pick.{pick, pick_true, pick-false}
use Rattle.heap.specs.declared.fault.Fault.{Fault}
use Rattle.heap.specs.declared.object.CoroState.{CoroState}
use Rattle.model.specs.State.{is_created}
use Rattle.model.specs.World.{World, After, after, and_then}
use Rattle.model.specs.Frames.{store_pc, reg}
use Rattle.model.specs.Coro.{coro_state, coro_enter, finish_coroutine}
use Rattle.model.specs.Exec.{fault, throw_entered, throw_to, resume_throw}
use Rattle.std.specs.Prelude.{Result, Ok, Err}
use Rattle.model.specs.declared.coro.Entered.{Entered}
use Rattle.model.specs.declared.exec.Step.{Step}
use Rattle.model.specs.declared.machine.Driver.{Driver}
use Rattle.model.specs.declared.machine.Fuel.{Fuel}
use Rattle.memory_world.specs.Memory.{Lent, Rep}
use Rattle.memory_world.specs.Contract.{Does}
use Rattle.memory_world.specs.declared.machine.Machine.{Machine}
use Rattle.memory_world.specs.declared.machine.Sizes.{Sizes}
use Rattle.memory_world.proofs.Does.{does}
use Rattle.exec_enter.specs.Throw.{raised}

-- the entered coroutine's world stays
raises : (v : ℕ) (w : World) (a : Result Entered Fault) → throw_entered v w a ≡ after w (raised v a)
raises v w (Ok Entered.Fresh) = refl
raises v w (Ok (Entered.Suspended d)) = refl
raises v w (Err f) = refl

module _ (l : Sizes) (M : Lent) (m : Machine) (f : Fuel) (w : World) (pc dst v err : ℕ) where
  module _ (s : CoroState) where
    abbrev entry : After (Result Entered Fault)
    entry = coro_enter v (Driver.Resume dst) (store_pc pc w)

    abbrev failed : World
    failed = finish_coroutine v CoroState.Failed err w

    by_state : (b : Bool) → is_created s ≡ b → throw_to (Ok s) pc dst v err w ≡ pick b (fault failed (Fault.Throw err)) (and_then entry (throw_entered err))
    by_state b e = ap (λ t. pick t (fault failed (Fault.Throw err)) (and_then entry (throw_entered err))) e

    pub throw-created : is_created s ≡ true → Rep l failed M m f → Does l (throw_to (Ok s) pc dst v err w) M m f (Step.Fault (Fault.Throw err))
    throw-created e rep = does l M m f (throw_to (Ok s) pc dst v err w) failed (Step.Fault (Fault.Throw err)) (by_state true e ∙ pick_true _ _) rep

    pub throw-entered : (a : Result Entered Fault) (t : Step) → is_created s ≡ false → Does l entry M m f a → t ≡ raised err a → Does l (throw_to (Ok s) pc dst v err w) M m f t
    throw-entered a t e d q =
        does l M m f (throw_to (Ok s) pc dst v err w) entry.world t
        (by_state false e ∙ pick-false _ _ ∙ raises err entry.world entry.answer ∙ ap (λ x. after entry.world (raised err x)) (sym d.answer) ∙ ap (after entry.world) (sym q)) d.world

  -- the words in its registers
  module _ (c src : ℕ) (is : v ≡ reg w c) (es : err ≡ reg w src) where
    by-words : (s : Result CoroState Fault) → s ≡ coro_state w v → throw_to s pc dst v err w ≡ resume_throw pc dst c src w
    unfolding resume_throw
    by-words s e = ap (λ t. throw_to t pc dst v err w) e ∙ ap₂ (λ x y. throw_to (coro_state w x) pc dst x y w) is es

    pub throw-refused : (g : Fault) → Err g ≡ coro_state w v → Rep l w M m f → Does l (resume_throw pc dst c src w) M m f (Step.Fault g)
    throw-refused g e rep = does l M m f (resume_throw pc dst c src w) w (Step.Fault g) (sym (by-words (Err g) e)) rep

    pub throws : (s : CoroState) (t : Step) → Ok s ≡ coro_state w v → Does l (throw_to (Ok s) pc dst v err w) M m f t → Does l (resume_throw pc dst c src w) M m f t
    throws s t e d = subst (λ z. Does l z M m f t) (by-words (Ok s) e) d
