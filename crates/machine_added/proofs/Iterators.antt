-- Make iterator: refused where the word names no coroutine, else an object of its own. Assumes nothing.
use mathlib.Core.Path.{◌≡◌, refl, sym, ap, ◌∙◌, subst}
use mathlib.Core.Bool.{false}
use Prim.Native.Nat.{ℕ}
use Rattle.lists.proofs.Tests.{never}
use Rattle.heap.specs.declared.fault.Fault.{Fault}
use Rattle.std.specs.Prelude.{Result, None, Ok, Err}
use Rattle.heap.specs.declared.object.CoroState.{CoroState}
use Rattle.model.specs.Object.{Object, Coroutine, Absent, Is}
use Rattle.model.specs.World.{World, After, after, and_then}
use Rattle.model.specs.Heap.{coro, not_a, alloc}
use Rattle.model.specs.Coro.{state_as, coro_state}
use Rattle.model.specs.Gate.{refused}
use Rattle.model.specs.Added.{answer_made, iterator_over, make_iterator}
use Rattle.model.specs.declared.call.Answer.{Answer}
use Rattle.model.specs.declared.machine.Fuel.{Fuel}
use Rattle.memory_world.specs.Memory.{Lent, Rep}
use Rattle.memory_world.specs.Contract.{Does}
use Rattle.memory_world.specs.declared.machine.Machine.{Machine}
use Rattle.memory_world.specs.declared.machine.Sizes.{Sizes}
use Rattle.memory_world.proofs.Does.{does}

-- what was made, as an answer
abbrev pub made_as : Result ℕ Fault → Answer
made_as (Ok v) = Answer.Word v
made_as (Err f) = Answer.Refused f

pub made-any : (w : World) (a : Result ℕ Fault) → (answer_made w a).answer ≡ made_as a
made-any w (Ok v) = refl
made-any w (Err f) = refl

module _ (l : Sizes) (M : Lent) (m : Machine) (f : Fuel) (w : World) (v : ℕ) where
  pub not-over : (g : Fault) → Err g ≡ coro_state w v → Rep l w M m f → Does l (make_iterator v w) M m f (Answer.Refused g)
  unfolding make_iterator
  not-over g e rep = does l M m f (make_iterator v w) w (Answer.Refused g) (go (coro w v) e) rep
    where
      go : (c : Coroutine) → Err g ≡ state_as c (not_a w v) → iterator_over c v w ≡ after w (Answer.Refused g)
      go Absent q = ap (refused w) (let z : not_a w v ≡ g = cc in z)
      go (Is k r) q = never cc

  -- the word made, as an answer
  abbrev iterator : ℕ → After (Result ℕ Fault)
  iterator bytes = alloc bytes (Object.Iter v false None) w

  told : (u : World) (a : Result ℕ Fault) → answer_made u a ≡ after u (made_as a)
  told u (Ok x) = refl
  told u (Err g) = refl

  pub over : (s : CoroState) (a : Result ℕ Fault) (x : Answer) (bytes : ℕ) → Ok s ≡ coro_state w v → bytes ≡ w.setup.costs.iter → ((u : World) → x ≡ (answer_made u a).answer) → Does l (iterator bytes) M m f a → Does l (make_iterator v w) M m f x
  unfolding make_iterator
  over s a x bytes e k q d =
      subst (λ (o : After Answer). Does l o M m f x)
      (sym (go (coro w v) e ∙ ap (λ n. and_then (iterator n) answer_made) (sym k) ∙ told (iterator bytes).world (iterator bytes).answer))
      (record { world = d.world; answer = q w ∙ made-any w a ∙ ap made_as d.answer })
    where
      go : (c : Coroutine) → Ok s ≡ state_as c (not_a w v) → iterator_over c v w ≡ and_then (iterator w.setup.costs.iter) answer_made
      go Absent q = never cc
      go (Is k r) q = refl
