-- iter_next on the world, outcome by outcome. Assumes nothing.
use mathlib.Core.Path.{◌≡◌, refl, sym, ap, ap₂, ◌∙◌, subst}
use mathlib.Core.Bool.{Bool, true, false, ◌||◌}
use Prim.Native.Nat.{ℕ}
use Rattle.lists.specs.Pick.{pick, pick_true, pick-false}
use Rattle.heap.specs.Word.{nil}
use Rattle.heap.specs.Heap.{slots_of}
use Rattle.heap.specs.Kind.{done_of}
use Rattle.heap.specs.declared.fault.Fault.{Fault}
use Rattle.heap.specs.declared.object.CoroState.{CoroState}
use Rattle.model.specs.State.{is_awaiting, is_returned}
use Rattle.model.specs.Object.{is_done}
use Rattle.model.specs.World.{World, After, and_then}
use Rattle.model.specs.Frames.{store_pc, reg}
use Rattle.model.specs.Heap.{object, set_done}
use Rattle.model.specs.Coro.{coro_state, coro_enter}
use Rattle.model.specs.Exec.{fault, put, arrive, iter_on, iter_next}
use Rattle.std.specs.Prelude.{Result, Ok, Err}
use Rattle.model.specs.declared.exec.Step.{Step}
use Rattle.model.specs.declared.machine.Driver.{Driver}
use Rattle.model.specs.declared.machine.Fuel.{Fuel}
use Rattle.memory_world.specs.Slots.{to_slots}
use Rattle.memory_world.specs.Memory.{Lent, Rep}
use Rattle.memory_world.specs.Contract.{Does}
use Rattle.memory_world.specs.declared.machine.Machine.{Machine}
use Rattle.memory_world.specs.declared.machine.Sizes.{Sizes}
use Rattle.memory_world.proofs.Does.{does}
use Rattle.memory_world.proofs.Named.{done-same}
use Rattle.memory_world.proofs.Tables.{slots-are}
use Rattle.exec_iter.specs.Iter.{exhausted, stopped}

-- what the words tell of an iterator is what the world does
pub done-in : (l : Sizes) (M : Lent) (m : Machine) (f : Fuel) (w : World) → Rep l w M m f → (iter : ℕ) (r : Bool) → r ≡ done_of (slots_of m.count M.slots) iter → is_done (object w iter) ≡ r
done-in l M m f w rep iter r e = sym (e ∙ ap (λ xs. done_of xs iter) (slots-are (to_slots w.slots) M.slots m.count rep.slots) ∙ done-same w.slots iter)

-- either is the end
pub end-done : (iter : ℕ) (s : CoroState) (w : World) → is_done (object w iter) ≡ true → true ≡ exhausted iter s w
end-done iter s w e = sym (ap (λ b. b || is_returned s) e)

pub end-returned : (iter : ℕ) (s : CoroState) (w : World) (r : Bool) → is_done (object w iter) ≡ false → r ≡ is_returned s → r ≡ exhausted iter s w
end-returned iter s w r e q = q ∙ sym (ap (λ b. b || is_returned s) e)

module _ (l : Sizes) (M : Lent) (m : Machine) (f : Fuel) (w : World) (pc has iter val src : ℕ) where
  module _ (s : CoroState) where
    abbrev next : After Step
    next = and_then (coro_enter src (Driver.Iter has val iter) (store_pc pc w)) (arrive nil)

    by_state : (a b : Bool) → exhausted iter s w ≡ a → is_awaiting s ≡ b
        → iter_on (Ok s) pc has iter val src w ≡ pick a (put has 0 (set_done iter w)) (pick b (fault w Fault.TypeError) next)
    by_state a b p q = ap₂ (λ x y. pick x (put has 0 (set_done iter w)) (pick y (fault w Fault.TypeError) next)) p q

    pub next-ended : exhausted iter s w ≡ true → Rep l (stopped has iter w) M m f → Does l (iter_on (Ok s) pc has iter val src w) M m f Step.Next
    next-ended e rep = does l M m f (iter_on (Ok s) pc has iter val src w) (stopped has iter w) Step.Next (by_state true (is_awaiting s) e refl ∙ pick_true _ _) rep

    module _ (more : exhausted iter s w ≡ false) where
      pub next-awaiting : is_awaiting s ≡ true → Rep l w M m f → Does l (iter_on (Ok s) pc has iter val src w) M m f (Step.Fault Fault.TypeError)
      next-awaiting e rep =
          does l M m f (iter_on (Ok s) pc has iter val src w) w (Step.Fault Fault.TypeError) (by_state false true more e ∙ pick-false _ _ ∙ pick_true _ _) rep

      pub next-entered : (t : Step) → is_awaiting s ≡ false → Does l next M m f t → Does l (iter_on (Ok s) pc has iter val src w) M m f t
      next-entered t e d = subst (λ z. Does l z M m f t) (sym (by_state false false more e ∙ pick-false _ _ ∙ pick-false _ _)) d

  -- the words in its registers: iter and src are those words, i and c the registers
  module _ (i c : ℕ) (it : iter ≡ reg w i) (is : src ≡ reg w c) where
    by-words : (s : Result CoroState Fault) → s ≡ coro_state w src → iter_on s pc has iter val src w ≡ iter_next pc has i val c w
    unfolding iter_next
    by-words s e = ap (λ t. iter_on t pc has iter val src w) e ∙ ap₂ (λ x y. iter_on (coro_state w y) pc has x val y w) it is

    pub next-refused : (g : Fault) → Err g ≡ coro_state w src → Rep l w M m f → Does l (iter_next pc has i val c w) M m f (Step.Fault g)
    next-refused g e rep = does l M m f (iter_next pc has i val c w) w (Step.Fault g) (sym (by-words (Err g) e)) rep

    pub iterates : (s : CoroState) (t : Step) → Ok s ≡ coro_state w src → Does l (iter_on (Ok s) pc has iter val src w) M m f t → Does l (iter_next pc has i val c w) M m f t
    iterates s t e d = subst (λ z. Does l z M m f t) (by-words (Ok s) e) d
