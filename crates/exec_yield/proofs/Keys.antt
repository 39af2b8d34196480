-- The keys of a yield, read from the words. Assumes nothing.
use mathlib.Core.Path.{◌≡◌, refl, sym, ap, ◌∙◌}
use mathlib.Core.Bool.{Bool, true, false}
use mathlib.Core.List.{List}
use Prim.Native.Nat.{ℕ}
use lib.ListN.{get_or}
use Rattle.lists.specs.Pick.{pick, pick_true, pick-false}
use Rattle.heap.specs.Word.{class_of}
use Rattle.heap.specs.Int.{less_bits}
use Rattle.heap.specs.Object as HO
use Rattle.heap.specs.Table.{Slot, slot, get, dyn_int_at, dyn_int_by, dyn_int_of}
use Rattle.heap.specs.Heap.{slots_of, coro_of}
use Rattle.heap.specs.declared.fault.Fault.{Fault}
use Rattle.heap.specs.declared.value.Class.{Class}
use Rattle.std.specs.Prelude.{Option, Some, None, Ok, Err}
use Rattle.heap.specs.declared.object.CoroObj.{CoroObj}
use Rattle.heap.specs.declared.object.Object as H
use Rattle.heap.specs.declared.object.Object.TheVariants as O
use Rattle.model.specs.Object.{Object, is_filled}
use Rattle.model.specs.World.{World}
use Rattle.model.specs.Heap.{coro, int_in, dyn_int}
use Rattle.model.specs.Exec.{largest_in, larger_of}
use Rattle.model.specs.declared.machine.Fuel.{Fuel}
use Rattle.memory_world.specs.Slots.{to_object, to_slots}
use Rattle.memory_world.specs.Memory.{Lent, Rep}
use Rattle.memory_world.specs.declared.machine.Machine.{Machine}
use Rattle.memory_world.specs.declared.machine.Sizes.{Sizes}
use Rattle.memory_world.proofs.Slots.{at_map, get-same}
use Rattle.memory_world.proofs.Tables.{slots-are}
use Rattle.memory_world.proofs.Lookup.{lacks, there}

-- ---- the integer that a word is or names

int_same : (o : Object) → HO.int_of (to_object o) ≡ int_in o
int_same Object.Empty = refl
int_same (Object.Func f) = refl
int_same (Object.Int n) = refl
int_same (Object.Iter s d k) = refl
int_same (Object.Error e f p v) = refl
int_same (Object.Coro k r) = refl

place_same : (xs : List (Slot Object)) (p : Option ℕ) → dyn_int_at O.Empty HO.is_filled HO.int_of (to_slots xs) p ≡ dyn_int_at Object.Empty is_filled int_in xs p
place_same xs None = refl
place_same xs (Some i) = ap (λ (x : Slot H.Object). HO.int_of x.object) (at_map xs i) ∙ int_same (get_or xs i (slot 0 Object.Empty)).object

class_same : (xs : List (Slot Object)) (k : Class) → dyn_int_by O.Empty HO.is_filled HO.int_of (to_slots xs) k ≡ dyn_int_by Object.Empty is_filled int_in xs k
class_same xs Class.Nil = refl
class_same xs (Class.Ref o) = ap (dyn_int_at O.Empty HO.is_filled HO.int_of (to_slots xs)) (get-same xs o.0) ∙ place_same xs (get Object.Empty is_filled xs o.0)
class_same xs (Class.Int n) = refl
class_same xs Class.Opaque = refl

module _ (l : Sizes) (M : Lent) (m : Machine) (f : Fuel) (w : World) (rep : Rep l w M m f) (v : ℕ) where
  pub dyn-int-is : dyn_int_of O.Empty HO.is_filled HO.int_of (slots_of m.count M.slots) v ≡ dyn_int w v
  dyn-int-is =
      ap (λ (xs : List (Slot H.Object)). dyn_int_of O.Empty HO.is_filled HO.int_of xs v) (slots-are (to_slots w.slots) M.slots m.count rep.slots)
      ∙ class_same w.slots (class_of v)

  -- ---- the largest key of a coroutine

  here : coro_of (slots_of m.count M.slots) v ≡ coro_of (to_slots w.slots) v
  here = ap (λ xs. coro_of xs v) (slots-are (to_slots w.slots) M.slots m.count rep.slots)

  pub largest-none : (g : Fault) → Err g ≡ coro_of (slots_of m.count M.slots) v → 0xFFFF_FFFF_FFFF_FFFF ≡ largest_in (coro w v)
  largest-none g e = sym (ap largest_in (lacks w.slots v g (e ∙ here)).coro)

  pub largest-at : (i : ℕ) (c : CoroObj) → Ok (i, c) ≡ coro_of (slots_of m.count M.slots) v → c.largest ≡ largest_in (coro w v)
  largest-at i c e = let t = there w.slots v i c (e ∙ here) in ap (λ x. x.largest) t.is ∙ sym (ap largest_in t.coro)

-- ---- 01: "raises the largest if the key is a greater integer"

module _ (largest : ℕ) (n : Option ℕ) where
  pub keeps-none : n ≡ None → largest ≡ larger_of largest n
  keeps-none e = sym (ap (larger_of largest) e)

  pub rises : (k : ℕ) → n ≡ Some k → less_bits largest k ≡ true → k ≡ larger_of largest n
  rises k e h = sym (ap (larger_of largest) e ∙ ap (λ (b : Bool). pick b k largest) h ∙ pick_true _ _)

  pub keeps : (k : ℕ) → n ≡ Some k → less_bits largest k ≡ false → largest ≡ larger_of largest n
  keeps k e h = sym (ap (larger_of largest) e ∙ ap (λ (b : Bool). pick b k largest) h ∙ pick-false _ _)
