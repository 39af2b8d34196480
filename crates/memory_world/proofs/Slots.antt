-- Lookups, replacements and additions in the lower crate's slots are those of the world. Assumes nothing.
use mathlib.Core.Path.{◌≡◌, refl, sym, ap, ◌∙◌}
use mathlib.Core.Bool.{Bool}
use mathlib.Core.List.{List, [], ◌∷◌}
use Prim.Native.Nat.{ℕ, zero, suc}
use lib.ListN.{get_or, set, length-map}
use Rattle.lists.specs.Pick.{pick}
use Rattle.heap.specs.Word.{slot_of, class_of}
use Rattle.heap.specs.Object as HO
use Rattle.heap.specs.Table.{Slot, slot, slot_at, names, get_in, get, put_object, push_object}
use Rattle.heap.specs.Heap.{as_coro, coro_by, coro_of}
use Rattle.heap.specs.declared.value.Class.{Class}
use Rattle.std.specs.Prelude.{Some, None, Ok}
use Rattle.heap.specs.declared.object.Object as H
use Rattle.heap.specs.declared.object.Object.TheVariants as O
use Rattle.model.specs.Object.{Core, Rest, Object, is_filled}
use Rattle.memory_world.specs.Slots.{to_coro, to_object, to_slot, to_slots}

-- ---- a table whose objects are changed one by one

pub at_map : (xs : List (Slot Object)) (i : ℕ) → get_or (to_slots xs) i (slot 0 O.Empty) ≡ to_slot (get_or xs i (slot 0 Object.Empty))
at_map [] i = refl
at_map (x ∷ xs) zero = refl
at_map (x ∷ xs) (suc i) = at_map xs i

filled-same : (o : Object) → HO.is_filled (to_object o) ≡ is_filled o
filled-same Object.Empty = refl
filled-same (Object.Func f) = refl
filled-same (Object.Int n) = refl
filled-same (Object.Iter s d k) = refl
filled-same (Object.Error e f p v) = refl
filled-same (Object.Coro k r) = refl

names_same : (xs : List (Slot Object)) (v : ℕ) → names O.Empty HO.is_filled (to_slots xs) v ≡ names Object.Empty is_filled xs v
names_same xs v = rw (length-map xs to_slot, at_map xs (slot_of v), filled-same (get_or xs (slot_of v) (slot 0 Object.Empty)).object)

in-same : (xs : List (Slot Object)) (k : Class) → get_in O.Empty HO.is_filled (to_slots xs) k ≡ get_in Object.Empty is_filled xs k
in-same xs Class.Nil = refl
in-same xs (Class.Ref o) = ap (λ (b : Bool). pick b (Some (slot_of o.0)) None) (names_same xs o.0)
in-same xs (Class.Int n) = refl
in-same xs Class.Opaque = refl

-- the same slot is found
pub get-same : (xs : List (Slot Object)) (v : ℕ) → get O.Empty HO.is_filled (to_slots xs) v ≡ get Object.Empty is_filled xs v
get-same xs v = in-same xs (class_of v)

-- ---- coroutines

pub record Found (xs : List (Slot Object)) (v i : ℕ) (k : Core) (r : Rest) : Type 0 where
  pub place : get Object.Empty is_filled xs v ≡ Some i
  pub object : (slot_at Object.Empty is_filled xs i).object ≡ Object.Coro k r

-- a coroutine of the world is found with its record
pub coro-found : (xs : List (Slot Object)) (v i : ℕ) (k : Core) (r : Rest) → Found xs v i k r → coro_of (to_slots xs) v ≡ Ok (i, to_coro k r)
coro-found xs v i k r f =
    ap (coro_by (to_slots xs) v) (get-same xs v ∙ f.place)
    ∙ ap (λ (x : Slot H.Object). as_coro i x.object) (at_map xs i)
    ∙ ap (λ (o : Object). as_coro i (to_object o)) f.object

-- ---- replacing and adding

put_map : (xs : List (Slot Object)) (i : ℕ) (x : Slot Object) → to_slots (set xs i x) ≡ set (to_slots xs) i (to_slot x)
put_map [] i x = refl
put_map (y ∷ xs) zero x = refl
put_map (y ∷ xs) (suc i) x = ap (λ (ys : List (Slot H.Object)). to_slot y ∷ ys) (put_map xs i x)

pub put_same : (xs : List (Slot Object)) (i : ℕ) (o : Object) → to_slots (put_object Object.Empty xs i o) ≡ put_object O.Empty (to_slots xs) i (to_object o)
put_same xs i o = put_map xs i (slot (get_or xs i (slot 0 Object.Empty)).tag o) ∙ ap (λ (x : Slot H.Object). set (to_slots xs) i (slot x.tag (to_object o))) (sym (at_map xs i))

pub push-same : (xs : List (Slot Object)) (o : Object) → to_slots (push_object xs o) ≡ push_object (to_slots xs) (to_object o)
push-same [] o = refl
push-same (x ∷ xs) o = ap (λ (ys : List (Slot H.Object)). to_slot x ∷ ys) (push-same xs o)
