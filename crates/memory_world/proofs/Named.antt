-- The function, and the done iterator, that a word names in the words are those of the world. Assumes nothing.
use mathlib.Core.Path.{◌≡◌, refl, sym, ap, ◌∙◌}
use mathlib.Core.List.{List}
use Prim.Native.Nat.{ℕ}
use Rattle.lists.proofs.Tests.{never}
use Rattle.heap.specs.Word.{class_of}
use Rattle.heap.specs.Object as HO
use Rattle.heap.specs.Table.{Slot, get, not_a}
use Rattle.heap.specs.Kind.{as_callee, callee_by, callee_of, done_by, done_of}
use Rattle.std.specs.Prelude.{Option, Result, Some, None, Ok, Err}
use Rattle.heap.specs.declared.fault.Fault.{Fault}
use Rattle.heap.specs.declared.object.Object as H
use Rattle.model.specs.Object.{Object, is_filled, is_done}
use Rattle.model.specs.Heap.{object_at}
use Rattle.claims_sound.proofs.Point.{at, object_in}
use Rattle.memory_world.specs.Slots.{to_object, to_slots}
use Rattle.memory_world.proofs.Slots.{at_map, get-same}
use Rattle.memory_world.proofs.Lookup.{found-fault}

done-object : (o : Object) → HO.is_done (to_object o) ≡ is_done o
done-object Object.Empty = refl
done-object (Object.Func f) = refl
done-object (Object.Int n) = refl
done-object (Object.Iter s d k) = refl
done-object (Object.Error e f p v) = refl
done-object (Object.Coro k r) = refl

-- no function, and the fault of that
pub record NoFunc (xs : List (Slot Object)) (v : ℕ) (f : Fault) : Type 0 where
  pub object : (g : ℕ) → object_in xs v ≡ Object.Func g → ⊥
  pub fault : f ≡ not_a (class_of v) (get Object.Empty is_filled xs v)

module _ (xs : List (Slot Object)) (v : ℕ) where
  abbrev place : Option ℕ
  place = get Object.Empty is_filled xs v

  done_at : (p : Option ℕ) → done_by (to_slots xs) p ≡ is_done (object_at xs p)
  done_at None = refl
  done_at (Some i) = ap (λ (x : Slot H.Object). HO.is_done x.object) (at_map xs i) ∙ done-object (at xs i).object

  pub done-same : done_of (to_slots xs) v ≡ is_done (object_in xs v)
  done-same = ap (done_by (to_slots xs)) (get-same xs v) ∙ done_at place

  looked : (r : Result ℕ Fault) → r ≡ callee_of (to_slots xs) v → r ≡ callee_by (to_slots xs) v place
  looked r e = e ∙ ap (callee_by (to_slots xs) v) (get-same xs v)

  seen : (r : Result ℕ Fault) (i : ℕ) → r ≡ callee_by (to_slots xs) v (Some i) → r ≡ as_callee (to_object (at xs i).object)
  seen r i e = e ∙ ap (λ (x : Slot H.Object). as_callee x.object) (at_map xs i)

  func-object : (f : ℕ) (o : Object) → Ok f ≡ as_callee (to_object o) → o ≡ Object.Func f
  func-object f Object.Empty e = never cc
  func-object f (Object.Func g) e = ap Object.Func (let z : g ≡ f = cc in z)
  func-object f (Object.Int n) e = never cc
  func-object f (Object.Iter s d k) e = never cc
  func-object f (Object.Error a b p x) e = never cc
  func-object f (Object.Coro k r) e = never cc

  func-at : (f : ℕ) (p : Option ℕ) → Ok f ≡ callee_by (to_slots xs) v p → object_at xs p ≡ Object.Func f
  func-at f None e = never cc
  func-at f (Some i) e = func-object f (at xs i).object (seen (Ok f) i e)

  -- a function that is found is the world's
  pub callee-func : (f : ℕ) → Ok f ≡ callee_of (to_slots xs) v → object_in xs v ≡ Object.Func f
  callee-func f e = func-at f place (looked (Ok f) e)

  none-object : (f : Fault) (o : Object) → Err f ≡ as_callee (to_object o) → (f ≡ Fault.TypeError) × ((g : ℕ) → o ≡ Object.Func g → ⊥)
  none-object f Object.Empty e = (cc, λ g z. never cc)
  none-object f (Object.Func h) e = never cc
  none-object f (Object.Int n) e = (cc, λ g z. never cc)
  none-object f (Object.Iter s d k) e = (cc, λ g z. never cc)
  none-object f (Object.Error a b p x) e = (cc, λ g z. never cc)
  none-object f (Object.Coro k r) e = (cc, λ g z. never cc)

  none-at : (f : Fault) (p : Option ℕ) → place ≡ p → Err f ≡ callee_by (to_slots xs) v p → NoFunc xs v f
  none-at f None q e =
      let z : f ≡ not_a (class_of v) None = cc in
      record {
        object = λ g h. let o : Object.Empty ≡ Object.Func g = sym (ap (object_at xs) q) ∙ h in never cc;
        fault = z ∙ ap (not_a (class_of v)) (sym q);
      }
  none-at f (Some i) q e =
      let z = none-object f (at xs i).object (seen (Err f) i e) in
      record {
        object = λ g h. z.1 g (sym (ap (object_at xs) q) ∙ h);
        fault = z.0 ∙ sym (found-fault xs v (class_of v) i q) ∙ ap (not_a (class_of v)) (sym q);
      }

  -- where none is found the world has none, and the fault is the world's
  pub callee-none : (f : Fault) → Err f ≡ callee_of (to_slots xs) v → NoFunc xs v f
  callee-none f e = none-at f place refl (looked (Err f) e)
