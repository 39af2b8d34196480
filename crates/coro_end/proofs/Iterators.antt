-- An iterator that is found in the words is the one that the word names in the world, and what its replacement leaves. Assumes
-- nothing.
use mathlib.Core.Path.{◌≡◌, refl, sym, ap, ◌∙◌, subst}
use mathlib.Core.Bool.{Bool}
use mathlib.Core.List.{List}
use Prim.Native.Nat.{ℕ, ◌+◌, ◌*◌, ◌≤◌}
use native.Mathlib.Omega.{arith}
use lib.ListN.{length}
use Rattle.lists.proofs.Tests.{never}
use Rattle.lists.proofs.Results.{some-same}
use Rattle.heap.specs.Word.{slot_of, tag_of}
use Rattle.heap.specs.Table.{Slot, slot, slot_at, get}
use Rattle.heap.specs.Heap.{slot_in, slots_of, put_slot, TableFits, SlotFits}
use Rattle.heap.specs.Object as HO
use Rattle.std.specs.Prelude.{Option, Some, None}
use Rattle.heap.specs.declared.object.Object as H
use Rattle.heap.specs.declared.object.Object.TheVariants as O
use Rattle.heap.proofs.Lookups.{found-object, found-words}
use Rattle.model.specs.Object.{Object, is_filled}
use Rattle.model.specs.World.{World}
use Rattle.model.specs.Heap.{object_at, object, change_iter_in}
use Rattle.model.specs.declared.machine.Fuel.{Fuel}
use Rattle.claims_sound.proofs.Point.{at, object_in, Points, points, pointed}
use Rattle.memory_world.specs.Slots.{to_object, to_slots}
use Rattle.memory_world.specs.Memory.{Lent, Rep, on_slots}
use Rattle.memory_world.specs.declared.machine.Machine.{Machine}
use Rattle.memory_world.specs.declared.machine.Sizes.{Sizes}
use Rattle.memory_world.proofs.Slots.{at_map, get-same}
use Rattle.memory_world.proofs.Tables.{slots-are}
use Rattle.memory_world.proofs.Lookup.{place-slot}
use Rattle.memory_world.proofs.Slotted.{object-rep}
use Rattle.coro_end.specs.Iter.{iterator, as_iter, iter_by, iter_of}
use Rattle.coro_end.specs.declared.iter.Iterator.{Iterator}

-- an object that was found in the words, as an iterator
pub iter-here : (n : ℕ) (ws : List ℕ) (w i : ℕ) (o r : H.Object) → Some i ≡ get O.Empty HO.is_filled (slots_of n ws) w → r ≡ o → r ≡ (slot_in ws i).object
    → as_iter i o ≡ iter_of (slots_of n ws) w
iter-here n ws w i o r found p q = ap (as_iter i) (sym p ∙ q ∙ found-object n ws w i found) ∙ ap (iter_by (slots_of n ws)) found

-- its slot lies in the words
pub iter-words : (n : ℕ) (ws : List ℕ) (v i s : ℕ) (d : Bool) (k : Option ℕ) → Some (iterator i s d k) ≡ iter_of (slots_of n ws) v → TableFits ws n → SlotFits ws i
iter-words n ws v i s d k e h = go (get O.Empty HO.is_filled (slots_of n ws) v) refl e
  where
    slot_is : (o : H.Object) (j : ℕ) → Some (iterator i s d k) ≡ as_iter j o → i ≡ j
    slot_is O.Empty j e = never cc
    slot_is (O.Func x) j e = never cc
    slot_is (O.Int x) j e = never cc
    slot_is (O.Iter a b x) j e = ap (λ (y : Iterator). y.slot) (some-same e)
    slot_is (O.Error a b p x) j e = never cc
    slot_is (O.Coro a) j e = never cc

    go : (p : Option ℕ) → get O.Empty HO.is_filled (slots_of n ws) v ≡ p → Some (iterator i s d k) ≡ iter_by (slots_of n ws) p → SlotFits ws i
    go None q e = never cc
    go (Some j) q e = let z = slot_is (slot_at O.Empty HO.is_filled (slots_of n ws) j).object j e in let y = found-words n ws v j (sym q) h in omega arith

-- the word v names an iterator, at slot i
pub record Iterates (xs : List (Slot Object)) (v i s : ℕ) (d : Bool) (k : Option ℕ) : Type 0 where
  pub points : Points xs v (Object.Iter s d k)
  pub slot : i ≡ slot_of v

module _ (xs : List (Slot Object)) (v : ℕ) where
  here : (f : Option Iterator) → f ≡ iter_of (to_slots xs) v → f ≡ iter_by (to_slots xs) (get Object.Empty is_filled xs v)
  here f e = e ∙ ap (iter_by (to_slots xs)) (get-same xs v)

  module _ (i s : ℕ) (d : Bool) (k : Option ℕ) where
    inside : (o : Object) (j : ℕ) → Some (iterator i s d k) ≡ as_iter j (to_object o) → (o ≡ Object.Iter s d k) × (i ≡ j)
    inside Object.Empty j e = never cc
    inside (Object.Func x) j e = never cc
    inside (Object.Int x) j e = never cc
    inside (Object.Iter a b x) j e =
        let same = some-same e in
        (sym (ap (λ (y : Iterator). Object.Iter y.src y.done y.key) same), ap (λ (y : Iterator). y.slot) same)
    inside (Object.Error a b p x) j e = never cc
    inside (Object.Coro a b) j e = never cc

    pub held : Some (iterator i s d k) ≡ iter_of (to_slots xs) v → Iterates xs v i s d k
    held e = go (get Object.Empty is_filled xs v) refl (here (Some (iterator i s d k)) e)
      where
        go : (p : Option ℕ) → get Object.Empty is_filled xs v ≡ p → Some (iterator i s d k) ≡ iter_by (to_slots xs) p → Iterates xs v i s d k
        go None q e = never cc
        go (Some j) q e =
            let z = inside (at xs j).object j (e ∙ ap (λ (x : Slot H.Object). as_iter j x.object) (at_map xs j)) in
            record { points = points xs v (Object.Iter s d k) refl (ap (object_at xs) q ∙ z.0); slot = z.1 ∙ place-slot xs v j q }

  module _ (w : World) (f : Bool → Bool) (g : Option ℕ → Option ℕ) where
    other : (o : Object) (j : ℕ) → None ≡ as_iter j (to_object o) → change_iter_in o v f g w ≡ w
    other Object.Empty j e = refl
    other (Object.Func x) j e = refl
    other (Object.Int x) j e = refl
    other (Object.Iter a b x) j e = never cc
    other (Object.Error a b p x) j e = refl
    other (Object.Coro a b) j e = refl

    pub not-held : None ≡ iter_of (to_slots xs) v → change_iter_in (object_in xs v) v f g w ≡ w
    not-held e = go (get Object.Empty is_filled xs v) (here None e)
      where
        go : (p : Option ℕ) → None ≡ iter_by (to_slots xs) p → change_iter_in (object_at xs p) v f g w ≡ w
        go None e = refl
        go (Some j) e = other (at xs j).object j (e ∙ ap (λ (x : Slot H.Object). as_iter j x.object) (at_map xs j))

-- ---- on the world

module _ (l : Sizes) (M : Lent) (m : Machine) (fuel : Fuel) (w : World) (rep : Rep l w M m fuel) (v : ℕ) (f : Bool → Bool) (g : Option ℕ → Option ℕ) where
  in-world : (x : Option Iterator) → x ≡ iter_of (slots_of m.count M.slots) v → x ≡ iter_of (to_slots w.slots) v
  in-world x e = e ∙ ap (λ xs. iter_of xs v) (slots-are (to_slots w.slots) M.slots m.count rep.slots)

  pub iter-absent : None ≡ iter_of (slots_of m.count M.slots) v → Rep l (change_iter_in (object w v) v f g w) M m fuel
  iter-absent e = subst (λ u. Rep l u M m fuel) (sym (not-held w.slots v w f g (in-world None e))) rep

  pub iter-changed : (i s : ℕ) (d : Bool) (k : Option ℕ) (slots' : List ℕ) → Some (iterator i s d k) ≡ iter_of (slots_of m.count M.slots) v
      → slots' ≡ put_slot M.slots i (slot (tag_of v) (O.Iter s (f d) (g k))) → Rep l (change_iter_in (object w v) v f g w) (on_slots slots' M) m fuel
  iter-changed i s d k slots' e q =
      let h = held w.slots v i s d k (in-world (Some (iterator i s d k)) e) in
      subst (λ o. Rep l (change_iter_in o v f g w) (on_slots slots' M) m fuel) (sym (pointed w.slots v (Object.Iter s d k) refl h.points))
      (object-rep l M m fuel w v i (Object.Iter s d k) (Object.Iter s (f d) (g k)) slots' rep h.points h.slot (λ n. refl) (λ n e. refl) q)
