-- What a lookup says of the slots. Assumes nothing.
use mathlib.Core.Path.{◌≡◌, refl, sym, ap, ◌∙◌}
use mathlib.Core.Bool.{Bool, true, false, ◌&&◌}
use mathlib.Core.List.{List}
use Prim.Native.Nat.{ℕ, ◌+◌, ◌*◌, ◌≤◌, ◌<◌}
use native.Mathlib.Omega.{arith}
use borrow.Author.Tests.{ltb-true, lt-ltb, le-ltb, eq-eqb, ne_eqb}
use lib.Dec.{ltb, eqb}
use lib.ListN.{length}
use Rattle.lists.specs.Pick.{pick}
use Rattle.lists.proofs.Tests.{never, and_left}
use Rattle.lists.proofs.Tables.{length-chunks, chunks-at}
use Rattle.heap.specs.Word.{slot_of, tag_of, class_of}
use Rattle.heap.specs.Object.{is_filled}
use Rattle.heap.specs.Table.{Slot, slot, slot_at, names, get_in, get}
use Rattle.heap.specs.Slot.{width, slot_of_words}
use Rattle.heap.specs.Heap.{slot_in, slots_of, as_coro, coro_by, coro_of}
use Rattle.heap.specs.declared.value.Obj.{Obj}
use Rattle.heap.specs.declared.object.Object.{Object}
use Rattle.heap.specs.declared.object.Object.TheVariants as O
use Rattle.std.specs.Prelude.{Option, Some, None}
use Rattle.heap.specs.declared.value.Class.{Class}
use Rattle.heap.specs.declared.value.Class.TheVariants as C

module _ {A : Type 0} (none : A) (filled : A → Bool) (xs : List (Slot A)) where
  by-test : (i w : ℕ) (b : Bool) → names none filled xs w ≡ b → Some i ≡ pick b (Some (slot_of w)) None → i < length xs
  unfolding pick
  by-test i w true e f =
      let h : i ≡ slot_of w = cc in
      let t = and_left (ltb (slot_of w) (length xs)) (eqb (slot_at none filled xs (slot_of w)).tag (tag_of w) && filled (slot_at none filled xs (slot_of w)).object) e in
      rw h (ltb-true (slot_of w) (length xs) t)
  by-test i w false e f = never cc

  in-class : (i : ℕ) (k : Class) → Some i ≡ get_in none filled xs k → i < length xs
  in-class i C.Nil e = never cc
  in-class i (C.Ref o) e = by-test i o.0 (names none filled xs o.0) refl e
  in-class i (C.Int z) e = never cc
  in-class i C.Opaque e = never cc

  -- what is found is a slot of the table
  pub place-below : (i w : ℕ) → Some i ≡ get none filled xs w → i < length xs
  place-below i w e = in-class i (class_of w) e

-- ---- a lookup in the words, from the slot's number, tag and object

module _ (n : ℕ) (ws : List ℕ) (o : Obj) (i t : ℕ) (at : i ≡ slot_of o.0) (tag : t ≡ tag_of o.0) where
  abbrev found : Option ℕ
  found = get_in O.Empty is_filled (slots_of n ws) (C.Ref o)

  pub beyond : n ≤ i → None ≡ found
  unfolding pick
  beyond h = let k : n ≤ slot_of o.0 = rw (← at) h in rw (length-chunks width slot_of_words n ws, le-ltb (slot_of o.0) n k)

  read : i < n → pick (eqb (slot_in ws i).tag t && is_filled (slot_in ws i).object) (Some i) None ≡ found
  read h =
      let k : slot_of o.0 < n = rw (← at) h in
      rw (at, tag, length-chunks width slot_of_words n ws, lt-ltb (slot_of o.0) n k, chunks-at width slot_of_words n (slot_of o.0) ws (slot 0 O.Empty) k)

  pub other_tag : i < n → ((slot_in ws i).tag ≡ t → ⊥) → None ≡ found
  unfolding pick
  other_tag h d = rw (ne_eqb (slot_in ws i).tag t d) at (read h)

  pub same_tag : (b : Bool) → i < n → (slot_in ws i).tag ≡ t → b ≡ is_filled (slot_in ws i).object → pick b (Some i) None ≡ found
  same_tag b h e f = rw (eq-eqb (slot_in ws i).tag t e, ← f) at (read h)

-- ---- a place that was found, in the words

module _ (n : ℕ) (ws : List ℕ) (w i : ℕ) (found : Some i ≡ get O.Empty is_filled (slots_of n ws) w) where
  pub found_below : i < n
  found_below = rw (length-chunks width slot_of_words n ws) at (place-below O.Empty is_filled (slots_of n ws) i w found)

  pub found-words : n * 20 ≤ length ws → i * 20 + 20 ≤ length ws
  found-words h = let k = found_below in omega arith

  pub found-object : (slot_in ws i).object ≡ (slot_at O.Empty is_filled (slots_of n ws) i).object
  found-object = ap (λ (v : Slot Object). v.object) (sym (chunks-at width slot_of_words n i ws (slot 0 O.Empty) found_below))

  -- as a coroutine
  pub found-coro : as_coro i (slot_in ws i).object ≡ coro_of (slots_of n ws) w
  found-coro = ap (as_coro i) found-object ∙ ap (coro_by (slots_of n ws) w) found
