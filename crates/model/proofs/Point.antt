-- The object that a word names. Assumes nothing.
use mathlib.Core.Path.{◌≡◌, refl, ap, ◌∙◌}
use mathlib.Core.Bool.{Bool, true, false}
use mathlib.Core.List.{List}
use Prim.Native.Nat.{ℕ, ◌%◌, ◌^◌, ◌<◌}
use native.Mathlib.Omega.{arith}
use lib.ListN.{length, get_or}
use lib.Dec.{eqb, ltb}
use borrow.Author.Tests.{ltb-true, lt-ltb, eqb-true, eq-eqb, ne_eqb}
use Rattle.lists.specs.Pick.{pick}
use Rattle.lists.proofs.Tests.{never}
use Rattle.heap.specs.Word.{nil, reference, slot_of, tag_of, top_of}
use Rattle.heap.specs.Coding.{bits_of, of_bits}
use Rattle.heap.specs.Table.{Slot, slot, names, get, get_in}
use Rattle.heap.specs.declared.value.Class.{Class}
use Rattle.std.specs.Prelude.{Some, None}
use Rattle.model.specs.Object.{Core, Rest, Object, is_filled, Coroutine, Is, as_coro}
use Rattle.model.specs.Heap.{object_at}
use Rattle.model.proofs.Tests.{no_false, no_true, and_left, and_right, both}

-- the slot at i
abbrev pub at : List (Slot Object) → ℕ → Slot Object
at xs i = get_or xs i (slot 0 Object.Empty)

-- the object, the coroutine that a word names
abbrev pub object_in : List (Slot Object) → ℕ → Object
object_in xs v = object_at xs (get Object.Empty is_filled xs v)

abbrev pub coro_in : List (Slot Object) → ℕ → Coroutine
coro_in xs v = as_coro (object_in xs v)

-- the word v names the object o
pub record Points (xs : List (Slot Object)) (v : ℕ) (o : Object) : Type 0 where
  pub inside : slot_of v < length xs
  pub here : (at xs (slot_of v)).object ≡ o
  pub tag : (at xs (slot_of v)).tag ≡ tag_of v
  pub top : top_of v ≡ 1
  pub filled : is_filled o ≡ true

module _ (xs : List (Slot Object)) (v : ℕ) (o : Object) (f : is_filled o ≡ true) where
  no-empty : {A : Type 0} → Object.Empty ≡ o → A
  no-empty e = no_false (ap is_filled e ∙ f)

  by_name : (t : Bool) → names Object.Empty is_filled xs v ≡ t → top_of v ≡ 1 → object_at xs (pick t (Some (slot_of v)) None) ≡ o → Points xs v o
  unfolding pick
  by_name true t h e =
      let a = and_right (ltb (slot_of v) (length xs)) _ t in
      record {
        inside = ltb-true (slot_of v) (length xs) (and_left (ltb (slot_of v) (length xs)) _ t);
        here = e;
        tag = eqb-true (at xs (slot_of v)).tag (tag_of v) (and_left (eqb (at xs (slot_of v)).tag (tag_of v)) _ a);
        top = h;
        filled = f;
      }
  by_name false t h e = no-empty e

  by-class : (a b c : Bool) (z : ℕ) → eqb (top_of v) 1 ≡ b
      → object_at xs (get_in Object.Empty is_filled xs (pick a Class.Nil (pick b (Class.Ref (record { 0 = v })) (pick c (Class.Int z) Class.Opaque)))) ≡ o → Points xs v o
  unfolding pick
  by-class true b c z h e = no-empty e
  by-class false true c z h e = by_name (names Object.Empty is_filled xs v) refl (eqb-true (top_of v) 1 h) e
  by-class false false true z h e = no-empty e
  by-class false false false z h e = no-empty e

  pub points : object_in xs v ≡ o → Points xs v o
  points e = by-class (eqb v nil) (eqb (top_of v) 1) (eqb (top_of v) 0xFFFE) (bits_of 63 (of_bits 47 (v % 2 ^ 48))) refl e

  name_of : (t : Bool) → t ≡ true → (at xs (slot_of v)).object ≡ o → object_at xs (pick t (Some (slot_of v)) None) ≡ o
  unfolding pick
  name_of true t e = e
  name_of false t e = no_false t

  class_of : (a b c : Bool) (z : ℕ) → a ≡ false → b ≡ true → object_at xs (pick (names Object.Empty is_filled xs v) (Some (slot_of v)) None) ≡ o
      → object_at xs (get_in Object.Empty is_filled xs (pick a Class.Nil (pick b (Class.Ref (record { 0 = v })) (pick c (Class.Int z) Class.Opaque)))) ≡ o
  unfolding pick
  class_of true b c z p q e = no_true p
  class_of false true c z p q e = e
  class_of false false c z p q e = no_false q

  pub pointed : Points xs v o → object_in xs v ≡ o
  pointed p =
      let t = p.top in
      let filled : is_filled (at xs (slot_of v)).object ≡ true = ap is_filled p.here ∙ f in
      class_of (eqb v nil) (eqb (top_of v) 1) (eqb (top_of v) 0xFFFE) (bits_of 63 (of_bits 47 (v % 2 ^ 48)))
      (ne_eqb v nil (λ z. omega arith)) (eq-eqb (top_of v) 1 t)
      (name_of (names Object.Empty is_filled xs v) (both (lt-ltb (slot_of v) (length xs) p.inside) (both (eq-eqb (at xs (slot_of v)).tag (tag_of v) p.tag) filled)) p.here)

-- ---- coroutines

as-coro : (o : Object) (k : Core) (r : Rest) → as_coro o ≡ Is k r → o ≡ Object.Coro k r
as-coro Object.Empty k r e = never cc
as-coro (Object.Func x) k r e = never cc
as-coro (Object.Int x) k r e = never cc
as-coro (Object.Iter s d x) k r e = never cc
as-coro (Object.Error a b c x) k r e = never cc
as-coro (Object.Coro x y) k r e = cc

pub finds : (xs : List (Slot Object)) (v : ℕ) (k : Core) (r : Rest) → coro_in xs v ≡ Is k r → Points xs v (Object.Coro k r)
finds xs v k r e = points xs v (Object.Coro k r) refl (as-coro (object_in xs v) k r e)

pub found : (xs : List (Slot Object)) (v : ℕ) (k : Core) (r : Rest) → Points xs v (Object.Coro k r) → coro_in xs v ≡ Is k r
found xs v k r p = ap as_coro (pointed xs v (Object.Coro k r) refl p)

-- ---- words

-- a reference is made of its slot and its tag
pub word-of : (v : ℕ) → top_of v ≡ 1 → reference (slot_of v) (tag_of v) ≡ v
word-of v h = omega arith
