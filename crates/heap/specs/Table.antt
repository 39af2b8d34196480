-- heap.rs: the slots, for any type of object. `filled` tells an object from an empty slot.
use Rattle.std.specs.Prelude.{ℕ, Bool, ◌&&◌, List, [], ◌∷◌, ◌++◌, length, get_or, set, eqb, ltb, Option, Some, None}
use Rattle.lists.specs.Pick.{pick}
use Rattle.heap.specs.declared.fault.Fault.{Fault}
use Rattle.heap.specs.declared.fault.Fault.TheVariants as F
use Rattle.heap.specs.Word.{slot_of, tag_of, class_of, reference}
use Rattle.heap.specs.declared.value.Class.{Class}
use Rattle.heap.specs.declared.value.Class.TheVariants as C

pub record Slot (A : Type 0) : Type 0 where
  pub tag : ℕ
  pub object : A

abbrev pub slot : {A : Type 0} → ℕ → A → Slot A
slot t o = record { tag = t; object = o }

module _ {A : Type 0} (none : A) (filled : A → Bool) where
  abbrev pub slot_at : List (Slot A) → ℕ → Slot A
  slot_at xs i = get_or xs i (slot 0 none)

  -- 01: "A lookup needs a filled slot with an equal tag."
  abbrev pub names : List (Slot A) → ℕ → Bool
  names xs w = ltb (slot_of w) (length xs) && (eqb (slot_at xs (slot_of w)).tag (tag_of w) && filled (slot_at xs (slot_of w)).object)

  -- heap.rs: get, the slot that a word names
  abbrev pub get_in : List (Slot A) → Class → Option ℕ
  get_in xs C.Nil = None
  get_in xs (C.Ref o) = pick (names xs o.0) (Some (slot_of o.0)) None
  get_in xs (C.Int z) = None
  get_in xs C.Opaque = None

  abbrev pub get : List (Slot A) → ℕ → Option ℕ
  get xs w = get_in xs (class_of w)

  -- conv: dyn_int, the integer that a word is or names
  abbrev pub dyn_int_at : (A → Option ℕ) → List (Slot A) → Option ℕ → Option ℕ
  dyn_int_at int_of xs None = None
  dyn_int_at int_of xs (Some i) = int_of (slot_at xs i).object

  abbrev pub dyn_int_by : (A → Option ℕ) → List (Slot A) → Class → Option ℕ
  dyn_int_by int_of xs C.Nil = None
  dyn_int_by int_of xs (C.Ref o) = dyn_int_at int_of xs (get xs o.0)
  dyn_int_by int_of xs (C.Int n) = Some n
  dyn_int_by int_of xs C.Opaque = None

  abbrev pub dyn_int_of : (A → Option ℕ) → List (Slot A) → ℕ → Option ℕ
  dyn_int_of int_of xs w = dyn_int_by int_of xs (class_of w)

-- heap.rs: an object put into a slot; the tag stays
module _ {A : Type 0} (none : A) where
  abbrev pub put_object : List (Slot A) → ℕ → A → List (Slot A)
  put_object xs i o = set xs i (slot (get_or xs i (slot 0 none)).tag o)

-- heap.rs: the slot that alloc takes is the next one; its tag is 0
abbrev pub push_object : {A : Type 0} → List (Slot A) → A → List (Slot A)
push_object xs o = xs ++ (slot 0 o ∷ [])

abbrev pub next_word : {A : Type 0} → List (Slot A) → ℕ
next_word xs = reference (length xs) 0

-- coll: not_a. 01: "1 for nil or a reference that finds no object, else 2."
abbrev pub not_a : Class → Option ℕ → Fault
not_a C.Nil p = F.NullReference
not_a (C.Ref o) None = F.NullReference
not_a (C.Ref o) (Some i) = F.TypeError
not_a (C.Int z) p = F.TypeError
not_a C.Opaque p = F.TypeError
