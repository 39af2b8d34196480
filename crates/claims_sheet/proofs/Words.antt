-- The sheet's words are the machine's: lookups, states, heights, charges.
use Prim.Native.Nat.{ℕ, zero, suc, ◌/◌, ◌^◌, ◌≤◌, ◌<◌}
use mathlib.Core.Path.{◌≡◌, refl, sym, ap, subst, ◌∙◌}
use mathlib.Core.Bool.{Bool, true, false, ◌&&◌, ◌||◌, true≢false, false≢true}
use mathlib.Core.List.{List, [], ◌∷◌}
use native.Mathlib.Omega.{arith}
use lib.ListN.{length, get_or}
use lib.Dec.{eqb, ltb, leb, leb→le, le→leb, leb-suc-suc, T}
use Rattle.lists.specs.Pick.{pick}
use Rattle.heap.specs.Table as Table
use Rattle.heap.specs.Table.{Slot, slot, get_in}
use Rattle.heap.specs.Word.{slot_of, tag_of, top_of}
use Rattle.heap.specs.declared.fault.Fault.{Fault}
use Rattle.heap.specs.declared.value.Class.{Class}
use Rattle.std.specs.Prelude.{Some, None}
use Rattle.model.specs.Object.{Object, is_filled}
use Rattle.model.specs.World.{World}
use Rattle.model.specs.Heap.{object_at, object, not_a}
use Rattle.claims_sheet.specs.Words.{is_reference, found, is_nothing, dead}
use Rattle.claims_sheet.proofs.Among.{same, and_left, and_right, and-false, both_true}

pub same_tests : (a b : Bool) → (a ≡ true → b ≡ true) → (b ≡ true → a ≡ true) → a ≡ b
same_tests true true f g = refl
same_tests true false f g = sym (f refl)
same_tests false true f g = g refl
same_tests false false f g = refl

pub le-true : (m n : ℕ) → m ≤ n → leb m n ≡ true
le-true m n h = go (leb m n) (le→leb m n h)
  where
    go : (b : Bool) → T b → b ≡ true
    go true t = refl
    go false t = elim t [ ]

pub true-le : (m n : ℕ) → leb m n ≡ true → m ≤ n
true-le m n e = leb→le m n (subst (λ x. T x) (sym e) tt)

-- "References are 2^48 up to 2^49 - 1"
pub top_one : (v : ℕ) → eqb (top_of v) 1 ≡ is_reference v
top_one v = same_tests (eqb (top_of v) 1) (is_reference v) there back
  where
    there : eqb (top_of v) 1 ≡ true → is_reference v ≡ true
    there e =
        let q : v / 2 ^ 48 ≡ 1 = same (v / 2 ^ 48) 1 e in
        let l : 2 ^ 48 ≤ v = omega arith in
        let m : v < 2 ^ 49 = omega arith in
        both_true (leb (2 ^ 48) v) (ltb v (2 ^ 49)) (le-true (2 ^ 48) v l) (le-true (suc v) (2 ^ 49) m)

    back : is_reference v ≡ true → eqb (top_of v) 1 ≡ true
    back e =
        let l : 2 ^ 48 ≤ v = true-le (2 ^ 48) v (and_left (leb (2 ^ 48) v) (ltb v (2 ^ 49)) e) in
        let m : v < 2 ^ 49 = true-le (suc v) (2 ^ 49) (and_right (leb (2 ^ 48) v) (ltb v (2 ^ 49)) e) in
        let q : v / 2 ^ 48 ≡ 1 = omega arith in
        ap (λ n. eqb n 1) q

-- ---- the object that a word finds

abbrev none : Slot Object
none = slot 0 Object.Empty

past : (xs : List (Slot Object)) (i : ℕ) → ltb i (length xs) ≡ false → get_or xs i none ≡ none
past [] i h = refl
past (x ∷ xs) zero h = absurd (true≢false (sym (le-true 1 (length (x ∷ xs)) (omega arith)) ∙ h))
past (x ∷ xs) (suc i) h = past xs i (sym (leb-suc-suc (suc i) (length xs)) ∙ h)

unfilled : (o : Object) → is_filled o ≡ false → o ≡ Object.Empty
unfilled Object.Empty h = refl
unfilled (Object.Func f) h = absurd (true≢false h)
unfilled (Object.Int n) h = absurd (true≢false h)
unfilled (Object.Iter s d k) h = absurd (true≢false h)
unfilled (Object.Error e f p v) h = absurd (true≢false h)
unfilled (Object.Coro k r) h = absurd (true≢false h)

filled : (o : Object) → is_filled o ≡ true → is_nothing o ≡ false
filled Object.Empty h = absurd (false≢true h)
filled (Object.Func f) h = refl
filled (Object.Int n) h = refl
filled (Object.Iter s d k) h = refl
filled (Object.Error e f p v) h = refl
filled (Object.Coro k r) h = refl

module _ (xs : List (Slot Object)) (v : ℕ) where
  abbrev there : Slot Object
  there = get_or xs (slot_of v) none

  in-slot : (a t f : Bool) → (a ≡ false → there.object ≡ Object.Empty) → (f ≡ false → there.object ≡ Object.Empty) →
      object_at xs (pick (a && (t && f)) (Some (slot_of v)) None) ≡ pick t there.object Object.Empty
  unfolding pick
  in-slot true true true h k = refl
  in-slot true true false h k = sym (k refl)
  in-slot true false f h k = refl
  in-slot false true f h k = sym (h refl)
  in-slot false false f h k = refl

  empty-slot : (a t f : Bool) → (a ≡ false → there.object ≡ Object.Empty) → (f ≡ false → there.object ≡ Object.Empty) → (f ≡ true → is_nothing there.object ≡ false) →
      Table.not_a (Class.Ref (record { 0 = v })) (pick (a && (t && f)) (Some (slot_of v)) None) ≡ pick (is_nothing (pick t there.object Object.Empty) && true) Fault.NullReference Fault.TypeError
  unfolding pick
  empty-slot true true true h k l = ap (λ b. pick (b && true) Fault.NullReference Fault.TypeError) (sym (l refl))
  empty-slot true true false h k l = ap (λ (o : Object). pick (is_nothing o && true) Fault.NullReference Fault.TypeError) (sym (k refl))
  empty-slot true false f h k l = refl
  empty-slot false true f h k l = ap (λ (o : Object). pick (is_nothing o && true) Fault.NullReference Fault.TypeError) (sym (h refl))
  empty-slot false false f h k l = refl

  outside : ltb (slot_of v) (length xs) ≡ false → there.object ≡ Object.Empty
  outside h = ap (λ (s : Slot Object). s.object) (past xs (slot_of v) h)

  abbrev class : Bool → Bool → Bool → ℕ → Class
  class n r i z = pick n Class.Nil (pick r (Class.Ref (record { 0 = v })) (pick i (Class.Int z) Class.Opaque))

  by-class : (n r i : Bool) (z : ℕ) → (n ≡ true → r ≡ false) → object_at xs (get_in Object.Empty is_filled xs (class n r i z)) ≡ pick (r && eqb there.tag (tag_of v)) there.object Object.Empty
  unfolding pick
  by-class true true i z h = absurd (true≢false (h refl))
  by-class true false i z h = refl
  by-class false true i z h = in-slot (ltb (slot_of v) (length xs)) (eqb there.tag (tag_of v)) (is_filled there.object) outside (unfilled there.object)
  by-class false false true z h = refl
  by-class false false false z h = refl

  not-by-class : (n r i : Bool) (z : ℕ) → (n ≡ true → r ≡ false) →
      Table.not_a (class n r i z) (get_in Object.Empty is_filled xs (class n r i z)) ≡ pick (is_nothing (pick (r && eqb there.tag (tag_of v)) there.object Object.Empty) && (n || r)) Fault.NullReference Fault.TypeError
  unfolding pick
  not-by-class true true i z h = absurd (true≢false (h refl))
  not-by-class true false i z h = refl
  not-by-class false true i z h =
      empty-slot (ltb (slot_of v) (length xs)) (eqb there.tag (tag_of v)) (is_filled there.object) outside (unfilled there.object) (filled there.object)
  not-by-class false false true z h = ap (λ b. pick b Fault.NullReference Fault.TypeError) (and-false (is_nothing Object.Empty))
  not-by-class false false false z h = refl

pub nil-first : (v : ℕ) → eqb v 0 ≡ true → eqb (top_of v) 1 ≡ false
nil-first v h = subst (λ x. eqb (top_of x) 1 ≡ false) (sym (same v 0 h)) refl

pub object-found : (w : World) (v : ℕ) → object w v ≡ found w v
object-found w v =
    by-class w.slots v (eqb v 0) (eqb (top_of v) 1) (eqb (top_of v) 0xFFFE) _ (nil-first v)
    ∙ ap (λ b. pick (b && eqb (there w.slots v).tag (tag_of v)) (there w.slots v).object Object.Empty) (top_one v)

pub not_a_lem : (w : World) (v : ℕ) → not_a w v ≡ pick (dead w v) Fault.NullReference Fault.TypeError
not_a_lem w v =
    not-by-class w.slots v (eqb v 0) (eqb (top_of v) 1) (eqb (top_of v) 0xFFFE) _ (nil-first v)
    ∙ ap (λ b. pick (is_nothing (pick (b && eqb (there w.slots v).tag (tag_of v)) (there w.slots v).object Object.Empty) && (eqb v 0 || b)) Fault.NullReference Fault.TypeError) (top_one v)
