-- What a slot's kind tells of its object: a function, an iterator that is done. Assumes nothing.
use mathlib.Core.Path.{◌≡◌, refl, ap, ◌∙◌}
use mathlib.Core.Bool.{Bool, true, false}
use mathlib.Core.List.{List}
use Prim.Native.Nat.{ℕ}
use borrow.Author.Tests.{ne_eqb, eq-eqb}
use lib.ListN.{get_or}
use lib.Dec.{eqb}
use Rattle.lists.specs.Pick.{pick}
use Rattle.heap.specs.Object.{is_done}
use Rattle.heap.specs.Slot.{is_set, coro_at, object_at}
use Rattle.heap.specs.Kind.{as_callee}
use Rattle.heap.specs.declared.fault.Fault.TheVariants as F
use Rattle.std.specs.Prelude.{Some, None, Ok, Err}
use Rattle.heap.specs.declared.object.Object.{Object}
use Rattle.heap.specs.declared.object.Object.TheVariants as O

module _ (ws : List ℕ) where
  abbrev kind : ℕ
  kind = get_or ws 1 0

  abbrev done : Bool
  done = is_set (get_or ws 3 0)

  -- the object by the six tests of its kind
  abbrev by_tests : Bool → Bool → Bool → Bool → Bool → Bool → Object
  by_tests a b c d e f =
      pick a (O.Func (get_or ws 2 0))
      (pick b (O.Int (get_or ws 2 0))
      (pick c (O.Iter (get_or ws 2 0) done None)
      (pick d (O.Iter (get_or ws 2 0) done (Some (get_or ws 4 0)))
      (pick e (O.Error (get_or ws 2 0) (get_or ws 3 0) (get_or ws 4 0) (get_or ws 5 0))
      (pick f (O.Coro (coro_at ws))
      O.Empty)))))

  callee-by : (a b c d e f : Bool) → as_callee (by_tests a b c d e f) ≡ pick a (Ok (get_or ws 2 0)) (Err F.TypeError)
  unfolding pick
  callee-by true b c d e f = refl
  callee-by false true c d e f = refl
  callee-by false false true d e f = refl
  callee-by false false false true e f = refl
  callee-by false false false false true f = refl
  callee-by false false false false false true = refl
  callee-by false false false false false false = refl

  callee-kind : as_callee (object_at ws) ≡ pick (eqb kind 1) (Ok (get_or ws 2 0)) (Err F.TypeError)
  callee-kind = callee-by (eqb kind 1) (eqb kind 2) (eqb kind 3) (eqb kind 4) (eqb kind 5) (eqb kind 6)

  -- kind 1 is a function
  pub func-kind : kind ≡ 1 → as_callee (object_at ws) ≡ Ok (get_or ws 2 0)
  unfolding pick
  func-kind e = callee-kind ∙ ap (λ (b : Bool). pick b (Ok (get_or ws 2 0)) (Err F.TypeError)) (eq-eqb kind 1 e)

  pub no-func : (kind ≡ 1 → ⊥) → as_callee (object_at ws) ≡ Err F.TypeError
  unfolding pick
  no-func h = callee-kind ∙ ap (λ (b : Bool). pick b (Ok (get_or ws 2 0)) (Err F.TypeError)) (ne_eqb kind 1 h)

  iter-by : (k : ℕ) → k ≡ 3 → is_done (by_tests (eqb k 1) (eqb k 2) (eqb k 3) (eqb k 4) (eqb k 5) (eqb k 6)) ≡ done
  unfolding pick
  iter-by k e = rw e

  keyed-by : (k : ℕ) → k ≡ 4 → is_done (by_tests (eqb k 1) (eqb k 2) (eqb k 3) (eqb k 4) (eqb k 5) (eqb k 6)) ≡ done
  unfolding pick
  keyed-by k e = rw e

  other-by : (a b c d e f : Bool) → c ≡ false → d ≡ false → is_done (by_tests a b c d e f) ≡ false
  unfolding pick
  other-by true b c d e f g h = refl
  other-by false true c d e f g h = refl
  other-by false false c d true f g h = rw (g, h)
  other-by false false c d false true g h = rw (g, h)
  other-by false false c d false false g h = rw (g, h)

  -- kinds 3 and 4 are iterators
  pub iter-kind : kind ≡ 3 → is_done (object_at ws) ≡ done
  iter-kind e = iter-by kind e

  pub keyed-kind : kind ≡ 4 → is_done (object_at ws) ≡ done
  keyed-kind e = keyed-by kind e

  pub no-iter : (kind ≡ 3 → ⊥) → (kind ≡ 4 → ⊥) → is_done (object_at ws) ≡ false
  no-iter g h = other-by (eqb kind 1) (eqb kind 2) (eqb kind 3) (eqb kind 4) (eqb kind 5) (eqb kind 6) (ne_eqb kind 3 g) (ne_eqb kind 4 h)
