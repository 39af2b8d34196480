-- 01: "queues hold coroutines, each not twice in one queue, the ready queue only tasks and the cleanup queue only finalized ones"
use mathlib.Core.Path.{◌≡◌, refl, sym, ap, ◌∙◌}
use mathlib.Core.Bool.{Bool, true, false, not}
use mathlib.Core.List.{List, [], ◌∷◌, ◌++◌}
use Prim.Native.Nat.{ℕ}
use lib.Dec.{eqb}
use borrow.Author.Tests.{eqb-true, eqb-false}
use Rattle.heap.specs.Table.{Slot, push_object}
use Rattle.model.specs.Lists.{each, among, distinct}
use Rattle.model.specs.Object.{Core, Rest, Object, Absent, as_coro}
use Rattle.model.specs.Sound.{marked}
use Rattle.claims_sound.proofs.Tests.{and_right, each-imp, each_snoc, distinct_snoc, among-not}
use Rattle.claims_sound.proofs.Point.{coro_in, Points, found, put, put-here}
use Rattle.claims_sound.proofs.Slots.{test-other, test-push, test_plain, put_coro}

pub record Queue (mark : Rest → Bool) (xs : List (Slot Object)) (q : List ℕ) : Type 0 where
  pub marks : each (λ v. marked mark (coro_in xs v)) q ≡ true
  pub apart : distinct q ≡ true

module _ (mark : Rest → Bool) where
  -- marks that stay keep a queue
  marks_stay : {xs ys : List (Slot Object)} {q : List ℕ} → ((u : ℕ) → marked mark (coro_in xs u) ≡ true → marked mark (coro_in ys u) ≡ true) → Queue mark xs q → Queue mark ys q
  marks_stay {xs} {ys} {q} f h = record { marks = each-imp (λ v. marked mark (coro_in xs v)) (λ v. marked mark (coro_in ys v)) f q h.marks; apart = h.apart }

  pub queue-put : {xs : List (Slot Object)} {v : ℕ} {k : Core} {r : Rest} {q : List ℕ} (p : Points xs v (Object.Coro k r)) (k' : Core) (r' : Rest) → (mark r ≡ true → mark r' ≡ true) → Queue mark xs q
      → Queue mark (put_coro p k' r') q
  queue-put {xs} {v} {k} {r} {q} p k' r' keep h = marks_stay (λ u t. go u (eqb u v) refl t) h
    where
      go : (u : ℕ) (b : Bool) → eqb u v ≡ b → marked mark (coro_in xs u) ≡ true → marked mark (coro_in (put_coro p k' r') u) ≡ true
      go u true e t =
          let z : u ≡ v = eqb-true u v e in
          let m : mark r ≡ true = sym (ap (marked mark) (found xs v k r p)) ∙ sym (ap (λ x. marked mark (coro_in xs x)) z) ∙ t in
          ap (λ x. marked mark (coro_in (put_coro p k' r') x)) z ∙ ap (marked mark) (found (put_coro p k' r') v k' r' (put-here p (Object.Coro k' r') refl)) ∙ keep m
      go u false e t = test-other (marked mark) refl p (Object.Coro k' r') (eqb-false u v e) t

  pub queue-plain : {xs : List (Slot Object)} {v : ℕ} {o : Object} {q : List ℕ} (p : Points xs v o) (n : Object) → as_coro o ≡ Absent → Queue mark xs q → Queue mark (put p n) q
  queue-plain p n a h = marks_stay (λ u t. test_plain (marked mark) refl p n u a t) h

  pub queue-push : {xs : List (Slot Object)} {q : List ℕ} (n : Object) → Queue mark xs q → Queue mark (push_object xs n) q
  queue-push {xs} n h = marks_stay (λ u t. test-push (marked mark) refl xs n u t) h

  -- a word that is marked now and was not joins the queue
  pub queue-join : {xs : List (Slot Object)} {v : ℕ} {k : Core} {r : Rest} {q : List ℕ} (p : Points xs v (Object.Coro k r)) (r' : Rest) → mark r ≡ false → mark r' ≡ true → Queue mark xs q
      → Queue mark (put_coro p k r') (q ++ (v ∷ []))
  queue-join {xs} {v} {k} {r} {q} p r' was now h =
      let h' = queue-put p k r' (λ t. now) h in
      record {
        marks = each_snoc (λ u. marked mark (coro_in (put_coro p k r') u)) q v h'.marks (ap (marked mark) (found (put_coro p k r') v k r' (put-here p (Object.Coro k r') refl)) ∙ now);
        apart = distinct_snoc v q h.apart (among-not (λ u. marked mark (coro_in xs u)) v q h.marks (ap (marked mark) (found xs v k r p) ∙ was));
      }

  pub queue-tail : {xs : List (Slot Object)} {v : ℕ} {q : List ℕ} → Queue mark xs (v ∷ q) → Queue mark xs q
  queue-tail {xs} {v} {q} h = record { marks = and_right (marked mark (coro_in xs v)) _ h.marks; apart = and_right (not (among v q)) _ h.apart }

  pub queue-none : {xs : List (Slot Object)} → Queue mark xs []
  queue-none = record { marks = refl; apart = refl }
