-- The rows held, after a slot was filled anew or one was added; the lowest free row.
use mathlib.Core.Path.{◌≡◌, refl, sym, ap, ◌∙◌, subst}
use mathlib.Core.Bool.{Bool, true, false, not, ◌&&◌, ◌||◌}
use mathlib.Core.List.{List, [], ◌∷◌, ◌++◌}
use Prim.Native.Nat.{ℕ, zero, suc, ◌+◌, ◌<◌}
use native.Mathlib.Omega.{arith}
use lib.ListN.{set}
use lib.Dec.{eqb, ltb}
use Rattle.lists.specs.Pick.{pick, pick_true, pick-false}
use Rattle.heap.specs.Table.{Slot}
use Rattle.model.specs.Lists.{each, among, distinct}
use Rattle.model.specs.State.{is_finished}
use Rattle.model.specs.Object.{Core, Rest, Object, Coroutine, Absent, Is, as_coro}
use Rattle.model.specs.Rows.{held_by, held_rows, lowest_free}
use Rattle.model.specs.Program.{Setup}
use Rattle.claims_sound.proofs.Tests.{and_left, and_right, both, or-second, negate, unnegate, each_snoc, distinct_snoc}
use Rattle.claims_sound.proofs.Point.{at}

-- a coroutine holds no row, or the row n
pub data Holds (c : Coroutine) : Type 0 where
  holds-none : ((rows : List ℕ) → held_by c rows ≡ rows) → Holds c
  holds_row : (n : ℕ) → ((rows : List ℕ) → held_by c rows ≡ n ∷ rows) → Holds c

pub free_of : (k : Core) (r : Rest) → is_finished k.state ≡ true → (rows : List ℕ) → held_by (Is k r) rows ≡ rows
free_of k r e rows = ap (λ b. pick b rows (r.row ∷ rows)) e ∙ pick_true _ _

pub row-of : (k : Core) (r : Rest) → is_finished k.state ≡ false → (rows : List ℕ) → held_by (Is k r) rows ≡ r.row ∷ rows
row-of k r e rows = ap (λ b. pick b rows (r.row ∷ rows)) e ∙ pick-false _ _

holds : (c : Coroutine) → Holds c
holds Absent = holds-none (λ rows. refl)
holds (Is k r) = go (is_finished k.state) refl
  where
    go : (b : Bool) → is_finished k.state ≡ b → Holds (Is k r)
    go true e = holds-none (free_of k r e)
    go false e = holds_row r.row (row-of k r e)

-- ---- one slot filled anew

pub held_same : (xs : List (Slot Object)) (i : ℕ) (y : Slot Object) → ((rows : List ℕ) → held_by (as_coro y.object) rows ≡ held_by (as_coro (at xs i).object) rows)
    → held_rows (set xs i y) ≡ held_rows xs
held_same [] i y h = refl
held_same (x ∷ xs) zero y h = h (held_rows xs)
held_same (x ∷ xs) (suc i) y h = ap (held_by (as_coro x.object)) (held_same xs i y h)

-- what passes of the rows held with one more passes of them
less : (P : List ℕ → Type 0) → ((n : ℕ) (rows : List ℕ) → P (n ∷ rows) → P rows) → (c : Coroutine) → Holds c → (rows : List ℕ) → P (held_by c rows) → P rows
less P f c (holds-none e) rows p = subst P (e rows) p
less P f c (holds_row n e) rows p = f n rows (subst P (e rows) p)

module _ (y : Slot Object) (none : (rows : List ℕ) → held_by (as_coro y.object) rows ≡ rows) where
  each-gone : (p : ℕ → Bool) (xs : List (Slot Object)) (i : ℕ) → each p (held_rows xs) ≡ true → each p (held_rows (set xs i y)) ≡ true
  each-gone p [] i e = e
  each-gone p (x ∷ xs) zero e =
      subst (λ rows. each p rows ≡ true) (sym (none (held_rows xs)))
      (less (λ rows. each p rows ≡ true) (λ n rows q. and_right (p n) _ q) (as_coro x.object) (holds (as_coro x.object)) (held_rows xs) e)
  each-gone p (x ∷ xs) (suc i) e = go (as_coro x.object) (holds (as_coro x.object)) e (λ q. each-gone p xs i q)
    where
      go : (c : Coroutine) → Holds c → each p (held_by c (held_rows xs)) ≡ true → (each p (held_rows xs) ≡ true → each p (held_rows (set xs i y)) ≡ true) → each p (held_by c (held_rows (set xs i y))) ≡ true
      go c (holds-none q) h next = subst (λ rows. each p rows ≡ true) (sym (q _)) (next (subst (λ rows. each p rows ≡ true) (q _) h))
      go c (holds_row n q) h next =
          let h' : (p n && each p (held_rows xs)) ≡ true = subst (λ rows. each p rows ≡ true) (q (held_rows xs)) h in
          subst (λ rows. each p rows ≡ true) (sym (q (held_rows (set xs i y)))) (both (and_left (p n) _ h') (next (and_right (p n) _ h')))

  among-gone : (n : ℕ) (xs : List (Slot Object)) (i : ℕ) → among n (held_rows xs) ≡ false → among n (held_rows (set xs i y)) ≡ false
  among-gone n [] i e = e
  among-gone n (x ∷ xs) zero e =
      subst (λ rows. among n rows ≡ false) (sym (none (held_rows xs)))
      (less (λ rows. among n rows ≡ false) (λ m rows q. or-second (eqb n m) _ q) (as_coro x.object) (holds (as_coro x.object)) (held_rows xs) e)
  among-gone n (x ∷ xs) (suc i) e = go (as_coro x.object) (holds (as_coro x.object)) e (λ q. among-gone n xs i q)
    where
      one : (b : Bool) (l m : Bool) → (b || l) ≡ false → (l ≡ false → m ≡ false) → (b || m) ≡ false
      one true l m e f = e
      one false l m e f = f e

      go : (c : Coroutine) → Holds c → among n (held_by c (held_rows xs)) ≡ false → (among n (held_rows xs) ≡ false → among n (held_rows (set xs i y)) ≡ false) → among n (held_by c (held_rows (set xs i y))) ≡ false
      go c (holds-none q) h next = subst (λ rows. among n rows ≡ false) (sym (q _)) (next (subst (λ rows. among n rows ≡ false) (q _) h))
      go c (holds_row m q) h next =
          subst (λ rows. among n rows ≡ false) (sym (q (held_rows (set xs i y)))) (one (eqb n m) _ _ (subst (λ rows. among n rows ≡ false) (q (held_rows xs)) h) next)

  distinct-gone : (xs : List (Slot Object)) (i : ℕ) → distinct (held_rows xs) ≡ true → distinct (held_rows (set xs i y)) ≡ true
  distinct-gone [] i e = e
  distinct-gone (x ∷ xs) zero e =
      subst (λ rows. distinct rows ≡ true) (sym (none (held_rows xs)))
      (less (λ rows. distinct rows ≡ true) (λ m rows q. and_right (not (among m rows)) _ q) (as_coro x.object) (holds (as_coro x.object)) (held_rows xs) e)
  distinct-gone (x ∷ xs) (suc i) e = go (as_coro x.object) (holds (as_coro x.object)) e (λ q. distinct-gone xs i q)
    where
      go : (c : Coroutine) → Holds c → distinct (held_by c (held_rows xs)) ≡ true → (distinct (held_rows xs) ≡ true → distinct (held_rows (set xs i y)) ≡ true) → distinct (held_by c (held_rows (set xs i y))) ≡ true
      go c (holds-none q) h next = subst (λ rows. distinct rows ≡ true) (sym (q _)) (next (subst (λ rows. distinct rows ≡ true) (q _) h))
      go c (holds_row m q) h next =
          let h' : (not (among m (held_rows xs)) && distinct (held_rows xs)) ≡ true = subst (λ rows. distinct rows ≡ true) (q (held_rows xs)) h in
          subst (λ rows. distinct rows ≡ true) (sym (q (held_rows (set xs i y))))
          (both (negate (among-gone m xs i (unnegate (among m (held_rows xs)) (and_left (not (among m (held_rows xs))) _ h')))) (next (and_right (not (among m (held_rows xs))) _ h')))

-- ---- one slot added

pub held-push-none : (xs : List (Slot Object)) (y : Slot Object) → ((rows : List ℕ) → held_by (as_coro y.object) rows ≡ rows) → held_rows (xs ++ (y ∷ [])) ≡ held_rows xs
held-push-none [] y h = h []
held-push-none (x ∷ xs) y h = ap (held_by (as_coro x.object)) (held-push-none xs y h)

over-snoc : (c : Coroutine) → Holds c → (rows : List ℕ) (n : ℕ) → held_by c (rows ++ (n ∷ [])) ≡ held_by c rows ++ (n ∷ [])
over-snoc c (holds-none q) rows n = q (rows ++ (n ∷ [])) ∙ ap (λ (r : List ℕ). r ++ (n ∷ [])) (sym (q rows))
over-snoc c (holds_row m q) rows n = q (rows ++ (n ∷ [])) ∙ ap (λ (r : List ℕ). r ++ (n ∷ [])) (sym (q rows))

pub held-push-row : (xs : List (Slot Object)) (y : Slot Object) (n : ℕ) → ((rows : List ℕ) → held_by (as_coro y.object) rows ≡ n ∷ rows) → held_rows (xs ++ (y ∷ [])) ≡ held_rows xs ++ (n ∷ [])
held-push-row [] y n h = h []
held-push-row (x ∷ xs) y n h = ap (held_by (as_coro x.object)) (held-push-row xs y n h) ∙ over-snoc (as_coro x.object) (holds (as_coro x.object)) (held_rows xs) n

-- ---- the rows of a machine

-- 01: "one row per unfinished coroutine, its own"
pub record Rows (s : Setup) (xs : List (Slot Object)) : Type 0 where
  pub inside : each (λ row. ltb row s.limits.rows) (held_rows xs) ≡ true
  pub own : distinct (held_rows xs) ≡ true

pub rows_as : (s : Setup) (xs ys : List (Slot Object)) → held_rows ys ≡ held_rows xs → Rows s xs → Rows s ys
rows_as s xs ys e h =
    record {
      inside = subst (λ rows. each (λ row. ltb row s.limits.rows) rows ≡ true) (sym e) h.inside;
      own = subst (λ rows. distinct rows ≡ true) (sym e) h.own;
    }

pub rows-gone : (s : Setup) (xs : List (Slot Object)) (i : ℕ) (y : Slot Object) → ((rows : List ℕ) → held_by (as_coro y.object) rows ≡ rows) → Rows s xs → Rows s (set xs i y)
rows-gone s xs i y e h = record { inside = each-gone y e (λ row. ltb row s.limits.rows) xs i h.inside; own = distinct-gone y e xs i h.own }

pub rows-push : (s : Setup) (xs : List (Slot Object)) (y : Slot Object) (n : ℕ) → ((rows : List ℕ) → held_by (as_coro y.object) rows ≡ n ∷ rows) → ltb n s.limits.rows ≡ true
    → among n (held_rows xs) ≡ false → Rows s xs → Rows s (xs ++ (y ∷ []))
rows-push s xs y n e l a h =
    record {
      inside =
          subst (λ rows. each (λ row. ltb row s.limits.rows) rows ≡ true) (sym (held-push-row xs y n e)) (each_snoc (λ row. ltb row s.limits.rows) (held_rows xs) n h.inside l);
      own = subst (λ rows. distinct rows ≡ true) (sym (held-push-row xs y n e)) (distinct_snoc n (held_rows xs) h.own a);
    }

-- ---- the lowest free row

pub lowest-free : (k n : ℕ) (held : List ℕ) → lowest_free k n held < n + k → among (lowest_free k n held) held ≡ false
unfolding pick
lowest-free zero n held h = absurd (omega arith)
lowest-free (suc k) n held h = go (among n held) refl h (λ q. lowest-free k (suc n) held q)
  where
    go : (b : Bool) → among n held ≡ b → pick b (lowest_free k (suc n) held) n < n + suc k → (lowest_free k (suc n) held < suc n + k → among (lowest_free k (suc n) held) held ≡ false)
        → among (pick b (lowest_free k (suc n) held) n) held ≡ false
    go true e l next = next (omega arith)
    go false e l next = e
