-- What the rows hold after a slot is replaced or added: each row has one owner, so only its own row changes. Assumes nothing.
use mathlib.Core.Path.{◌≡◌, refl, sym, ap, ◌∙◌}
use mathlib.Core.Bool.{Bool, true, false, not, ◌&&◌, ◌||◌}
use mathlib.Core.List.{List, [], ◌∷◌}
use Prim.Native.Nat.{ℕ, zero, suc, ◌<◌}
use native.Mathlib.Omega.{arith}
use native.Mathlib.Nat.{le_of_suc-le-suc}
use borrow.Author.Tests.{eqb-true, eqb-false, eq-eqb, ne_eqb}
use lib.ListN.{length, get_or, set}
use lib.Dec.{eqb}
use Rattle.lists.specs.Pick.{pick, pick_true, pick-false}
use Rattle.lists.proofs.Tests.{and_left, and_right}
use Rattle.heap.specs.Table.{Slot, slot, push_object}
use Rattle.model.specs.Lists.{among, distinct}
use Rattle.model.specs.State.{is_finished}
use Rattle.model.specs.Object.{Object, Coroutine, Absent, Is, as_coro}
use Rattle.model.specs.Rows.{held_by, held_rows}
use Rattle.claims_sound.proofs.Tests.{no_false, no_true}
use Rattle.memory_world.specs.Rows.{no_row, owns, saved_by, row_at}

-- ---- who owns a row that is not among those held

held-step : (c : Coroutine) (rows : List ℕ) (n : ℕ) → among n (held_by c rows) ≡ false → (owns n c ≡ false) × (among n rows ≡ false)
unfolding pick
held-step Absent rows n e = (refl, e)
held-step (Is k r) rows n e = go (is_finished k.state) refl e
  where
    flip : (a b : ℕ) (t : Bool) → eqb a b ≡ t → eqb b a ≡ t
    flip a b true e = eq-eqb b a (sym (eqb-true a b e))
    flip a b false e = ne_eqb b a (λ q. eqb-false a b e (sym q))

    either : (t : Bool) (x : Bool) → eqb n r.row ≡ t → (t || x) ≡ false → (eqb r.row n ≡ false) × (x ≡ false)
    either true x p q = no_true q
    either false x p q = (flip n r.row false p, q)

    go : (f : Bool) → is_finished k.state ≡ f → among n (pick f rows (r.row ∷ rows)) ≡ false → (owns n (Is k r) ≡ false) × (among n rows ≡ false)
    go true p q = (rw p, q)
    go false p q = let h = either (eqb n r.row) (among n rows) refl q in (rw (p, h.0), h.1)

-- a row that nobody holds holds nothing
pub nobody : (xs : List (Slot Object)) (n : ℕ) → among n (held_rows xs) ≡ false → row_at n xs ≡ no_row
nobody [] n e = refl
nobody (x ∷ xs) n e =
    let h = held-step (as_coro x.object) (held_rows xs) n e in
    ap (λ (b : Bool). pick b (saved_by (as_coro x.object)) (row_at n xs)) h.0 ∙ pick-false _ _ ∙ nobody xs n h.1

-- ---- distinct rows have one owner each

tail-distinct : (c : Coroutine) (rows : List ℕ) → distinct (held_by c rows) ≡ true → distinct rows ≡ true
unfolding pick
tail-distinct Absent rows e = e
tail-distinct (Is k r) rows e = go (is_finished k.state) e
  where
    go : (f : Bool) → distinct (pick f rows (r.row ∷ rows)) ≡ true → distinct rows ≡ true
    go true q = q
    go false q = and_right (not (among r.row rows)) (distinct rows) q

-- an owner before does not share its row with one after
head_apart : (c : Coroutine) (rows : List ℕ) (n : ℕ) → distinct (held_by c rows) ≡ true → among n rows ≡ true → owns n c ≡ false
unfolding pick
head_apart Absent rows n e h = refl
head_apart (Is k r) rows n e h = go (is_finished k.state) (eqb r.row n) refl refl e
  where
    go : (f t : Bool) → is_finished k.state ≡ f → eqb r.row n ≡ t → distinct (pick f rows (r.row ∷ rows)) ≡ true → owns n (Is k r) ≡ false
    go true t p q d = rw p
    go false false p q d = rw (p, q)
    go false true p q d =
        let s : r.row ≡ n = eqb-true r.row n q in
        let a : not (among r.row rows) ≡ true = and_left (not (among r.row rows)) (distinct rows) d in
        no_true (sym (rw (s, h) at a))

owner-held : (c : Coroutine) (rows : List ℕ) (n : ℕ) → owns n c ≡ true → among n (held_by c rows) ≡ true
unfolding pick
owner-held Absent rows n e = no_false e
owner-held (Is k r) rows n e = go (is_finished k.state) (eqb r.row n) refl refl e
  where
    go : (f t : Bool) → is_finished k.state ≡ f → eqb r.row n ≡ t → (not f && t) ≡ true → among n (pick (is_finished k.state) rows (r.row ∷ rows)) ≡ true
    go true t p q d = no_false d
    go false false p q d = no_false d
    go false true p q d = rw (p, eq-eqb n r.row (sym (eqb-true r.row n q)))

later-held : (c : Coroutine) (rows : List ℕ) (n : ℕ) → among n rows ≡ true → among n (held_by c rows) ≡ true
unfolding pick
later-held Absent rows n h = h
later-held (Is k r) rows n h = go (is_finished k.state)
  where
    or-true : (b : Bool) → (b || true) ≡ true
    or-true true = refl
    or-true false = refl

    go : (f : Bool) → among n (pick f rows (r.row ∷ rows)) ≡ true
    go true = h
    go false = rw h (or-true (eqb n r.row))

abbrev coro_in : List (Slot Object) → ℕ → Coroutine
coro_in xs i = as_coro (get_or xs i (slot 0 Object.Empty)).object

pub held_at : (xs : List (Slot Object)) (i n : ℕ) → owns n (coro_in xs i) ≡ true → among n (held_rows xs) ≡ true
held_at [] i n e = no_false e
held_at (x ∷ xs) zero n e = owner-held (as_coro x.object) (held_rows xs) n e
held_at (x ∷ xs) (suc i) n e = later-held (as_coro x.object) (held_rows xs) n (held_at xs i n e)

skip : (x : Slot Object) (ys : List (Slot Object)) (n : ℕ) → owns n (as_coro x.object) ≡ false → row_at n (x ∷ ys) ≡ row_at n ys
skip x ys n e = ap (λ (b : Bool). pick b (saved_by (as_coro x.object)) (row_at n ys)) e ∙ pick-false _ _

-- ---- the laws

-- a row holds what its owner has saved
pub row_is : (xs : List (Slot Object)) (i n : ℕ) → distinct (held_rows xs) ≡ true → owns n (coro_in xs i) ≡ true → row_at n xs ≡ saved_by (coro_in xs i)
row_is [] i n d e = refl
row_is (x ∷ xs) zero n d e = ap (λ (b : Bool). pick b (saved_by (as_coro x.object)) (row_at n xs)) e ∙ pick_true _ _
row_is (x ∷ xs) (suc i) n d e =
    skip x xs n (head_apart (as_coro x.object) (held_rows xs) n d (held_at xs i n e))
    ∙ row_is xs i n (tail-distinct (as_coro x.object) (held_rows xs) d) e

-- the owner's slot is replaced by one that owns the row: the row holds what that one has saved
pub row-own : (xs : List (Slot Object)) (i n : ℕ) (y : Slot Object) → i < length xs → distinct (held_rows xs) ≡ true → owns n (coro_in xs i) ≡ true
    → owns n (as_coro y.object) ≡ true → row_at n (set xs i y) ≡ saved_by (as_coro y.object)
row-own [] i n y l d e f = absurd (omega arith)
row-own (x ∷ xs) zero n y l d e f = ap (λ (b : Bool). pick b (saved_by (as_coro y.object)) (row_at n xs)) f ∙ pick_true _ _
row-own (x ∷ xs) (suc i) n y l d e f =
    skip x (set xs i y) n (head_apart (as_coro x.object) (held_rows xs) n d (held_at xs i n e))
    ∙ row-own xs i n y (le_of_suc-le-suc l) (tail-distinct (as_coro x.object) (held_rows xs) d) e f

-- by one that does not: the row holds nothing
pub row-left : (xs : List (Slot Object)) (i n : ℕ) (y : Slot Object) → i < length xs → distinct (held_rows xs) ≡ true → owns n (coro_in xs i) ≡ true
    → owns n (as_coro y.object) ≡ false → row_at n (set xs i y) ≡ no_row
row-left [] i n y l d e f = absurd (omega arith)
row-left (x ∷ xs) zero n y l d e f = skip y xs n f ∙ nobody xs n (apart (among n (held_rows xs)) refl)
  where
    apart : (b : Bool) → among n (held_rows xs) ≡ b → among n (held_rows xs) ≡ false
    apart true p = no_true (sym e ∙ head_apart (as_coro x.object) (held_rows xs) n d p)
    apart false p = p
row-left (x ∷ xs) (suc i) n y l d e f =
    skip x (set xs i y) n (head_apart (as_coro x.object) (held_rows xs) n d (held_at xs i n e))
    ∙ row-left xs i n y (le_of_suc-le-suc l) (tail-distinct (as_coro x.object) (held_rows xs) d) e f

-- a slot that owns another row, or none, before and after: the row holds what it held
pub row_other : (xs : List (Slot Object)) (i m : ℕ) (y : Slot Object) → owns m (coro_in xs i) ≡ false → owns m (as_coro y.object) ≡ false → row_at m (set xs i y) ≡ row_at m xs
row_other [] i m y e f = refl
row_other (x ∷ xs) zero m y e f = skip y xs m f ∙ sym (skip x xs m e)
row_other (x ∷ xs) (suc i) m y e f = ap (pick (owns m (as_coro x.object)) (saved_by (as_coro x.object))) (row_other xs i m y e f)

-- a slot is added that owns row n, or none
pub row_new : (xs : List (Slot Object)) (n : ℕ) (o : Object) → among n (held_rows xs) ≡ false → owns n (as_coro o) ≡ true → row_at n (push_object xs o) ≡ saved_by (as_coro o)
row_new [] n o e f = ap (λ (b : Bool). pick b (saved_by (as_coro o)) no_row) f ∙ pick_true _ _
row_new (x ∷ xs) n o e f =
    let h = held-step (as_coro x.object) (held_rows xs) n e in
    skip x (push_object xs o) n h.0 ∙ row_new xs n o h.1 f

pub row_same : (xs : List (Slot Object)) (m : ℕ) (o : Object) → owns m (as_coro o) ≡ false → row_at m (push_object xs o) ≡ row_at m xs
row_same [] m o f = ap (λ (b : Bool). pick b (saved_by (as_coro o)) no_row) f ∙ pick-false _ _
row_same (x ∷ xs) m o f = ap (pick (owns m (as_coro x.object)) (saved_by (as_coro x.object))) (row_same xs m o f)
