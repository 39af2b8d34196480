-- The marks tell which rows are held, and the lowest row without one is the world's lowest free row. Assumes nothing.
use Rattle.std.proofs.Common.{◌≡◌, ℕ, zero, suc, ◌+◌, ◌-◌, ◌<◌, ◌≤◌, Bool, true, false, ◌||◌, eqb, List, [], ◌∷◌, length, get_or, drop, set, replicate, sym, refl, ap, ◌∙◌, ap₂, add-one, arith, length-set, drop-cons, get_or-set_other, get_or-set_same, ne_eqb, eqb-true}
use lib.ListN.{get_or-replicate}
use lib.Seq.{set_out}
use borrow.Author.Tests.{eqb-false}
use Rattle.lists.specs.Pick.{pick, pick_true, pick-false}
use Rattle.heap.specs.Table.{Slot}
use Rattle.heap.specs.declared.object.Object as H
use Rattle.model.specs.Lists.{among}
use Rattle.model.specs.State.{is_finished}
use Rattle.model.specs.Object.{Object, as_coro}
use Rattle.model.specs.Rows.{held_by, held_rows, lowest_free}
use Rattle.memory_world.specs.Slots.{to_object, to_slots}
use Rattle.coro_create.specs.Row.{row_of, held_in, marked, lowest_by}

-- ---- the pass over the slots

-- the slot at place i is marked next
pub mark-next : (xs : List (Slot H.Object)) (held : List Bool) (i : ℕ) (d : Slot H.Object) → i < length xs
    → marked (drop i xs) held ≡ marked (drop (i + 1) xs) (set held (row_of (get_or xs i d).object) true)
mark-next xs held i d h = rw (add-one, drop-cons xs i d h)

-- one that holds no row leaves the marks
pub mark-none : (held : List Bool) (row : ℕ) → length held ≤ row → set held row true ≡ held
mark-none held row h = set_out held row true h

-- ---- what the marks tell

or-true : (b : Bool) → (b || true) ≡ true
or-true true = refl
or-true false = refl

or-false : (b : Bool) → (b || false) ≡ b
or-false true = refl
or-false false = refl

or_assoc : (a b c : Bool) → ((a || b) || c) ≡ (a || (b || c))
or_assoc true b c = refl
or_assoc false b c = refl

mark-one : (held : List Bool) (row n : ℕ) → n < length held → get_or (set held row true) n false ≡ (get_or held n false || eqb n row)
mark-one held row n h = go (eqb n row) refl
  where
    go : (b : Bool) → eqb n row ≡ b → get_or (set held row true) n false ≡ (get_or held n false || b)
    go true e =
        ap (λ k. get_or (set held k true) n false) (sym (eqb-true n row e)) ∙ get_or-set_same held n true false h ∙ sym (or-true (get_or held n false))
    go false e = get_or-set_other held row n true false (eqb-false n row e) ∙ sym (or-false (get_or held n false))

pub marks-tell : (xs : List (Slot H.Object)) (held : List Bool) (n : ℕ) → n < length held → get_or (marked xs held) n false ≡ (get_or held n false || among n (held_in xs))
marks-tell [] held n h = sym (or-false (get_or held n false))
marks-tell (x ∷ xs) held n h =
    let r : ℕ = row_of x.object in
    marks-tell xs (set held r true) n (let e = length-set held r true in omega arith)
    ∙ ap (λ b. b || among n (held_in xs)) (mark-one held r n h)
    ∙ or_assoc (get_or held n false) (eqb n r) (among n (held_in xs))

pub length_marked : (xs : List (Slot H.Object)) (held : List Bool) → length (marked xs held) ≡ length held
length_marked [] held = refl
length_marked (x ∷ xs) held = length_marked xs (set held (row_of x.object) true) ∙ length-set held (row_of x.object) true

-- ---- the lowest without a mark

pub lowest-next : (t : ℕ → Bool) (rows i : ℕ) → i < rows → lowest_by t (rows - i) i ≡ pick (t i) (lowest_by t (rows - (i + 1)) (i + 1)) i
lowest-next t rows i h = let e : rows - i ≡ suc (rows - (i + 1)) = omega arith in rw (e, add-one)

pub lowest-stop : (t : ℕ → Bool) (rows i : ℕ) → i < rows → t i ≡ false → lowest_by t (rows - i) i ≡ i
lowest-stop t rows i h e = lowest-next t rows i h ∙ ap (λ b. pick b (lowest_by t (rows - (i + 1)) (i + 1)) i) e ∙ pick-false _ _

pub lowest-on : (t : ℕ → Bool) (rows i : ℕ) → i < rows → t i ≡ true → lowest_by t (rows - i) i ≡ lowest_by t (rows - (i + 1)) (i + 1)
lowest-on t rows i h e = lowest-next t rows i h ∙ ap (λ b. pick b (lowest_by t (rows - (i + 1)) (i + 1)) i) e ∙ pick_true _ _

pub lowest-end : (t : ℕ → Bool) (rows i : ℕ) → i ≤ rows → rows ≤ i → lowest_by t (rows - i) i ≡ rows
lowest-end t rows i h k = let e : rows - i ≡ 0 = omega arith in let q : i ≡ rows = omega arith in rw e q

-- a test that tells which numbers stand in a list finds the lowest that does not
pub lowest-among : (t : ℕ → Bool) (held : List ℕ) (k n : ℕ) → ((i : ℕ) → i < n + k → t i ≡ among i held) → lowest_by t k n ≡ lowest_free k n held
lowest-among t held zero n h = refl
lowest-among t held (suc k) n h =
    ap₂ (λ (b : Bool) x. pick b x n) (h n (omega arith)) (lowest-among t held k (suc n) (λ i g. h i (omega arith)))

pub free_in : (xs : List (Slot H.Object)) (rows : ℕ) → rows ≤ 64
    → lowest_by (λ n. get_or (marked xs (replicate {A = Bool} 64 false)) n false) rows 0 ≡ lowest_free rows 0 (held_in xs)
free_in xs rows h =
    lowest-among (λ n. get_or (marked xs (replicate {A = Bool} 64 false)) n false) (held_in xs) rows 0
    (λ i g. marks-tell xs (replicate {A = Bool} 64 false) i (omega arith) ∙ ap (λ b. b || among i (held_in xs)) (get_or-replicate 64 i false false (omega arith)))

-- ---- the world's rows

held_one : (o : Object) (rows : List ℕ) (n : ℕ) → n < 64 → (eqb n (row_of (to_object o)) || among n rows) ≡ among n (held_by (as_coro o) rows)
unfolding pick
held_one Object.Empty rows n h = rw (ne_eqb n 64 (λ e. omega arith))
held_one (Object.Func f) rows n h = rw (ne_eqb n 64 (λ e. omega arith))
held_one (Object.Int k) rows n h = rw (ne_eqb n 64 (λ e. omega arith))
held_one (Object.Iter s d k) rows n h = rw (ne_eqb n 64 (λ e. omega arith))
held_one (Object.Error e f p v) rows n h = rw (ne_eqb n 64 (λ e. omega arith))
held_one (Object.Coro k r) rows n h = go (is_finished k.state) refl
  where
    go : (b : Bool) → is_finished k.state ≡ b → (eqb n (pick b 64 r.row) || among n rows) ≡ among n (pick b rows (r.row ∷ rows))
    go true e = rw (ne_eqb n 64 (λ e. omega arith))
    go false e = refl

held_same : (xs : List (Slot Object)) (n : ℕ) → n < 64 → among n (held_in (to_slots xs)) ≡ among n (held_rows xs)
held_same [] n h = refl
held_same (x ∷ xs) n h =
    ap (λ b. eqb n (row_of (to_object x.object)) || b) (held_same xs n h) ∙ held_one x.object (held_rows xs) n h

pub free-same : (xs : List (Slot Object)) (rows : ℕ) → rows ≤ 64 → lowest_free rows 0 (held_in (to_slots xs)) ≡ lowest_free rows 0 (held_rows xs)
free-same xs rows h = go rows 0 (omega arith)
  where
    go : (k n : ℕ) → n + k ≤ 64 → lowest_free k n (held_in (to_slots xs)) ≡ lowest_free k n (held_rows xs)
    go zero n h = refl
    go (suc k) n h = ap₂ (λ (b : Bool) x. pick b x n) (held_same xs n (omega arith)) (go k (suc n) (omega arith))
