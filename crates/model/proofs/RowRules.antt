-- The test of rows says yes exactly if each unfinished coroutine has one, its own. Assumes nothing.
use mathlib.Core.Logic.{◌↔◌}
use mathlib.Core.Path.{◌≡◌, refl, sym, ap, ◌∙◌, subst}
use mathlib.Core.Bool.{Bool, true, false, not}
use mathlib.Core.List.{List, [], ◌∷◌}
use Prim.Native.Nat.{ℕ, zero, suc, ◌<◌}
use native.Mathlib.Omega.{arith}
use lib.Dec.{ltb}
use borrow.Author.Tests.{ltb-true, lt-ltb}
use Rattle.lists.specs.Pick.{pick}
use Rattle.heap.specs.Table.{Slot, slot}
use Rattle.model.specs.Lists.{each, among, distinct}
use Rattle.model.specs.State.{is_finished}
use Rattle.model.specs.Program.{Func}
use Rattle.model.specs.Object.{Core, Rest, Object, Coroutine, Absent, Is, as_coro}
use Rattle.model.specs.World.{World}
use Rattle.model.specs.Heap as Heap
use Rattle.model.specs.Rows.{held_by, held_rows}
use Rattle.model.specs.Sound.{rows_ok}
use Rattle.model.specs.WellFormed.{At, ◌∈◌, finished, Coro, Rows}
use Rattle.model.proofs.Tests.{no_true, and_left, and_right, both, negate, unnegate}
use Rattle.model.proofs.Places.{each-place, place-each, among_in, in-among}
use Rattle.model.proofs.SlotRules.{finished-exactly, unfinished, as-slot}

-- the rows held, with a coroutine's
held_first : (k : Core) (r : Rest) (rows : List ℕ) → is_finished k.state ≡ false → held_by (Is k r) rows ≡ r.row ∷ rows
unfolding pick
held_first k r rows s = ap (λ b. pick b rows (r.row ∷ rows)) s

held-past : (k : Core) (r : Rest) (rows : List ℕ) → is_finished k.state ≡ true → held_by (Is k r) rows ≡ rows
unfolding pick
held-past k r rows s = ap (λ b. pick b rows (r.row ∷ rows)) s

held_more : (c : Coroutine) (rows : List ℕ) (n : ℕ) → n ∈ rows → n ∈ held_by c rows
held_more Absent rows n m = m
held_more (Is k r) rows n m = go (is_finished k.state) refl
  where
    go : (b : Bool) → is_finished k.state ≡ b → n ∈ held_by (Is k r) rows
    go true s = subst (λ (z : List ℕ). n ∈ z) (sym (held-past k r rows s)) m
    go false s = subst (λ (z : List ℕ). n ∈ z) (sym (held_first k r rows s)) (suc m.0, m.1)

distinct-rest : (c : Coroutine) (rows : List ℕ) → distinct (held_by c rows) ≡ true → distinct rows ≡ true
distinct-rest Absent rows e = e
distinct-rest (Is k r) rows e = go (is_finished k.state) refl
  where
    go : (b : Bool) → is_finished k.state ≡ b → distinct rows ≡ true
    go true s = subst (λ (z : List ℕ). distinct z ≡ true) (held-past k r rows s) e
    go false s = and_right (not (among r.row rows)) (distinct rows) (subst (λ (z : List ℕ). distinct z ≡ true) (held_first k r rows s) e)

-- an unfinished coroutine's row is held, and a row that is held is an unfinished coroutine's
row-held : (xs : List (Slot Object)) (i t : ℕ) (k : Core) (r : Rest) → At i (slot t (Object.Coro k r)) xs → is_finished k.state ≡ false → r.row ∈ held_rows xs
row-held [] i t k r h s = absurd h
row-held (x ∷ xs) zero t k r h s =
    subst (λ (y : Slot Object). r.row ∈ held_by (as_coro y.object) (held_rows xs)) h (subst (λ (z : List ℕ). r.row ∈ z) (sym (held_first k r (held_rows xs) s)) (0, refl))
row-held (x ∷ xs) (suc i) t k r h s = held_more (as_coro x.object) (held_rows xs) r.row (row-held xs i t k r h s)

abbrev Holder : List (Slot Object) → ℕ → Type 0
Holder xs n = (i : ℕ) × (t : ℕ) × (k : Core) × (r : Rest) × At i (slot t (Object.Coro k r)) xs × (is_finished k.state ≡ false) × (n ≡ r.row)

next-holder : (x : Slot Object) (xs : List (Slot Object)) (n : ℕ) → Holder xs n → Holder (x ∷ xs) n
next-holder x xs n h = let (i, t, k, r, m, s, e) = h in (suc i, t, k, r, m, s, e)

by_state : (x : Slot Object) (xs : List (Slot Object)) (n : ℕ) (k : Core) (r : Rest) → x.object ≡ Object.Coro k r → (b : Bool) → is_finished k.state ≡ b
    → n ∈ held_by (Is k r) (held_rows xs) → (n ∈ held_rows xs → Holder xs n) → Holder (x ∷ xs) n
by_state x xs n k r e true s h rest = next-holder x xs n (rest (subst (λ (z : List ℕ). n ∈ z) (held-past k r (held_rows xs) s) h))
by_state x xs n k r e false s h rest = let m = subst (λ (z : List ℕ). n ∈ z) (held_first k r (held_rows xs) s) h in go m.0 m.1
  where
    go : (j : ℕ) → At j n (r.row ∷ held_rows xs) → Holder (x ∷ xs) n
    go zero q = (0, x.tag, k, r, sym (as-slot x (Object.Coro k r) e), s, q)
    go (suc j) q = next-holder x xs n (rest (j, q))

by-object : (x : Slot Object) (xs : List (Slot Object)) (n : ℕ) (o : Object) → x.object ≡ o → n ∈ held_by (as_coro o) (held_rows xs) → (n ∈ held_rows xs → Holder xs n) → Holder (x ∷ xs) n
by-object x xs n Object.Empty e h rest = next-holder x xs n (rest h)
by-object x xs n (Object.Func f) e h rest = next-holder x xs n (rest h)
by-object x xs n (Object.Int m) e h rest = next-holder x xs n (rest h)
by-object x xs n (Object.Iter s d k) e h rest = next-holder x xs n (rest h)
by-object x xs n (Object.Error a f p v) e h rest = next-holder x xs n (rest h)
by-object x xs n (Object.Coro k r) e h rest = by_state x xs n k r e (is_finished k.state) refl h rest

held-row : (xs : List (Slot Object)) (n : ℕ) → n ∈ held_rows xs → Holder xs n
held-row [] n h = absurd h.1
held-row (x ∷ xs) n h = by-object x xs n x.object refl h (λ m. held-row xs n m)

pub one-row-exactly : (xs : List (Slot Object)) (limit : ℕ) → (each (λ row. ltb row limit) (held_rows xs) ≡ true)
    ↔ ((i t : ℕ) (k : Core) (r : Rest) → At i (slot t (Object.Coro k r)) xs → (k.state ∈ finished → ⊥) → r.row < limit)
one-row-exactly xs limit = (
  λ e i t k r h s. let m = row-held xs i t k r h (unfinished k.state s) in ltb-true r.row limit (each-place (λ row. ltb row limit) (held_rows xs) e m.0 r.row m.1),
  λ q. place-each (λ row. ltb row limit) (held_rows xs)
      (λ j n m. let (i, t, k, r, h, s, e) = held-row xs n (j, m) in lt-ltb n limit (subst (λ z. z < limit) (sym e) (q i t k r h (λ f. no_true (sym ((finished-exactly k.state).1 f) ∙ s))))),
)

-- the first slot's row is no other's
first-row : (x : Slot Object) (xs : List (Slot Object)) (t : ℕ) (k : Core) (r : Rest) → slot t (Object.Coro k r) ≡ x → is_finished k.state ≡ false
    → distinct (held_rows (x ∷ xs)) ≡ true → among r.row (held_rows xs) ≡ false
first-row x xs t k r h s e =
    let d : distinct (r.row ∷ held_rows xs) ≡ true = subst (λ (z : List ℕ). distinct z ≡ true) (held_first k r (held_rows xs) s) (subst (λ (y : Slot Object). distinct (held_by (as_coro y.object) (held_rows xs)) ≡ true) (sym h) e) in
    unnegate (among r.row (held_rows xs)) (and_left (not (among r.row (held_rows xs))) (distinct (held_rows xs)) d)

rows-own : (xs : List (Slot Object)) → distinct (held_rows xs) ≡ true → (i j t u : ℕ) (k l : Core) (r q : Rest) → At i (slot t (Object.Coro k r)) xs → At j (slot u (Object.Coro l q)) xs
    → is_finished k.state ≡ false → is_finished l.state ≡ false → r.row ≡ q.row → i ≡ j
rows-own [] e i j t u k l r q h g a b c = absurd h
rows-own (x ∷ xs) e zero zero t u k l r q h g a b c = refl
rows-own (x ∷ xs) e zero (suc j) t u k l r q h g a b c =
    let m = row-held xs j u l q g b in
    no_true (sym (in-among q.row (held_rows xs) m.0 m.1) ∙ ap (λ n. among n (held_rows xs)) (sym c) ∙ first-row x xs t k r h a e)
rows-own (x ∷ xs) e (suc i) zero t u k l r q h g a b c =
    let m = row-held xs i t k r h a in
    no_true (sym (in-among r.row (held_rows xs) m.0 m.1) ∙ ap (λ n. among n (held_rows xs)) c ∙ first-row x xs u l q g b e)
rows-own (x ∷ xs) e (suc i) (suc j) t u k l r q h g a b c = ap suc (rows-own xs (distinct-rest (as_coro x.object) (held_rows xs) e) i j t u k l r q h g a b c)

abbrev Own : List (Slot Object) → Type 0
Own xs =
    (i j t u : ℕ) (k l : Core) (r q : Rest) → At i (slot t (Object.Coro k r)) xs → At j (slot u (Object.Coro l q)) xs
    → (k.state ∈ finished → ⊥) → (l.state ∈ finished → ⊥) → r.row ≡ q.row → i ≡ j

-- the first slot's coroutine, if it is unfinished, holds a row that is held by no other
distinct-first : (x : Slot Object) (xs : List (Slot Object)) (o : Object) → x.object ≡ o → Own (x ∷ xs) → distinct (held_rows xs) ≡ true → distinct (held_by (as_coro o) (held_rows xs)) ≡ true
distinct-first x xs Object.Empty e f d = d
distinct-first x xs (Object.Func n) e f d = d
distinct-first x xs (Object.Int n) e f d = d
distinct-first x xs (Object.Iter s c k) e f d = d
distinct-first x xs (Object.Error a b p v) e f d = d
distinct-first x xs (Object.Coro k r) e f d = go (is_finished k.state) refl
  where
    alone : (b : Bool) → among r.row (held_rows xs) ≡ b → is_finished k.state ≡ false → b ≡ false
    alone true m s =
        let (i, t, l, q, h, z, n) = held-row xs r.row (among_in r.row (held_rows xs) m) in
        let c = f 0 (suc i) x.tag t k l r q (sym (as-slot x (Object.Coro k r) e)) h (λ y. no_true (sym ((finished-exactly k.state).1 y) ∙ s)) (λ y. no_true (sym ((finished-exactly l.state).1 y) ∙ z)) n in
        absurd (omega arith)
    alone false m s = refl

    go : (b : Bool) → is_finished k.state ≡ b → distinct (held_by (Is k r) (held_rows xs)) ≡ true
    go true s = subst (λ (z : List ℕ). distinct z ≡ true) (sym (held-past k r (held_rows xs) s)) d
    go false s = subst (λ (z : List ℕ). distinct z ≡ true) (sym (held_first k r (held_rows xs) s)) (both (negate (alone (among r.row (held_rows xs)) refl s)) d)

own-rows : (xs : List (Slot Object)) → Own xs → distinct (held_rows xs) ≡ true
own-rows [] f = refl
own-rows (x ∷ xs) f =
    distinct-first x xs x.object refl f (own-rows xs (λ i j t u k l r q h g a b c. let e = f (suc i) (suc j) t u k l r q h g a b c in omega arith))

pub own-row-exactly : (xs : List (Slot Object)) → (distinct (held_rows xs) ≡ true) ↔ Own xs
own-row-exactly xs = (λ e i j t u k l r q h g a b c. rows-own xs e i j t u k l r q h g (unfinished k.state a) (unfinished l.state b) c, own-rows xs)

pub rows-exactly : (w : World) → (rows_ok w ≡ true) ↔ Rows w
unfolding rows_ok
rows-exactly w =
    let a = each (λ row. ltb row w.setup.limits.rows) (held_rows w.slots) in
    let b = distinct (held_rows w.slots) in (
      λ e. record { one = (one-row-exactly w.slots w.setup.limits.rows).0 (and_left a b e); own = (own-row-exactly w.slots).0 (and_right a b e) },
      λ q. both ((one-row-exactly w.slots w.setup.limits.rows).1 q.one) ((own-row-exactly w.slots).1 q.own),
    )
