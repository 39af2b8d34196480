-- What slots and rows decode to, and the words that it has: a coroutine whose counts fit a row. Assumes nothing.
use mathlib.Core.Path.{◌≡◌, refl, sym, ap, ap₂, ◌∙◌, subst}
use mathlib.Core.Bool.{Bool, true, false, not, ◌&&◌, ◌||◌}
use mathlib.Core.List.{List, [], ◌∷◌}
use Prim.Native.Nat.{ℕ, suc, ◌+◌, ◌*◌, ◌≤◌, ◌<◌}
use native.Mathlib.Omega.{arith}
use native.Mathlib.Nat.{suc-mul, mul-le-mul_right}
use borrow.Author.Tests.{eqb-true, ltb-true, leb-true}
use lib.Dec.{eqb, ltb, leb}
use lib.ListN.{length, take, drop, length-drop}
use lib.Seq.{take-take}
use Rattle.lists.specs.Pick.{pick}
use Rattle.lists.specs.Chunks.{chunk_at}
use Rattle.lists.specs.Parts.{part}
use Rattle.heap.specs.Table.{Slot, slot}
use Rattle.heap.specs.declared.object.CoroObj.{CoroObj}
use Rattle.heap.specs.declared.object.Object as H
use Rattle.heap.specs.declared.object.Object.TheVariants as O
use Rattle.model.specs.Lists.{each}
use Rattle.model.specs.State.{is_finished}
use Rattle.model.specs.Program.{Setup}
use Rattle.model.specs.Object.{Core, Rest, Object, Coroutine, Absent, Is, as_coro}
use Rattle.model.specs.Rows.{held_by, held_rows}
use Rattle.model.specs.Sound.{row_words, saved_sizes, unused_in, rowless}
use Rattle.claims_sound.proofs.Tests.{no_false, and_left, and_right, picked}
use Rattle.memory_tables.specs.Layout.{frame_words, frame_of}
use Rattle.memory_tables.specs.Parts.{piled}
use Rattle.memory_tables.specs.Sizes.{frames_size}
use Rattle.memory_tables.proofs.Padded.{length_part}
use Rattle.memory_world.specs.Slots.{to_coro, to_object, to_slots}
use Rattle.memory_world.specs.Rows.{Row, owns, saved_by, row_at}
use Rattle.memory_world.specs.Memory.{Lent}
use Rattle.memory_world.specs.Decode.{core_of, rest_of, object_of, objects_of}
use Rattle.memory_sound.specs.Words.{fits_row}
use Rattle.memory_sound.proofs.Held.{length-piled, piled-take}

-- ---- which rows are held

-- those of the slots after it
held-rest : (p : ℕ → Bool) (c : Coroutine) (rows : List ℕ) → each p (held_by c rows) ≡ true → each p rows ≡ true
unfolding pick
held-rest p Absent rows e = e
held-rest p (Is k r) rows e = go (is_finished k.state) e
  where
    go : (b : Bool) → each p (pick b rows (r.row ∷ rows)) ≡ true → each p rows ≡ true
    go true q = q
    go false q = and_right (p r.row) (each p rows) q

-- its own, or row 0 of a finished one
row_below : (n : ℕ) (k : Core) (r : Rest) (rows : List ℕ) → 1 ≤ n → each (λ row. ltb row n) (held_by (Is k r) rows) ≡ true → rowless (Is k r) ≡ true → r.row < n
unfolding pick
row_below n k r rows one held unused = go (is_finished k.state) held unused
  where
    go : (b : Bool) → each (λ row. ltb row n) (pick b rows (r.row ∷ rows)) ≡ true → (not b || eqb r.row 0) ≡ true → r.row < n
    go true q z = let e = eqb-true r.row 0 z in omega arith
    go false q z = ltb-true r.row n (and_left (ltb r.row n) (each (λ row. ltb row n) rows) q)

-- ---- inside a slice of n rows of w words each

row_inside : (n w i : ℕ) (ws : List ℕ) → i < n → n * w ≤ length ws → i * w + w ≤ length ws
row_inside n w i ws h g = let k : suc i * w ≤ n * w = mul-le-mul_right w h in omega (arith, suc-mul i w)

-- what row i holds is read from its own words
pub record RowOk (s : Setup) (M : Lent) (i : ℕ) (r : Row) : Type 0 where
  pub regs : r.regs ≡ take (length r.regs) (chunk_at (row_words s) M.saved_stack i)
  pub frames : r.frames ≡ piled 6 frame_of (length r.frames) (chunk_at (frames_size s) M.saved_frames i)
  pub wide : length r.regs ≤ row_words s
  pub deep : length r.frames * 6 ≤ frames_size s

module _ (s : Setup) (M : Lent) (stack : s.limits.rows * row_words s ≤ length M.saved_stack) (frames : s.limits.rows * frames_size s ≤ length M.saved_frames) where
  -- as many saved registers as the slot says
  pub regs_long : (c : CoroObj) → c.row < s.limits.rows → c.regs ≤ row_words s → length (part (c.row * row_words s) c.regs M.saved_stack) ≡ c.regs
  regs_long c h g = let k = row_inside s.limits.rows (row_words s) c.row M.saved_stack h stack in length_part (c.row * row_words s) c.regs M.saved_stack (omega arith)

  -- ---- a slot's object comes back

  coro-back : (c : CoroObj) → c.row < s.limits.rows → c.regs ≤ row_words s → to_coro (core_of s M c) (rest_of c) ≡ c
  coro-back c h g =
      let a = regs_long c h g in
      let b = length-piled 6 frame_words frame_of c.frames (drop (c.row * frames_size s) M.saved_frames) in
      λ j.
      record {
        state = c.state;
        closing = c.closing;
        finalized = c.finalized;
        task = c.task;
        seq = c.seq;
        row = c.row;
        regs = a j;
        frames = b j;
        maxregs = c.maxregs;
        maxframes = c.maxframes;
        waiting = c.waiting;
        payload = c.payload;
        key = c.key;
        largest = c.largest;
        result = c.result;
        signal = c.signal;
      }

  module _ (one : 1 ≤ s.limits.rows) where
    object-back : (o : H.Object) (rows : List ℕ) → fits_row (row_words s) o ≡ true → each (λ row. ltb row s.limits.rows) (held_by (as_coro (object_of s M o)) rows) ≡ true
        → rowless (as_coro (object_of s M o)) ≡ true → to_object (object_of s M o) ≡ o
    object-back O.Empty rows g e z = refl
    object-back (O.Func f) rows g e z = refl
    object-back (O.Int n) rows g e z = refl
    object-back (O.Iter c d k) rows g e z = refl
    object-back (O.Error c f p v) rows g e z = refl
    object-back (O.Coro c) rows g e z = ap O.Coro (coro-back c (row_below s.limits.rows (core_of s M c) (rest_of c) rows one e z) (leb-true c.regs (row_words s) g))

    pub objects-same : (ys : List (Slot H.Object)) → each (λ y. fits_row (row_words s) y.object) ys ≡ true
        → each (λ row. ltb row s.limits.rows) (held_rows (objects_of s M ys)) ≡ true
        → each (λ x. unused_in x && rowless (as_coro x.object)) (objects_of s M ys) ≡ true → to_slots (objects_of s M ys) ≡ ys
    objects-same [] g e z = refl
    objects-same (y ∷ ys) g e z =
        let o = y.object in
        let x = slot y.tag (object_of s M o) in
        let t = unused_in x && rowless (as_coro (object_of s M o)) in
        ap₂ (λ (a : H.Object) (bs : List (Slot H.Object)). slot y.tag a ∷ bs)
        (object-back o (held_rows (objects_of s M ys)) (and_left (fits_row (row_words s) o) _ g) e (and_right (unused_in x) (rowless (as_coro (object_of s M o))) (and_left t _ z)))
        (objects-same ys (and_right (fits_row (row_words s) o) _ g) (held-rest (λ row. ltb row s.limits.rows) (as_coro (object_of s M o)) (held_rows (objects_of s M ys)) e) (and_right t _ z))

  -- ---- what a row holds

  module _ (i : ℕ) (h : i < s.limits.rows) where
    coro-row : (c : CoroObj) → c.row ≡ i → c.regs ≤ row_words s → c.frames ≤ s.limits.depth → RowOk s M i (saved_by (Is (core_of s M c) (rest_of c)))
    coro-row c e g d =
        let W = row_words s in
        let F = frames_size s in
        let S = M.saved_stack in
        let D = drop (i * F) M.saved_frames in
        let below : c.row < s.limits.rows = omega arith in
        let lr = regs_long c below g in
        let lf = length-piled 6 frame_words frame_of c.frames (drop (c.row * F) M.saved_frames) in
        let k = row_inside s.limits.rows F i M.saved_frames h frames in
        let ld : F ≤ length D = rw (length-drop (i * F) M.saved_frames) (omega arith) in
        record {
          regs =
              ap (λ n. part (n * W) c.regs S) e ∙ sym (take-take c.regs W (drop (i * W) S) g) ∙ ap (λ n. take n (chunk_at W S i)) (sym lr);
          frames =
              ap (λ n. piled 6 frame_of c.frames (drop (n * F) M.saved_frames)) e
              ∙ sym (piled-take 6 frame_words frame_of c.frames F D ld (omega arith)) ∙ ap (λ n. piled 6 frame_of n (chunk_at F M.saved_frames i)) (sym lf);
          wide = subst (λ n. n ≤ W) (sym lr) g;
          deep = let q : c.frames * 6 ≤ F = omega arith in subst (λ n. n * 6 ≤ F) (sym lf) q;
        }

    owner-row : (o : H.Object) → fits_row (row_words s) o ≡ true → saved_sizes s (as_coro (object_of s M o)) ≡ true → owns i (as_coro (object_of s M o)) ≡ true → RowOk s M i (saved_by (as_coro (object_of s M o)))
    owner-row O.Empty g z e = no_false e
    owner-row (O.Func f) g z e = no_false e
    owner-row (O.Int n) g z e = no_false e
    owner-row (O.Iter c d k) g z e = no_false e
    owner-row (O.Error c f p v) g z e = no_false e
    owner-row (O.Coro c) g z e =
        let k = core_of s M c in
        let a = leb (length k.regs) (row_words s) in
        let b = leb (length k.frames) s.limits.depth in
        let x = leb c.maxregs (row_words s) in
        let q : (a && b) ≡ true = and_left (a && b) x (and_left (a && b && x) (leb c.maxframes s.limits.depth) z) in
        let n = leb-true (length k.frames) s.limits.depth (and_right a b q) in
        let l = length-piled 6 frame_words frame_of c.frames (drop (c.row * frames_size s) M.saved_frames) in
        coro-row c (eqb-true c.row i (and_right (not (is_finished c.state)) (eqb c.row i) e)) (leb-true c.regs (row_words s) g) (omega arith)

    pub row_ok : (ys : List (Slot H.Object)) → each (λ y. fits_row (row_words s) y.object) ys ≡ true
        → each (λ x. saved_sizes s (as_coro x.object)) (objects_of s M ys) ≡ true → RowOk s M i (row_at i (objects_of s M ys))
    row_ok [] g z = record { regs = refl; frames = refl; wide = omega arith; deep = omega arith }
    row_ok (y ∷ ys) g z =
        let o = y.object in
        picked (RowOk s M i) (owns i (as_coro (object_of s M o)))
        (owner-row o (and_left (fits_row (row_words s) o) _ g) (and_left (saved_sizes s (as_coro (object_of s M o))) _ z))
        (λ _. row_ok ys (and_right (fits_row (row_words s) o) _ g) (and_right (saved_sizes s (as_coro (object_of s M o))) _ z))
