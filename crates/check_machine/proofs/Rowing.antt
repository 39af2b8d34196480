-- The slots' test and the rows': what the rules ask of the slots that the words decode to. Assumes nothing.
use mathlib.Core.Path.{◌≡◌, refl, sym, ap, ◌∙◌, subst}
use mathlib.Core.Bool.{Bool, true, false, not, ◌&&◌, ◌||◌}
use mathlib.Core.List.{List, [], ◌∷◌}
use Prim.Native.Nat.{ℕ, suc, ◌<◌}
use native.Mathlib.Omega.{arith}
use lib.Dec.{eqb, ltb}
use lib.ListN.{length, get_or, length-map}
use borrow.Author.Tests.{ltb-true, lt-ltb, ne_eqb, eqb-false}
use Rattle.lists.specs.Pick.{pick}
use Rattle.lists.specs.Chunks.{chunk_at}
use Rattle.lists.specs.Tests.{all_below}
use Rattle.lists.proofs.Tests.{holds_at, holds-all}
use Rattle.heap.specs.State.{is_finished}
use Rattle.heap.specs.Table.{Slot, slot}
use Rattle.heap.specs.declared.object.Object as H
use Rattle.heap.specs.declared.object.Object.TheVariants as O
use Rattle.model.specs.Lists.{each, among, distinct}
use Rattle.model.specs.Program.{Setup}
use Rattle.model.specs.Object.{Object, Coroutine, Absent, Is, as_coro}
use Rattle.model.specs.Rows.{held_by, held_rows}
use Rattle.model.specs.Sound.{row_words}
use Rattle.claims_sound.proofs.Tests.{no_false, no_true, and_left, and_right, both, picked, at_each, among-all, among-each, or_left, or_right}
use Rattle.memory_tables.specs.Sizes.{frames_size, saved_stack_size, saved_frames_size}
use Rattle.memory_world.specs.Rows.{owns, saved_by, row_at}
use Rattle.memory_world.specs.Memory.{Lent}
use Rattle.memory_world.specs.declared.machine.Sizes.{Sizes}
use Rattle.memory_world.proofs.Rows.{nobody, held_at, row_is}
use Rattle.memory_world.specs.Words.{sizes_of}
use Rattle.memory_world.specs.Decode.{object_of, objects_of}
use Rattle.memory_sound.specs.Words.{rest_ok, frames_held, fits_row, saved_stack_held, saved_frames_held}
use Rattle.check_tables.proofs.Named.{at-mapped}
use Rattle.check_tables.proofs.Deciding.{filled}
use Rattle.check_machine.specs.Rows.{row_free, free_test, rows_of, rows_held}
use Rattle.check_machine.proofs.Keeping.{RowIn, Kept}

-- an owner after the first
tail-among : (c : Coroutine) (rows : List ℕ) (n : ℕ) → among n (held_by c rows) ≡ true → owns n c ≡ false → among n rows ≡ true
unfolding pick
tail-among Absent rows n h e = h
tail-among (Is k r) rows n h e = go (is_finished k.state) (eqb r.row n) refl e h
  where
    go : (f t : Bool) → eqb r.row n ≡ t → (not f && t) ≡ false → among n (pick f rows (r.row ∷ rows)) ≡ true → among n rows ≡ true
    go true t q p a = a
    go false true q p a = no_true p
    go false false q p a = sym (ap (λ b. b || among n rows) (flip q)) ∙ a
      where
        flip : eqb r.row n ≡ false → eqb n r.row ≡ false
        flip z = ne_eqb n r.row (λ y. eqb-false r.row n z (sym y))

module _ (s : Setup) (M : Lent) where
  -- the slots that the words decode to, one by one
  abbrev pub objects : List (Slot H.Object) → List (Slot Object)
  objects ys = objects_of s M ys

  pub at-object : (ys : List (Slot H.Object)) (i : ℕ) → get_or (objects ys) i (slot 0 Object.Empty) ≡ slot (get_or ys i (slot 0 O.Empty)).tag (object_of s M (get_or ys i (slot 0 O.Empty)).object)
  at-object ys i = at-mapped (object_of s M) (filled s M) refl ys i

  pub long : (ys : List (Slot H.Object)) → length (objects ys) ≡ length ys
  long ys = length-map ys (λ y. slot y.tag (object_of s M y.object))

  rows-of-object : (o : H.Object) (rs : List ℕ) → held_by (as_coro (object_of s M o)) rs ≡ rows_of o rs
  rows-of-object O.Empty rs = refl
  rows-of-object (O.Func f) rs = refl
  rows-of-object (O.Int n) rs = refl
  rows-of-object (O.Iter c d k) rs = refl
  rows-of-object (O.Error e f p v) rs = refl
  rows-of-object (O.Coro c) rs = refl

  pub held_same : (ys : List (Slot H.Object)) → held_rows (objects ys) ≡ rows_held ys
  held_same [] = refl
  held_same (y ∷ ys) = rows-of-object y.object (held_rows (objects ys)) ∙ ap (rows_of y.object) (held_same ys)

  -- ---- each slot

  abbrev pub All : List (Slot H.Object) → Type 0
  All ys = (i : ℕ) → i < length ys → Kept s M (get_or ys i (slot 0 O.Empty)).object

  module _ (ys : List (Slot H.Object)) (all : All ys) where
    pub each-object : (p : Slot Object → Bool) → ((t : ℕ) (o : H.Object) → Kept s M o → p (slot t (object_of s M o)) ≡ true) → each p (objects ys) ≡ true
    each-object p f =
        at_each p (objects ys) (slot 0 Object.Empty) (λ i h. let l : i < length ys = subst (λ n. i < n) (long ys) h in ap p (at-object ys i) ∙ f _ _ (all i l))

    pub each_fits : each (λ y. fits_row (row_words s) y.object) ys ≡ true
    each_fits = at_each (λ y. fits_row (row_words s) y.object) ys (slot 0 O.Empty) (λ i h. (all i h).fits)

  -- ---- the rows

  held-row : (ys : List (Slot H.Object)) → All ys → (n : ℕ) → among n (held_rows (objects ys)) ≡ true → RowIn s M n (row_at n (objects ys))
  held-row [] all n h = no_false h
  held-row (y ∷ ys) all n h =
      let c = as_coro (object_of s M y.object) in
      picked (RowIn s M n) (owns n c) (λ e. (all 0 (omega arith)).row n e) (λ e. held-row ys (λ i l. all (suc i) (omega arith)) n (tail-among c (held_rows (objects ys)) n h e))

  module _ (ys : List (Slot H.Object)) where
    abbrev l : Sizes
    l = sizes_of s

    abbrev free : Bool
    free = free_test l M.saved_stack M.saved_frames (λ n. among n (rows_held ys))

    abbrev free-at : ℕ → Bool
    free-at n = row_free l M.saved_stack M.saved_frames n

    module _ (all : All ys) (rest : free ≡ true) where
      all-rows : (n : ℕ) → n < s.limits.rows → RowIn s M n (row_at n (objects ys))
      all-rows n h = go (among n (held_rows (objects ys))) refl
        where
          go : (b : Bool) → among n (held_rows (objects ys)) ≡ b → RowIn s M n (row_at n (objects ys))
          go true e = held-row ys all n e
          go false e =
              let a = rest_ok (chunk_at (row_words s) M.saved_stack n) 0 in
              let b = rest_ok (chunk_at (frames_size s) M.saved_frames n) 0 in
              let f : free-at n ≡ true = sym (ap (λ t. t || free-at n) (sym (ap (among n) (held_same ys)) ∙ e)) ∙ holds_at s.limits.rows n (λ m. among m (rows_held ys) || free-at m) h rest in
              subst (RowIn s M n) (sym (nobody (objects ys) n e)) (record { below = h; regs = and_left a b f; frames = and_right a b f })

      pub rows_inside : each (λ row. ltb row s.limits.rows) (held_rows (objects ys)) ≡ true
      rows_inside = among-all (λ row. ltb row s.limits.rows) (held_rows (objects ys)) (λ n h. lt-ltb n s.limits.rows (held-row ys all n h).below)

      pub stack-held : rest_ok M.saved_stack (saved_stack_size s) ≡ true → saved_stack_held s (objects ys) M.saved_stack ≡ true
      stack-held e = both (holds-all s.limits.rows (λ i. rest_ok (chunk_at (row_words s) M.saved_stack i) (length (row_at i (objects ys)).regs)) (λ i h. (all-rows i h).regs)) e

      pub frames-held : rest_ok M.saved_frames (saved_frames_size s) ≡ true → saved_frames_held s (objects ys) M.saved_frames ≡ true
      frames-held e = both (holds-all s.limits.rows (λ i. frames_held (chunk_at (frames_size s) M.saved_frames i) (length (row_at i (objects ys)).frames)) (λ i h. (all-rows i h).frames)) e

    -- ---- and back

    module _ (own : distinct (held_rows (objects ys)) ≡ true) (inside : each (λ row. ltb row s.limits.rows) (held_rows (objects ys)) ≡ true)
        (stack : saved_stack_held s (objects ys) M.saved_stack ≡ true) (frames : saved_frames_held s (objects ys) M.saved_frames ≡ true) where
      row-of : (n : ℕ) → n < s.limits.rows → RowIn s M n (row_at n (objects ys))
      row-of n h =
          let p : ℕ → Bool = λ i. rest_ok (chunk_at (row_words s) M.saved_stack i) (length (row_at i (objects ys)).regs) in
          let q : ℕ → Bool = λ i. frames_held (chunk_at (frames_size s) M.saved_frames i) (length (row_at i (objects ys)).frames) in
          record {
            below = h;
            regs = holds_at s.limits.rows n p h (and_left (all_below s.limits.rows p) (rest_ok M.saved_stack (saved_stack_size s)) stack);
            frames = holds_at s.limits.rows n q h (and_left (all_below s.limits.rows q) (rest_ok M.saved_frames (saved_frames_size s)) frames);
          }

      -- after the rows
      pub rest-stack : rest_ok M.saved_stack (saved_stack_size s) ≡ true
      rest-stack = and_right (all_below s.limits.rows (λ i. rest_ok (chunk_at (row_words s) M.saved_stack i) (length (row_at i (objects ys)).regs))) (rest_ok M.saved_stack (saved_stack_size s)) stack

      pub rest-frames : rest_ok M.saved_frames (saved_frames_size s) ≡ true
      rest-frames = and_right (all_below s.limits.rows (λ i. frames_held (chunk_at (frames_size s) M.saved_frames i) (length (row_at i (objects ys)).frames))) (rest_ok M.saved_frames (saved_frames_size s)) frames

      pub owned : (i : ℕ) → (n : ℕ) → owns n (as_coro (object_of s M (get_or ys i (slot 0 O.Empty)).object)) ≡ true → RowIn s M n (saved_by (as_coro (object_of s M (get_or ys i (slot 0 O.Empty)).object)))
      owned i n e =
          let a : Slot Object → Coroutine = λ x. as_coro x.object in
          let q : as_coro (get_or (objects ys) i (slot 0 Object.Empty)).object ≡ as_coro (object_of s M (get_or ys i (slot 0 O.Empty)).object) = ap a (at-object ys i) in
          let o = ap (owns n) q ∙ e in
          let b = ltb-true n s.limits.rows (among-each (λ row. ltb row s.limits.rows) n (held_rows (objects ys)) inside (held_at (objects ys) i n o)) in
          subst (RowIn s M n) (row_is (objects ys) i n own o ∙ ap saved_by q) (row-of n b)

      pub all-free : free ≡ true
      all-free = holds-all s.limits.rows (λ m. among m (rows_held ys) || free-at m) (λ n h. go n h (among n (held_rows (objects ys))) refl)
        where
          go : (n : ℕ) → n < s.limits.rows → (b : Bool) → among n (held_rows (objects ys)) ≡ b → (among n (rows_held ys) || free-at n) ≡ true
          go n h true e = or_left (among n (rows_held ys)) (free-at n) (sym (ap (among n) (held_same ys)) ∙ e)
          go n h false e =
              let r = subst (RowIn s M n) (nobody (objects ys) n e) (row-of n h) in
              or_right (among n (rows_held ys)) (free-at n) (both r.regs r.frames)
