-- A coroutine's test on words is what the rules ask of the coroutine that its slot and its row decode to. Assumes nothing.
use mathlib.Core.Path.{◌≡◌, refl, sym, ap, ◌∙◌, subst}
use mathlib.Core.Bool.{Bool, true, false, not, ◌&&◌, ◌||◌}
use mathlib.Core.List.{List, [], ◌∷◌}
use Prim.Native.Nat.{ℕ, suc, ◌+◌, ◌*◌, ◌≤◌, ◌<◌}
use native.Mathlib.Omega.{arith}
use lib.Dec.{eqb, ltb, leb}
use lib.ListN.{length, drop, length-drop}
use borrow.Author.Tests.{leb-true, le-leb, lt-ltb, ltb-true, eqb-true, eq-eqb, ne_eqb}
use Rattle.lists.specs.Pick.{pick, pick_true, pick-false}
use Rattle.lists.specs.Chunks.{chunk_at}
use Rattle.lists.proofs.Tests.{and-false}
use Rattle.heap.specs.State.{is_suspended, is_resumable, is_finished}
use Rattle.heap.specs.declared.object.CoroState.{CoroState}
use Rattle.heap.specs.declared.object.CoroObj.{CoroObj}
use Rattle.heap.specs.declared.object.Object as H
use Rattle.heap.specs.declared.object.Object.TheVariants as O
use Rattle.model.specs.Lists.{is_nil}
use Rattle.model.specs.Program.{Setup}
use Rattle.model.specs.Object.{Core, Is, as_coro}
use Rattle.model.specs.Frames.{top_base}
use Rattle.model.specs.Sound.{row_words, saved_sizes, saved_in, rowless, body_last, frames_over}
use Rattle.model.specs.declared.machine.Frame.{Frame}
use Rattle.claims_sound.proofs.Tests.{no_false, and_left, and_right, both, or_left, or_right, negate}
use Rattle.memory_tables.specs.Layout.{frame_words, frame_of}
use Rattle.memory_tables.specs.Parts.{piled}
use Rattle.memory_tables.specs.Sizes.{frames_size}
use Rattle.memory_world.specs.Rows.{Row, owns, saved_by}
use Rattle.memory_world.specs.Memory.{Lent}
use Rattle.memory_world.specs.declared.machine.Sizes.{Sizes}
use Rattle.memory_world.specs.Words.{sizes_of}
use Rattle.memory_world.specs.Decode.{core_of, rest_of, object_of}
use Rattle.memory_sound.specs.Words.{rest_ok, frames_held, fits_row}
use Rattle.memory_sound.proofs.Held.{length-piled, piled-take}
use Rattle.memory_sound.proofs.Rowed.{regs_long}
use Rattle.check_machine.specs.Saved.{sizes_in, nothing_saved, waits_in, frames_in, coro_test}
use Rattle.check_machine.proofs.Waiting.{resumable-frames, running-frames}
use Rattle.check_machine.proofs.Coros.{row_inside, in_row, ended, live}

-- ---- tests

nil-length : {A : Type 0} (xs : List A) → is_nil xs ≡ eqb (length xs) 0
nil-length [] = refl
nil-length (x ∷ xs) = sym (ne_eqb (suc (length xs)) 0 (λ e. omega arith))

shuffle : (h o b w : Bool) → (((h && o) && b) && w) ≡ (h && ((b && o) && w))
shuffle true true true w = refl
shuffle true true false w = refl
shuffle true false true w = refl
shuffle true false false w = refl
shuffle false o b w = refl

-- a finished one is not resumed
ended-stays : (t : CoroState) → is_finished t ≡ true → is_resumable t ≡ false
ended-stays CoroState.Created e = no_false e
ended-stays CoroState.Running e = refl
ended-stays CoroState.Yielded e = no_false e
ended-stays CoroState.Awaiting e = no_false e
ended-stays CoroState.Returned e = refl
ended-stays CoroState.Failed e = refl

module _ (s : Setup) (M : Lent) where
  -- what a row holds: zeros after it
  pub record RowIn (n : ℕ) (row : Row) : Type 0 where
    pub below : n < s.limits.rows
    pub regs : rest_ok (chunk_at (row_words s) M.saved_stack n) (length row.regs) ≡ true
    pub frames : frames_held (chunk_at (frames_size s) M.saved_frames n) (length row.frames) ≡ true

  -- the rules of what an object decodes to, beside its row
  pub record Kept (o : H.Object) : Type 0 where
    pub sizes : saved_sizes s (as_coro (object_of s M o)) ≡ true
    pub saved : saved_in s (as_coro (object_of s M o)) ≡ true
    pub unrowed : rowless (as_coro (object_of s M o)) ≡ true
    pub fits : fits_row (row_words s) o ≡ true
    pub row : (n : ℕ) → owns n (as_coro (object_of s M o)) ≡ true → RowIn n (saved_by (as_coro (object_of s M o)))

  module _ (on_stack : s.limits.rows * row_words s ≤ length M.saved_stack) (on-frames : s.limits.rows * frames_size s ≤ length M.saved_frames) (one : 1 ≤ s.limits.rows) (c : CoroObj) where
    abbrev l : Sizes
    l = sizes_of s

    abbrev k : Core
    k = core_of s M c

    abbrev regs-row : List ℕ
    regs-row = chunk_at (row_words s) M.saved_stack c.row

    abbrev frames-row : List ℕ
    frames-row = chunk_at (frames_size s) M.saved_frames c.row

    abbrev fs : List Frame
    fs = piled 6 frame_of c.frames frames-row

    abbrev test : Bool
    test = coro_test l s M.saved_stack M.saved_frames c

    frames-long : length k.frames ≡ c.frames
    frames-long = length-piled 6 frame_words frame_of c.frames (drop (c.row * frames_size s) M.saved_frames)

    -- what is saved, by the words of the row
    abbrev resumable-as : Bool
    resumable-as = body_last fs && frames_over s c.regs fs && waits_in frames-row c

    abbrev saved-as : Bool
    saved-as = pick (is_resumable c.state) resumable-as (eqb c.frames 0 && eqb c.regs 0)

    module _ (below : c.row < s.limits.rows) (narrow : c.regs ≤ row_words s) (short : c.frames ≤ s.limits.depth) where
      long : length k.regs ≡ c.regs
      long = regs_long s M on_stack on-frames c below narrow

      frames-are : k.frames ≡ fs
      frames-are =
          let F = frames_size s in
          let D = drop (c.row * F) M.saved_frames in
          let i = row_inside s.limits.rows F c.row (length M.saved_frames) below on-frames in
          let d : F ≤ length D = rw (length-drop (c.row * F) M.saved_frames) (omega arith) in
          sym (piled-take 6 frame_words frame_of c.frames F D d (omega arith))

      saved-same : saved_in s (Is k (rest_of c)) ≡ saved-as
      saved-same =
          let a : is_nil k.frames ≡ eqb c.frames 0 = nil-length k.frames ∙ ap (λ n. eqb n 0) frames-long in
          let b : is_nil k.regs ≡ eqb c.regs 0 = nil-length k.regs ∙ ap (λ n. eqb n 0) long in
          λ j.
          pick (is_resumable c.state)
          (body_last (frames-are j) && frames_over s (long j) (frames-are j) && (not (is_suspended c.state) || ltb (top_base (frames-are j) + c.waiting) (long j)))
          (a j && b j)

      sizes-same : saved_sizes s (Is k (rest_of c)) ≡ sizes_in l c
      sizes-same = λ j. leb (long j) (row_words s) && leb (frames-long j) s.limits.depth && leb c.maxregs (row_words s) && leb c.maxframes s.limits.depth

      frames-same : frames_in s frames-row c ≡ (frames_held frames-row c.frames && saved-as)
      frames-same = go (is_resumable c.state) refl
        where
          none : (t : Bool) → eqb c.frames 0 ≡ t → (t && eqb c.regs 0 && rest_ok frames-row 0) ≡ (frames_held frames-row c.frames && (t && eqb c.regs 0))
          none true e =
              let z = eqb-true c.frames 0 e in
              swap (eqb c.regs 0) (rest_ok frames-row 0) ∙ sym (ap (λ n. frames_held frames-row n && eqb c.regs 0) z)
            where
              swap : (a b : Bool) → (a && b) ≡ (b && a)
              swap true true = refl
              swap true false = refl
              swap false true = refl
              swap false false = refl
          none false e = sym (and-false (frames_held frames-row c.frames))

          go : (t : Bool) → is_resumable c.state ≡ t → frames_in s frames-row c ≡ (frames_held frames-row c.frames && saved-as)
          go true e =
              resumable-frames s frames-row c e
              ∙ shuffle (frames_held frames-row c.frames) (frames_over s c.regs fs) (body_last fs) (waits_in frames-row c)
              ∙ sym (ap (λ x. frames_held frames-row c.frames && x) (ap (λ t. pick t resumable-as (eqb c.frames 0 && eqb c.regs 0)) e ∙ pick_true _ _))
          go false e =
              running-frames s frames-row c e
              ∙ none (eqb c.frames 0) refl
              ∙ sym (ap (λ x. frames_held frames-row c.frames && x) (ap (λ t. pick t resumable-as (eqb c.frames 0 && eqb c.regs 0)) e ∙ pick-false _ _))

      -- of a finished one nothing is saved
      ended-saved : is_finished c.state ≡ true → saved-as ≡ (eqb c.frames 0 && eqb c.regs 0)
      ended-saved f = ap (λ t. pick t resumable-as (eqb c.frames 0 && eqb c.regs 0)) (ended-stays c.state f) ∙ pick-false _ _

      row_in : rest_ok regs-row c.regs ≡ true → frames_held frames-row c.frames ≡ true → RowIn c.row (saved_by (Is k (rest_of c)))
      row_in a b = record { below = below; regs = ap (rest_ok regs-row) long ∙ a; frames = ap (frames_held frames-row) frames-long ∙ b }

    -- ---- from the test

    sized : sizes_in l c ≡ true → (c.regs ≤ row_words s) × (c.frames ≤ s.limits.depth)
    sized e =
        let a = leb c.regs (row_words s) in
        let b = leb c.frames s.limits.depth in
        let d = leb c.maxregs (row_words s) in
        let q = and_left (a && b) d (and_left (a && b && d) (leb c.maxframes s.limits.depth) e) in
        (leb-true c.regs (row_words s) (and_left a b q), leb-true c.frames s.limits.depth (and_right a b q))

    pub kept : test ≡ true → Kept (O.Coro c)
    kept e = go (is_finished c.state) refl
      where
        z : sizes_in l c ≡ true
        z = and_left (sizes_in l c) (pick (is_finished c.state) (nothing_saved c) (in_row l s M.saved_stack M.saved_frames c)) e

        narrow : c.regs ≤ row_words s
        narrow = (sized z).0

        short : c.frames ≤ s.limits.depth
        short = (sized z).1

        fits : fits_row (row_words s) (O.Coro c) ≡ true
        fits = le-leb c.regs (row_words s) narrow

        go : (t : Bool) → is_finished c.state ≡ t → Kept (O.Coro c)
        go true f =
            let p = ended l s M.saved_stack M.saved_frames c z f ∙ e in
            let x = eqb c.row 0 in
            let y = eqb c.frames 0 in
            let w = eqb c.regs 0 in
            let u = and_left (x && y) w p in
            let first = and_left x y u in
            let zero = eqb-true c.row 0 first in
            let below : c.row < s.limits.rows = omega arith in
            record {
              sizes = sizes-same below narrow short ∙ z;
              saved = saved-same below narrow short ∙ ended-saved below narrow short f ∙ both (and_right x y u) (and_right (x && y) w p);
              unrowed = or_right (not (is_finished c.state)) x first;
              fits = fits;
              row = λ n q. no_false (sym (ap (λ t. not t && eqb c.row n) f) ∙ q);
            }
        go false f =
            let p = live l s M.saved_stack M.saved_frames c z f ∙ e in
            let x = ltb c.row s.limits.rows in
            let y = rest_ok regs-row c.regs in
            let w = frames_in s frames-row c in
            let u = and_left (x && y) w p in
            let below = ltb-true c.row s.limits.rows (and_left x y u) in
            let v = sym (frames-same below narrow short) ∙ and_right (x && y) w p in
            let h = frames_held frames-row c.frames in
            record {
              sizes = sizes-same below narrow short ∙ z;
              saved = saved-same below narrow short ∙ and_right h saved-as v;
              unrowed = or_left (not (is_finished c.state)) (eqb c.row 0) (negate f);
              fits = fits;
              row = λ n q. subst (λ m. RowIn m (saved_by (Is k (rest_of c)))) (eqb-true c.row n (and_right (not (is_finished c.state)) (eqb c.row n) q)) (row_in below narrow short (and_right x y u) (and_left h saved-as v));
            }

    -- ---- and back

    pub tested : Kept (O.Coro c) → test ≡ true
    tested q = go (is_finished c.state) refl
      where
        narrow : c.regs ≤ row_words s
        narrow = leb-true c.regs (row_words s) q.fits

        short : c.frames ≤ s.limits.depth
        short =
            let a = leb (length k.regs) (row_words s) in
            let b = leb (length k.frames) s.limits.depth in
            let d = leb c.maxregs (row_words s) in
            let p = leb-true (length k.frames) s.limits.depth (and_right a b (and_left (a && b) d (and_left (a && b && d) (leb c.maxframes s.limits.depth) q.sizes))) in
            subst (λ n. n ≤ s.limits.depth) frames-long p

        go : (t : Bool) → is_finished c.state ≡ t → test ≡ true
        go true f =
            let x = eqb c.row 0 in
            let first : x ≡ true = sym (ap (λ t. not t || x) f) ∙ q.unrowed in
            let zero = eqb-true c.row 0 first in
            let below : c.row < s.limits.rows = omega arith in
            let y = eqb c.frames 0 in
            let w = eqb c.regs 0 in
            let v = sym (ended-saved below narrow short f) ∙ sym (saved-same below narrow short) ∙ q.saved in
            sym (ended l s M.saved_stack M.saved_frames c (sym (sizes-same below narrow short) ∙ q.sizes) f) ∙ both (both first (and_left y w v)) (and_right y w v)
        go false f =
            let r = q.row c.row (both (negate f) (eq-eqb c.row c.row refl)) in
            let below = r.below in
            let a = sym (ap (rest_ok regs-row) (long below narrow short)) ∙ r.regs in
            let b = sym (ap (frames_held frames-row) frames-long) ∙ r.frames in
            let v = sym (saved-same below narrow short) ∙ q.saved in
            sym (live l s M.saved_stack M.saved_frames c (sym (sizes-same below narrow short) ∙ q.sizes) f)
            ∙ both (both (lt-ltb c.row s.limits.rows below) a) (frames-same below narrow short ∙ both b v)
