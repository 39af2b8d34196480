-- The objects that slots and rows decode to are those of the world. Assumes nothing.
use mathlib.Core.Path.{◌≡◌, refl, sym, ap, ap₂, ◌∙◌, subst}
use mathlib.Core.Bool.{Bool, true, false, not, ◌&&◌}
use mathlib.Core.List.{List, [], ◌∷◌}
use Prim.Native.Nat.{ℕ, suc, ◌*◌, ◌≤◌, ◌<◌}
use native.Mathlib.Omega.{arith}
use lib.ListN.{length, drop}
use lib.Dec.{ltb, leb}
use borrow.Author.Tests.{ltb-true, leb-true, eq-eqb}
use Rattle.lists.specs.Pick.{pick}
use Rattle.lists.specs.Parts.{part}
use Rattle.heap.specs.Table.{Slot, slot}
use Rattle.heap.specs.declared.object.CoroState.{CoroState}
use Rattle.model.specs.Lists.{is_nil, each, distinct}
use Rattle.model.specs.Program.{Setup}
use Rattle.model.specs.State.{is_resumable, is_finished}
use Rattle.model.specs.Object.{Core, Rest, Object, Is, as_coro}
use Rattle.model.specs.Rows.{held_rows}
use Rattle.model.specs.Sound.{row_words, body_last, frames_over, waits, saved_in}
use Rattle.model.specs.declared.machine.Frame.{Frame}
use Rattle.claims_sound.proofs.Tests.{no_false, no_true, and_left, and_right, among-each}
use Rattle.claims_sound.proofs.Point.{at}
use Rattle.claims_sound.proofs.Slots.{ObjectOk}
use Rattle.memory_tables.specs.Layout.{frame_words, frame_of}
use Rattle.memory_tables.specs.Parts.{SavedStack, SavedFrames, piled}
use Rattle.memory_tables.specs.Sizes.{frames_size}
use Rattle.memory_tables.proofs.Codes.{length-frame}
use Rattle.memory_tables.proofs.Parts.{length-upward}
use Rattle.memory_tables.proofs.Rowed.{rows-part}
use Rattle.memory_tables.proofs.Fits.{saved-back}
use Rattle.memory_world.specs.Slots.{to_coro, to_object, to_slots}
use Rattle.memory_world.specs.Rows.{owns, saved_by, row_at}
use Rattle.memory_world.specs.Memory.{Lent, regs_rows, frames_rows}
use Rattle.memory_world.proofs.Rows.{held_at, row_is}
use Rattle.memory_world.proofs.Tables.{rows_at, length-tabled}
use Rattle.memory_world.specs.Decode.{core_of, object_of, objects_of}

-- ---- nothing is saved for a finished one

no-list : {A : Type 0} (xs : List A) → is_nil xs ≡ true → xs ≡ []
no-list [] e = refl
no-list (x ∷ xs) e = no_false e

not-resumable : (t : CoroState) → is_finished t ≡ true → is_resumable t ≡ false
not-resumable CoroState.Created e = no_false e
not-resumable CoroState.Running e = refl
not-resumable CoroState.Yielded e = no_false e
not-resumable CoroState.Awaiting e = no_false e
not-resumable CoroState.Returned e = refl
not-resumable CoroState.Failed e = refl

otherwise : (t a b : Bool) → t ≡ false → pick t a b ≡ true → b ≡ true
unfolding pick
otherwise true a b e h = no_true e
otherwise false a b e h = h

unsaved : (s : Setup) (k : Core) (r : Rest) → is_finished k.state ≡ true → saved_in s (Is k r) ≡ true → (k.frames ≡ []) × (k.regs ≡ [])
unsaved s k r e h =
    let saved = body_last k.frames && frames_over s (length k.regs) k.frames && waits k in
    let n = otherwise (is_resumable k.state) saved (is_nil k.frames && is_nil k.regs) (not-resumable k.state e) h in
    (no-list k.frames (and_left (is_nil k.frames) (is_nil k.regs) n), no-list k.regs (and_right (is_nil k.frames) (is_nil k.regs) n))

-- ---- an unfinished one has its row

module _ (s : Setup) (M : Lent) (xs : List (Slot Object)) (own : distinct (held_rows xs) ≡ true) (inside : each (λ row. ltb row s.limits.rows) (held_rows xs) ≡ true)
    (stack : SavedStack (row_words s) (regs_rows s.limits.rows xs) M.saved_stack) (frames : SavedFrames (frames_size s) (frames_rows s.limits.rows xs) M.saved_frames) where
  module _ (i : ℕ) (k : Core) (r : Rest) (here : (at xs i).object ≡ Object.Coro k r) (ok : ObjectOk false s (Object.Coro k r)) where
    module _ (live : is_finished k.state ≡ false) where
      owner : owns r.row (as_coro (at xs i).object) ≡ true
      owner = ap (λ o. owns r.row (as_coro o)) here ∙ ap₂ (λ a b. not a && b) live (eq-eqb r.row r.row refl)

      holds : row_at r.row xs ≡ saved_by (Is k r)
      holds = row_is xs i r.row own owner ∙ ap (λ o. saved_by (as_coro o)) here

      row_below : r.row < s.limits.rows
      row_below = ltb-true r.row s.limits.rows (among-each (λ row. ltb row s.limits.rows) r.row (held_rows xs) inside (held_at xs i r.row owner))

      fit : (length k.regs ≤ row_words s) × (length k.frames ≤ s.limits.depth)
      fit =
          let a = leb (length k.regs) (row_words s) in
          let b = leb (length k.frames) s.limits.depth in
          let c = leb r.maxregs (row_words s) in
          let h : (a && b) ≡ true = and_left (a && b) c (and_left (a && b && c) (leb r.maxframes s.limits.depth) ok.sizes) in
          (leb-true (length k.regs) (row_words s) (and_left a b h), leb-true (length k.frames) s.limits.depth (and_right a b h))

      regs-live : part (r.row * row_words s) (length k.regs) M.saved_stack ≡ k.regs
      regs-live =
          rows-part (λ zs. zs) (row_words s) (regs_rows s.limits.rows xs) M.saved_stack r.row (r.row * row_words s) k.regs [] stack
          (record {
            among = subst (λ n. r.row < n) (sym (length-tabled (λ j. (row_at j xs).regs) 0 s.limits.rows)) row_below;
            place = refl;
            holds = rows_at (λ j. (row_at j xs).regs) s.limits.rows r.row [] row_below ∙ ap (λ q. q.regs) holds;
            fits = fit.0;
          })

      frames-live : piled 6 frame_of (length k.frames) (drop (r.row * frames_size s) M.saved_frames) ≡ k.frames
      frames-live =
          saved-back (frames_size s) (frames_rows s.limits.rows xs) M.saved_frames r.row (r.row * frames_size s) (length k.frames) k.frames frames
          (record {
            among = subst (λ n. r.row < n) (sym (length-tabled (λ j. (row_at j xs).frames) 0 s.limits.rows)) row_below;
            place = refl;
            holds = rows_at (λ j. (row_at j xs).frames) s.limits.rows r.row [] row_below ∙ ap (λ q. q.frames) holds;
            fits = let l = length-upward frame_words 6 length-frame k.frames in let d = fit.1 in omega arith;
          })
          refl

    regs-back : (b : Bool) → is_finished k.state ≡ b → part (r.row * row_words s) (length k.regs) M.saved_stack ≡ k.regs
    regs-back true e = let n = (unsaved s k r e ok.saved).1 in ap (λ (z : List ℕ). part (r.row * row_words s) (length z) M.saved_stack) n ∙ sym n
    regs-back false e = regs-live e

    frames-back : (b : Bool) → is_finished k.state ≡ b → piled 6 frame_of (length k.frames) (drop (r.row * frames_size s) M.saved_frames) ≡ k.frames
    frames-back true e =
        let n = (unsaved s k r e ok.saved).0 in ap (λ (z : List Frame). piled 6 frame_of (length z) (drop (r.row * frames_size s) M.saved_frames)) n ∙ sym n
    frames-back false e = frames-live e

    core-back : core_of s M (to_coro k r) ≡ k
    core-back =
        let a = regs-back (is_finished k.state) refl in
        let b = frames-back (is_finished k.state) refl in
        λ j. record { state = k.state; regs = a j; frames = b j; waiting = k.waiting }

  object-back : (i : ℕ) (o : Object) → (at xs i).object ≡ o → ObjectOk false s o → object_of s M (to_object o) ≡ o
  object-back i Object.Empty e ok = refl
  object-back i (Object.Func f) e ok = refl
  object-back i (Object.Int n) e ok = refl
  object-back i (Object.Iter c d k) e ok = refl
  object-back i (Object.Error c f p v) e ok = refl
  object-back i (Object.Coro k r) e ok = ap (λ q. Object.Coro q r) (core-back i k r e ok)

  pub objects-back : ((i : ℕ) → i < length xs → ObjectOk false s (at xs i).object) → objects_of s M (to_slots xs) ≡ xs
  objects-back ok = each_back xs (λ i h. object-back i (at xs i).object refl (ok i h))
    where
      each_back : (ys : List (Slot Object)) → ((i : ℕ) → i < length ys → object_of s M (to_object (at ys i).object) ≡ (at ys i).object) → objects_of s M (to_slots ys) ≡ ys
      each_back [] h = refl
      each_back (y ∷ ys) h = ap₂ (λ o zs. slot y.tag o ∷ zs) (h 0 (omega arith)) (each_back ys (λ i g. h (suc i) (omega arith)))
