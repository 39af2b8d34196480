-- The end of a coroutine on the world: what the code may rely on, and what it leaves. Assumes nothing.
use mathlib.Core.Path.{◌≡◌, refl, sym, ap, ap₂, ◌∙◌, subst}
use mathlib.Core.Bool.{Bool, true, false, ◌&&◌}
use mathlib.Core.List.{List, []}
use Prim.Native.Nat.{ℕ, ◌+◌, ◌*◌, ◌≤◌, ◌<◌}
use native.Mathlib.Omega.{arith}
use lib.ListN.{length, set, replicate}
use lib.Dec.{leb}
use borrow.Author.Tests.{leb-true}
use Rattle.lists.specs.Parts.{splice}
use Rattle.heap.specs.Word.{slot_of, tag_of}
use Rattle.heap.specs.Table.{Slot, slot}
use Rattle.heap.specs.Heap.{slots_of, coro_of, put_slot, SlotFits}
use Rattle.heap.specs.declared.fault.Fault.{Fault}
use Rattle.std.specs.Prelude.{Result, Ok, Err}
use Rattle.heap.specs.declared.object.CoroObj.{CoroObj}
use Rattle.heap.specs.declared.object.CoroState.{CoroState}
use Rattle.heap.specs.declared.object.Object.TheVariants as O
use Rattle.model.specs.State.{is_finished}
use Rattle.model.specs.Program.{Setup}
use Rattle.model.specs.Object.{Core, Rest, Object, Is, as_coro}
use Rattle.model.specs.World.{World}
use Rattle.model.specs.Heap.{change_as, set_coro}
use Rattle.model.specs.Coro.{in_state, ended, finish_coroutine}
use Rattle.model.specs.Sound.{row_words, saved_sizes, sound}
use Rattle.model.specs.declared.machine.Fuel.{Fuel}
use Rattle.claims_sound.proofs.Tests.{no_false, no_true, and_left, and_right, each_at, at_each}
use Rattle.claims_sound.proofs.Point.{Points, finds}
use Rattle.claims_sound.proofs.Sound.{sound→}
use Rattle.memory_tables.specs.Layout.{frame_words}
use Rattle.memory_tables.specs.Parts.{SavedStack, SavedFrames, RowIs, upward}
use Rattle.memory_tables.specs.Sizes.{frames_size}
use Rattle.memory_tables.proofs.Codes.{length-frame}
use Rattle.memory_tables.proofs.Parts.{length-upward}
use Rattle.memory_tables.proofs.Rowed.{rows_empty}
use Rattle.memory_tables.proofs.Fits.{row_inside}
use Rattle.memory_world.specs.Slots.{to_coro, to_slots}
use Rattle.memory_world.specs.Rows.{row_at, Rowed}
use Rattle.memory_world.specs.Memory.{Lent, Rep, on_slots, on_saved, regs_rows, frames_rows}
use Rattle.memory_world.specs.declared.machine.Machine.{Machine}
use Rattle.memory_world.specs.declared.machine.Sizes.{Sizes}
use Rattle.memory_world.proofs.Tables.{slots-are, length-tabled}
use Rattle.memory_world.proofs.Turn.{turn-slots}
use Rattle.memory_world.proofs.Lookup.{There, there, lacks, regs-row, frames-row, row_below}
use Rattle.memory_world.proofs.Slotted.{slot-inside, put-slots, object-rep}
use Rattle.coro_end.specs.Finish.{ended_as, FreeFits, Freed}
use Rattle.coro_end.proofs.Rowless.{disowned, regs-left, frames-left}

-- a sound world has its rows
pub sound-rowed : (w : World) → sound w ≡ true → Rowed w.setup w.slots
sound-rowed w snd =
    let h = sound→ {ex = false} w snd (λ z. no_false z) in
    record {
      own = h.heap.rows.own;
      inside = h.heap.rows.inside;
      saved = at_each (λ (x : Slot Object). saved_sizes w.setup (as_coro x.object)) w.slots (slot 0 Object.Empty) (λ i k. (h.heap.slots i k).object.sizes);
    }

-- ---- one world that the words stand for

module _ (l : Sizes) (M : Lent) (m : Machine) (f : Fuel) (v : ℕ) (w : World) (rep : Rep l w M m f) where
  in-slots : (x : Result (ℕ × CoroObj) Fault) → x ≡ coro_of (slots_of m.count M.slots) v → x ≡ coro_of (to_slots w.slots) v
  in-slots x e = e ∙ ap (λ xs. coro_of xs v) (slots-are (to_slots w.slots) M.slots m.count rep.slots)

  -- no coroutine is found
  pub none-ends : (s : CoroState) (result : ℕ) (g : Fault) → Err g ≡ coro_of (slots_of m.count M.slots) v → Rep l (finish_coroutine v s result w) M m f
  none-ends s result g e =
      let q = lacks w.slots v g (in-slots (Err g) e) in
      subst (λ c. Rep l (change_as c v (in_state s) (ended result) w) M m f) (sym q.coro) rep

  module _ (rowed : Rowed w.setup w.slots) (i : ℕ) (c : CoroObj) (found : Ok (i, c) ≡ coro_of (slots_of m.count M.slots) v) where
    abbrev u : Setup
    u = w.setup

    in-world : There w.slots v i c
    in-world = there w.slots v i c (in-slots (Ok (i, c)) found)

    abbrev k : Core
    k = in-world.core

    abbrev r : Rest
    r = in-world.rest

    points : Points w.slots v (Object.Coro k r)
    points = finds w.slots v k r in-world.coro

    -- its slot lies in the words
    pub slot-fits : SlotFits M.slots i
    slot-fits =
        let a = slot-inside w.slots M.slots m.count v i (Object.Coro k r) rep.slots points in-world.slot in
        let b = rep.slots.within in
        omega arith

    fits : (length k.regs ≤ row_words u) × (length k.frames ≤ u.limits.depth)
    fits =
        let h : saved_sizes u (Is k r) ≡ true =
        sym (ap (λ o. saved_sizes u (as_coro o)) points.here)
        ∙ each_at (λ (x : Slot Object). saved_sizes u (as_coro x.object)) w.slots (slot_of v) (slot 0 Object.Empty) rowed.saved points.inside in
        let a₁ = and_left (leb (length k.regs) (row_words u) && leb (length k.frames) u.limits.depth && leb r.maxregs (row_words u)) (leb r.maxframes u.limits.depth) h in
        let a₂ = and_left (leb (length k.regs) (row_words u) && leb (length k.frames) u.limits.depth) (leb r.maxregs (row_words u)) a₁ in (
          leb-true (length k.regs) (row_words u) (and_left (leb (length k.regs) (row_words u)) (leb (length k.frames) u.limits.depth) a₂),
          leb-true (length k.frames) u.limits.depth (and_right (leb (length k.regs) (row_words u)) (leb (length k.frames) u.limits.depth) a₂),
        )

    -- its row, while it is unfinished
    module _ (live : is_finished k.state ≡ false) where
      row : r.row < u.limits.rows
      row = row_below w.slots v k r points rowed.own live u.limits.rows rowed.inside

      regs-is : RowIs (λ xs. xs) (row_words u) (regs_rows u.limits.rows w.slots) r.row (c.row * l.width) k.regs []
      regs-is =
          let n : length (regs_rows u.limits.rows w.slots) ≡ u.limits.rows = length-tabled (λ j. (row_at j w.slots).regs) 0 u.limits.rows in
          record {
            among = subst (λ z. r.row < z) (sym n) row;
            place = ap₂ (λ a b. a * b) (ap (λ x. x.row) in-world.is) rep.sizes.width;
            holds = regs-row w.slots v k r points rowed.own live u.limits.rows row;
            fits = fits.0;
          }

      long : length (upward frame_words k.frames) ≡ length k.frames * 6
      long = length-upward frame_words 6 length-frame k.frames

      frames-is : RowIs (upward frame_words) (frames_size u) (frames_rows u.limits.rows w.slots) r.row (c.row * (l.depth * 6)) k.frames []
      frames-is =
          let n : length (frames_rows u.limits.rows w.slots) ≡ u.limits.rows = length-tabled (λ j. (row_at j w.slots).frames) 0 u.limits.rows in
          let e = long in
          let y = fits.1 in
          record {
            among = subst (λ z. r.row < z) (sym n) row;
            place = ap₂ (λ a b. a * (b * 6)) (ap (λ x. x.row) in-world.is) rep.sizes.depth;
            holds = frames-row w.slots v k r points rowed.own live u.limits.rows row;
            fits = omega arith;
          }

    same-state : (b : Bool) → is_finished c.state ≡ b → is_finished k.state ≡ b
    same-state b e = sym (ap (λ (x : CoroObj). is_finished x.state) in-world.is) ∙ e

    regs_count : c.regs ≡ length k.regs
    regs_count = ap (λ x. x.regs) in-world.is

    frames-count : c.frames ≡ length k.frames
    frames-count = ap (λ x. x.frames) in-world.is

    pub free-fits : FreeFits M.saved_stack M.saved_frames l c
    free-fits =
        record {
          row = λ e.
              let o = same-state false e in
              let t₁ = row_inside (λ xs. xs) (row_words u) (regs_rows u.limits.rows w.slots) M.saved_stack r.row (c.row * l.width) k.regs [] rep.saved_stack (regs-is o) in
              let t₂ = row_inside (upward frame_words) (frames_size u) (frames_rows u.limits.rows w.slots) M.saved_frames r.row (c.row * (l.depth * 6)) k.frames [] rep.saved_frames (frames-is o) in
              let z₁ = rep.sizes.width in
              let z₂ = rep.sizes.depth in
              let n₁ = regs_count in
              let n₂ = frames-count in
              let y₁ = fits.0 in
              let y₂ = fits.1 in
              record { regs = omega arith; on-stack = omega arith; frames = omega arith; on-frames = omega arith };
        }

    module _ (s : CoroState) (result : ℕ) (fin : is_finished s ≡ true) (slots' saved_stack' saved_frames' : List ℕ)
        (mark : slots' ≡ put_slot M.slots i (slot (tag_of v) (O.Coro (ended_as s result c)))) (free : Freed M.saved_stack M.saved_frames saved_stack' saved_frames' l c) where
      abbrev k' : Core
      k' = in_state s k

      abbrev r' : Rest
      r' = ended result r

      abbrev M' : Lent
      M' = on_slots slots' (on_saved saved_stack' saved_frames' M)

      marked : slots' ≡ put_slot M.slots i (slot (tag_of v) (O.Coro (to_coro k' r')))
      marked = mark ∙ ap (λ (x : CoroObj). put_slot M.slots i (slot (tag_of v) (O.Coro (ended_as s result x)))) in-world.is

      -- it had no row
      again : is_finished k.state ≡ true → Rep l (set_coro v k' r' w) M' m f
      again e =
          let h = free.none (ap (λ (x : CoroObj). is_finished x.state) in-world.is ∙ e) in
          subst (λ a. Rep l (set_coro v k' r' w) (on_slots slots' (on_saved a saved_frames' M)) m f) (sym h.0)
          (subst (λ b. Rep l (set_coro v k' r' w) (on_slots slots' (on_saved M.saved_stack b M)) m f) (sym h.1)
          (object-rep l M m f w v i (Object.Coro k r) (Object.Coro k' r') slots' rep points in-world.slot
          (λ n. disowned k' r' fin n ∙ sym (disowned k r e n)) (λ n t. no_true (sym t ∙ disowned k r e n)) marked))

      -- its row is empty
      freed : is_finished k.state ≡ false → Rep l (set_coro v k' r' w) M' m f
      freed e =
          let n = u.limits.rows in
          let now = ap (λ (x : CoroObj). is_finished x.state) in-world.is ∙ e in
          let up = upward frame_words in
          let wide : c.frames * 6 ≡ length (up k.frames) = ap (λ j. j * 6) frames-count ∙ sym (long e) in
          turn-slots l w M m f rep (set_coro v k' r' w).slots slots' saved_stack' saved_frames' m.count
          (put-slots w.slots M.slots slots' m.count v i (Object.Coro k r) (Object.Coro k' r') rep.slots points in-world.slot marked)
          (subst (λ z. SavedStack (row_words u) z saved_stack') (regs-left w.slots v k r points rowed.own e k' r' fin n)
          (subst (λ z. SavedStack (row_words u) (set (regs_rows n w.slots) r.row []) z)
          (sym ((free.row now).regs ∙ ap (λ j. splice M.saved_stack (c.row * l.width) (replicate j 0)) regs_count))
          (rows_empty (λ xs. xs) (row_words u) (regs_rows n w.slots) M.saved_stack r.row (c.row * l.width) k.regs [] rep.saved_stack (regs-is e) [] refl)))
          (subst (λ z. SavedFrames (frames_size u) z saved_frames') (frames-left w.slots v k r points rowed.own e k' r' fin n)
          (subst (λ z. SavedFrames (frames_size u) (set (frames_rows n w.slots) r.row []) z)
          (sym ((free.row now).frames ∙ ap (λ j. splice M.saved_frames (c.row * (l.depth * 6)) (replicate j 0)) wide))
          (rows_empty up (frames_size u) (frames_rows n w.slots) M.saved_frames r.row (c.row * (l.depth * 6)) k.frames [] rep.saved_frames (frames-is e) [] refl)))

      pub ends : Rep l (finish_coroutine v s result w) M' m f
      ends = subst (λ x. Rep l (change_as x v (in_state s) (ended result) w) M' m f) (sym in-world.coro) (go (is_finished k.state) refl)
        where
          go : (b : Bool) → is_finished k.state ≡ b → Rep l (set_coro v k' r' w) M' m f
          go true e = again e
          go false e = freed e
