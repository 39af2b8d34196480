-- The words of a sound world are as many as the slices that they are put into. Assumes nothing.
use mathlib.Core.Path.{◌≡◌, ap, ◌∙◌}
use mathlib.Core.Bool.{true, false}
use mathlib.Core.List.{List}
use Prim.Native.Nat.{ℕ, ◌*◌}
use native.Mathlib.Omega.{arith}
use lib.ListN.{length, length-map}
use Rattle.lists.specs.Chunks.{words}
use Rattle.lists.proofs.Tables.{length-words}
use Rattle.heap.specs.Slot.{width, slot_words, slot_of_words}
use Rattle.heap.proofs.Slots.{length-slot}
use Rattle.model.specs.World.{World}
use Rattle.model.specs.Sound.{row_words, sound}
use Rattle.claims_sound.proofs.Tests.{no_false}
use Rattle.claims_sound.proofs.Stand.{chained}
use Rattle.claims_sound.proofs.Sound.{sound→}
use Rattle.memory_tables.specs.Layout.{frame_words, active_words}
use Rattle.memory_tables.specs.Parts.{upward, in_row}
use Rattle.memory_tables.specs.Sizes.{setup_words, frames_size}
use Rattle.memory_tables.proofs.Codes.{length-frame, length-active}
use Rattle.memory_tables.proofs.Padded.{length-pad}
use Rattle.memory_tables.proofs.Parts.{length-upward}
use Rattle.memory_tables.proofs.Rowed.{length-in_row}
use Rattle.memory_world.specs.Slots.{to_slot, to_slots}
use Rattle.memory_world.specs.Rows.{row_at}
use Rattle.memory_world.specs.Memory.{Lent, tabled, regs_rows, frames_rows, Room}
use Rattle.memory_world.proofs.Tables.{length-tabled}
use Rattle.memory_world.proofs.Few.{queue-few}
use Rattle.memory_world.specs.Words.{lengths_of, words_in}
use Rattle.memory_world.proofs.Encoded.{length-setup}

-- rows of one width
length-rows : {A : Type 0} (enc : A → List ℕ) (w : ℕ) (f : ℕ → A) (n : ℕ) → length (words (λ x. in_row w (enc x)) (tabled f 0 n)) ≡ n * w
length-rows enc w f n = length-words w (λ x. in_row w (enc x)) (λ _. f 0) (λ x. length-in_row w (enc x)) (tabled f 0 n) ∙ ap (λ k. k * w) (length-tabled f 0 n)

pub same-lengths : (w : World) (M : Lent) → sound w ≡ true → Room w.setup M → lengths_of (words_in (lengths_of M) w) ≡ lengths_of M
same-lengths w M e r =
    let s = w.setup in
    let h = sound→ {ex = false} w e (λ z. no_false z) in
    let high = h.tower.height in
    let deep = h.tower.depth in
    let few-active = chained h.tower.stands in
    let few-slots = h.heap.count in
    let few-tasks = queue-few (λ r. r.task) w.slots w.ready h.tasks in
    let few-cleanups = queue-few (λ r. r.finalized) w.slots w.finalize h.cleanups in
    let of-frames = length-upward frame_words 6 length-frame w.frames in
    let of-chain = length-upward active_words 6 length-active w.chain in
    let of_slots : length (words slot_words (to_slots w.slots)) ≡ length (to_slots w.slots) * width = length-words width slot_words slot_of_words length-slot (to_slots w.slots) in
    let count : length (to_slots w.slots) ≡ length w.slots = length-map w.slots to_slot in
    let of-regs = length-rows (λ (xs : List ℕ). xs) (row_words s) (λ i. (row_at i w.slots).regs) s.limits.rows in
    let of-saved = length-rows (upward frame_words) (frames_size s) (λ i. (row_at i w.slots).frames) s.limits.rows in
    let of-setup = length-setup s in
    let stack = length-pad (length M.stack) w.stack (omega arith) in
    let frames = length-pad (length M.frames) (upward frame_words w.frames) (omega arith) in
    let chain = length-pad (length M.chain) (upward active_words w.chain) (omega arith) in
    let slots = length-pad (length M.slots) (words slot_words (to_slots w.slots)) (omega arith) in
    let saved_stack = length-pad (length M.saved_stack) (words (λ xs. in_row (row_words s) xs) (regs_rows s.limits.rows w.slots)) (omega arith) in
    let saved_frames = length-pad (length M.saved_frames) (words (λ fs. in_row (frames_size s) (upward frame_words fs)) (frames_rows s.limits.rows w.slots)) (omega arith) in
    let ready = length-pad (length M.ready) w.ready (omega arith) in
    let finalize = length-pad (length M.finalize) w.finalize (omega arith) in
    let setup = length-pad (length M.setup) (setup_words s) (omega arith) in
    λ i.
    record {
      stack = stack i;
      frames = frames i;
      chain = chain i;
      slots = slots i;
      saved_stack = saved_stack i;
      saved_frames = saved_frames i;
      ready = ready i;
      finalize = finalize i;
      setup = setup i;
    }
