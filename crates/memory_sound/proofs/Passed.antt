-- The rules on lent words as records, from the test and back. Assumes nothing.
use mathlib.Core.Path.{◌≡◌}
use mathlib.Core.Bool.{true, ◌&&◌}
use Prim.Native.Nat.{◌≤◌}
use lib.Dec.{leb}
use lib.ListN.{length}
use borrow.Author.Tests.{leb-true, le-leb}
use Rattle.lists.specs.Parts.{pad}
use Rattle.heap.specs.Heap.{slots_of}
use Rattle.model.specs.Program.{Setup, setup_ok}
use Rattle.model.specs.Sound.{sound}
use Rattle.model.specs.declared.machine.Fuel.{Fuel}
use Rattle.claims_sound.proofs.Tests.{and_left, and_right, both}
use Rattle.memory_tables.specs.Sizes.{setup_words, stack_size, frames_size, chain_size, saved_stack_size, saved_frames_size, slots_size, queue_size, setup_size}
use Rattle.memory_world.specs.Memory.{Lent, Room}
use Rattle.memory_world.specs.declared.machine.Machine.{Machine}
use Rattle.memory_world.specs.Decode.{setup_of, world_of}
use Rattle.memory_sound.specs.Words.{same, setup_held, room_ok, counts_ok, outcome_held, runs_held, frames_held, chain_held, slots_held, fits_rows, saved_stack_held, saved_frames_held, words_ok, sound_words}

-- ---- lent words enough

module _ (s : Setup) (M : Lent) where
  pub room_of : room_ok s M ≡ true → setup_size s ≤ length M.setup → Room s M
  room_of h g =
      let a₁ = leb (stack_size s) (length M.stack) in
      let b₂ = leb (frames_size s) (length M.frames) in
      let b₃ = leb (chain_size s) (length M.chain) in
      let b₄ = leb (slots_size s) (length M.slots) in
      let b₅ = leb (saved_stack_size s) (length M.saved_stack) in
      let b₆ = leb (saved_frames_size s) (length M.saved_frames) in
      let b₇ = leb (queue_size s) (length M.ready) in
      let b₈ = leb (queue_size s) (length M.finalize) in
      let a₂ = a₁ && b₂ in
      let a₃ = a₂ && b₃ in
      let a₄ = a₃ && b₄ in
      let a₅ = a₄ && b₅ in
      let a₆ = a₅ && b₆ in
      let a₇ = a₆ && b₇ in
      let h₇ = and_left a₇ b₈ h in
      let h₆ = and_left a₆ b₇ h₇ in
      let h₅ = and_left a₅ b₆ h₆ in
      let h₄ = and_left a₄ b₅ h₅ in
      let h₃ = and_left a₃ b₄ h₄ in
      let h₂ = and_left a₂ b₃ h₃ in
      record {
        stack = leb-true (stack_size s) (length M.stack) (and_left a₁ b₂ h₂);
        frames = leb-true (frames_size s) (length M.frames) (and_right a₁ b₂ h₂);
        chain = leb-true (chain_size s) (length M.chain) (and_right a₂ b₃ h₃);
        slots = leb-true (slots_size s) (length M.slots) (and_right a₃ b₄ h₄);
        saved_stack = leb-true (saved_stack_size s) (length M.saved_stack) (and_right a₄ b₅ h₅);
        saved_frames = leb-true (saved_frames_size s) (length M.saved_frames) (and_right a₅ b₆ h₆);
        ready = leb-true (queue_size s) (length M.ready) (and_right a₆ b₇ h₇);
        finalize = leb-true (queue_size s) (length M.finalize) (and_right a₇ b₈ h);
        setup = g;
      }

  pub of_room : Room s M → room_ok s M ≡ true
  of_room r =
      both
      (both
      (both
      (both
      (both
      (both (both (le-leb (stack_size s) (length M.stack) r.stack) (le-leb (frames_size s) (length M.frames) r.frames)) (le-leb (chain_size s) (length M.chain) r.chain))
      (le-leb (slots_size s) (length M.slots) r.slots))
      (le-leb (saved_stack_size s) (length M.saved_stack) r.saved_stack))
      (le-leb (saved_frames_size s) (length M.saved_frames) r.saved_frames))
      (le-leb (queue_size s) (length M.ready) r.ready))
      (le-leb (queue_size s) (length M.finalize) r.finalize)

-- ---- numbers within limits

pub record Counts (s : Setup) (m : Machine) : Type 0 where
  pub height : m.height ≤ s.limits.stack
  pub depth : m.depth ≤ s.limits.depth
  pub active : m.active ≤ s.limits.depth
  pub count : m.count ≤ s.limits.slots
  pub ready : m.ready ≤ s.limits.slots
  pub finalize : m.finalize ≤ s.limits.slots

module _ (s : Setup) (m : Machine) where
  pub counts_of : counts_ok s m ≡ true → Counts s m
  counts_of h =
      let a₁ = leb m.height s.limits.stack in
      let b₂ = leb m.depth s.limits.depth in
      let b₃ = leb m.active s.limits.depth in
      let b₄ = leb m.count s.limits.slots in
      let b₅ = leb m.ready s.limits.slots in
      let b₆ = leb m.finalize s.limits.slots in
      let a₂ = a₁ && b₂ in
      let a₃ = a₂ && b₃ in
      let a₄ = a₃ && b₄ in
      let a₅ = a₄ && b₅ in
      let h₅ = and_left a₅ b₆ h in
      let h₄ = and_left a₄ b₅ h₅ in
      let h₃ = and_left a₃ b₄ h₄ in
      let h₂ = and_left a₂ b₃ h₃ in
      record {
        height = leb-true m.height s.limits.stack (and_left a₁ b₂ h₂);
        depth = leb-true m.depth s.limits.depth (and_right a₁ b₂ h₂);
        active = leb-true m.active s.limits.depth (and_right a₂ b₃ h₃);
        count = leb-true m.count s.limits.slots (and_right a₃ b₄ h₄);
        ready = leb-true m.ready s.limits.slots (and_right a₄ b₅ h₅);
        finalize = leb-true m.finalize s.limits.slots (and_right a₅ b₆ h);
      }

  pub of-counts : Counts s m → counts_ok s m ≡ true
  of-counts c =
      both
      (both
      (both
      (both (both (le-leb m.height s.limits.stack c.height) (le-leb m.depth s.limits.depth c.depth)) (le-leb m.active s.limits.depth c.active))
      (le-leb m.count s.limits.slots c.count))
      (le-leb m.ready s.limits.slots c.ready))
      (le-leb m.finalize s.limits.slots c.finalize)

-- ---- all rules

module _ (M : Lent) (m : Machine) (f : Fuel) where
  pub record Passed : Type 0 where
    pub setup : setup_ok (setup_of M.setup) ≡ true
    pub held : same M.setup (pad (length M.setup) (setup_words (setup_of M.setup))) ≡ true
    pub room : room_ok (setup_of M.setup) M ≡ true
    pub counts : counts_ok (setup_of M.setup) m ≡ true
    pub outcome : outcome_held m.outcome ≡ true
    pub runs : runs_held M m ≡ true
    pub frames : frames_held M.frames m.depth ≡ true
    pub chain : chain_held M.chain m.active ≡ true
    pub slots : slots_held M.slots m.count ≡ true
    pub fits : fits_rows (setup_of M.setup) (slots_of m.count M.slots) ≡ true
    pub saved_stack : saved_stack_held (setup_of M.setup) (world_of M m f).slots M.saved_stack ≡ true
    pub saved_frames : saved_frames_held (setup_of M.setup) (world_of M m f).slots M.saved_frames ≡ true
    pub sound : sound (world_of M m f) ≡ true

  pub passed : sound_words M m f ≡ true → Passed
  unfolding sound_words
  passed h =
      let s = setup_of M.setup in
      let w = world_of M m f in
      let x = setup_ok s in
      let y = same M.setup (pad (length M.setup) (setup_words s)) in
      let a₁ = room_ok s M in
      let a₂ = a₁ && counts_ok s m in
      let a₃ = a₂ && outcome_held m.outcome in
      let a₄ = a₃ && runs_held M m in
      let a₅ = a₄ && frames_held M.frames m.depth in
      let a₆ = a₅ && chain_held M.chain m.active in
      let a₇ = a₆ && slots_held M.slots m.count in
      let a₈ = a₇ && fits_rows s (slots_of m.count M.slots) in
      let a₉ = a₈ && saved_stack_held s w.slots M.saved_stack in
      let z = saved_frames_held s w.slots M.saved_frames in
      let k = and_left (setup_held M.setup && words_ok s w M m) (sound w) h in
      let u = and_left (setup_held M.setup) (words_ok s w M m) k in
      let v = and_right (setup_held M.setup) (words_ok s w M m) k in
      let h₉ = and_left a₉ z v in
      let h₈ = and_left a₈ (saved_stack_held s w.slots M.saved_stack) h₉ in
      let h₇ = and_left a₇ (fits_rows s (slots_of m.count M.slots)) h₈ in
      let h₆ = and_left a₆ (slots_held M.slots m.count) h₇ in
      let h₅ = and_left a₅ (chain_held M.chain m.active) h₆ in
      let h₄ = and_left a₄ (frames_held M.frames m.depth) h₅ in
      let h₃ = and_left a₃ (runs_held M m) h₄ in
      let h₂ = and_left a₂ (outcome_held m.outcome) h₃ in
      record {
        setup = and_left x y u;
        held = and_right x y u;
        room = and_left a₁ (counts_ok s m) h₂;
        counts = and_right a₁ (counts_ok s m) h₂;
        outcome = and_right a₂ (outcome_held m.outcome) h₃;
        runs = and_right a₃ (runs_held M m) h₄;
        frames = and_right a₄ (frames_held M.frames m.depth) h₅;
        chain = and_right a₅ (chain_held M.chain m.active) h₆;
        slots = and_right a₆ (slots_held M.slots m.count) h₇;
        fits = and_right a₇ (fits_rows s (slots_of m.count M.slots)) h₈;
        saved_stack = and_right a₈ (saved_stack_held s w.slots M.saved_stack) h₉;
        saved_frames = and_right a₉ z v;
        sound = and_right (setup_held M.setup && words_ok s w M m) (sound w) h;
      }

  pub passes : Passed → sound_words M m f ≡ true
  unfolding sound_words
  passes p =
      both
      (both (both p.setup p.held)
      (both (both (both (both (both (both (both (both (both p.room p.counts) p.outcome) p.runs) p.frames) p.chain) p.slots) p.fits) p.saved_stack) p.saved_frames))
      p.sound
