-- The words and the numbers of a world: each table from the start of its slice, and zeros after it.
use Rattle.std.specs.Prelude.{◌≡◌, true, ℕ, length}
use Rattle.lists.specs.Chunks.{words}
use Rattle.lists.specs.Parts.{pad}
use Rattle.heap.specs.Slot.{slot_words}
use Rattle.model.specs.Program.{Setup, setup_ok}
use Rattle.model.specs.World.{World, fresh}
use Rattle.model.specs.Sound.{row_words, sound}
use Rattle.model.specs.Example.{example}
use Rattle.memory_tables.specs.Layout.{frame_words, active_words}
use Rattle.memory_tables.specs.Parts.{upward, in_row}
use Rattle.memory_tables.specs.Sizes.{setup_words, stack_size, frames_size, chain_size, saved_stack_size, saved_frames_size, slots_size, queue_size, setup_size}
use Rattle.memory_world.specs.Slots.{to_slots}
use Rattle.memory_world.specs.Told.{told}
use Rattle.memory_world.specs.Memory.{Lent, Beside, regs_rows, frames_rows, Rep, Room}
use Rattle.memory_world.specs.Contract.{Ok, only}
use Rattle.memory_world.specs.declared.machine.Machine.{Machine}
use Rattle.memory_world.specs.declared.machine.Sizes.{Sizes}

-- the limits, the words of a row, and the costs
abbrev pub sizes_of : Setup → Sizes
sizes_of s =
    record {
      depth = s.limits.depth;
      stack = s.limits.stack;
      rows = s.limits.rows;
      slots = s.limits.slots;
      memory = s.limits.memory;
      width = row_words s;
      costs = s.costs;
    }

-- ---- the lent words

-- how long the nine slices are
pub record Lengths : Type 0 where
  pub stack : ℕ
  pub frames : ℕ
  pub chain : ℕ
  pub slots : ℕ
  pub saved_stack : ℕ
  pub saved_frames : ℕ
  pub ready : ℕ
  pub finalize : ℕ
  pub setup : ℕ

-- those of lent words
abbrev pub lengths_of : Lent → Lengths
lengths_of M =
    record {
      stack = length M.stack;
      frames = length M.frames;
      chain = length M.chain;
      slots = length M.slots;
      saved_stack = length M.saved_stack;
      saved_frames = length M.saved_frames;
      ready = length M.ready;
      finalize = length M.finalize;
      setup = length M.setup;
    }

-- as many as a set-up needs
abbrev pub needed : Setup → Lengths
needed s =
    record {
      stack = stack_size s;
      frames = frames_size s;
      chain = chain_size s;
      slots = slots_size s;
      saved_stack = saved_stack_size s;
      saved_frames = saved_frames_size s;
      ready = queue_size s;
      finalize = queue_size s;
      setup = setup_size s;
    }

-- a world in slices of such lengths
abbrev pub words_in : Lengths → World → Lent
words_in n w =
    let s = w.setup in
    record {
      stack = pad n.stack w.stack;
      frames = pad n.frames (upward frame_words w.frames);
      chain = pad n.chain (upward active_words w.chain);
      slots = pad n.slots (words slot_words (to_slots w.slots));
      saved_stack = pad n.saved_stack (words (λ xs. in_row (row_words s) xs) (regs_rows s.limits.rows w.slots));
      saved_frames = pad n.saved_frames (words (λ fs. in_row (frames_size s) (upward frame_words fs)) (frames_rows s.limits.rows w.slots));
      ready = pad n.ready w.ready;
      finalize = pad n.finalize w.finalize;
      setup = pad n.setup (setup_words s);
    }

-- in the shortest that its set-up allows
abbrev pub words_of : World → Lent
words_of w = words_in (needed w.setup) w

-- the numbers beside them
abbrev pub numbers_of : World → Machine
numbers_of w =
    record {
      height = length w.stack;
      depth = length w.frames;
      active = length w.chain;
      count = length w.slots;
      ready = length w.ready;
      finalize = length w.finalize;
      finalizing = w.finalizing;
      outcome = told w.outcome;
      used = w.used;
      seq = w.seq;
    }

-- what a call on a world's own words is not lent
abbrev pub beside_of : World → Beside
beside_of w = record { words = words_of w; fuel = w.fuel }

-- ---- every sound world has its words

-- its words stand for it, and are as many as its set-up needs
pub record Encoded (w : World) : Type 0 where
  pub rep : Rep (sizes_of w.setup) w (words_of w) (numbers_of w) w.fuel
  pub room : Room w.setup (words_of w)

pub record EveryWorld : Type 0 where
  pub encoded : (w : World) → sound w ≡ true → Encoded w
  -- in any slices that have room
  pub inside : (w : World) (M : Lent) → sound w ≡ true → Room w.setup M → Rep (sizes_of w.setup) w (words_in (lengths_of M) w) (numbers_of w) w.fuel
  -- so what a call requires, whichever slices it is lent, holds of every sound world's words
  pub required : (w : World) (M : Beside → Lent) → sound w ≡ true → M (beside_of w) ≡ words_of w → Ok (sizes_of w.setup) M (only (numbers_of w))
  -- every accepted set-up gives such a world
  pub begun : (s : Setup) → setup_ok s ≡ true → Ok (sizes_of s) (λ _. words_of (fresh s)) (only (numbers_of (fresh s)))
  -- and there is an accepted one
  pub accepted : setup_ok example ≡ true
