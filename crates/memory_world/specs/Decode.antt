-- The world that words, numbers and fuel stand for: what each table decodes to.
use Rattle.std.specs.Prelude.{◌≡◌, true, List, map, ℕ, ◌*◌, get_or, take, drop}
use Rattle.lists.specs.Parts.{part}
use Rattle.heap.specs.Table.{Slot, slot}
use Rattle.heap.specs.Heap.{slots_of}
use Rattle.heap.specs.declared.object.CoroObj.{CoroObj}
use Rattle.heap.specs.declared.object.Object as H
use Rattle.heap.specs.declared.object.Object.TheVariants as O
use Rattle.model.specs.Program.{Func, Setup, func_of}
use Rattle.model.specs.Object.{Core, Rest, Object}
use Rattle.model.specs.World.{World}
use Rattle.model.specs.Sound.{row_words, sound}
use Rattle.model.specs.declared.machine.Fuel.{Fuel}
use Rattle.memory_tables.specs.Layout.{frame_of, active_of, function_in}
use Rattle.memory_tables.specs.Parts.{piled}
use Rattle.memory_tables.specs.Sizes.{limits_of, costs_of, hook_of, frames_size}
use Rattle.memory_world.specs.Told.{outcome_in}
use Rattle.memory_world.specs.Memory.{Lent, tabled, Rep}
use Rattle.memory_world.specs.declared.machine.Machine.{Machine}
use Rattle.memory_world.specs.declared.machine.Sizes.{Sizes}
use Rattle.memory_world.specs.Words.{sizes_of, lengths_of, words_in, words_of, numbers_of}

-- ---- the set-up

-- as many functions as word 13 says
abbrev pub functions_of : List ℕ → List Func
functions_of ws = tabled (λ i. func_of (function_in ws i)) 0 (get_or ws 13 0)

-- five limits, six costs, the hook and the functions
abbrev pub setup_of : List ℕ → Setup
setup_of ws = record { limits = limits_of ws; costs = costs_of ws; hook = hook_of ws; functions = functions_of ws }

-- ---- objects

-- a coroutine's registers and frames are in its row, as many as its slot says
abbrev pub core_of : Setup → Lent → CoroObj → Core
core_of s M c =
    record {
      state = c.state;
      regs = part (c.row * row_words s) c.regs M.saved_stack;
      frames = piled 6 frame_of c.frames (drop (c.row * frames_size s) M.saved_frames);
      waiting = c.waiting;
    }

-- what is not moved stands in its slot
abbrev pub rest_of : CoroObj → Rest
rest_of c =
    record {
      closing = c.closing;
      finalized = c.finalized;
      task = c.task;
      seq = c.seq;
      row = c.row;
      maxregs = c.maxregs;
      maxframes = c.maxframes;
      payload = c.payload;
      key = c.key;
      largest = c.largest;
      result = c.result;
      signal = c.signal;
    }

-- what the slot holds
abbrev pub object_of : Setup → Lent → H.Object → Object
object_of s M O.Empty = Object.Empty
object_of s M (O.Func f) = Object.Func f
object_of s M (O.Int n) = Object.Int n
object_of s M (O.Iter c d k) = Object.Iter c d k
object_of s M (O.Error e f p v) = Object.Error e f p v
object_of s M (O.Coro c) = Object.Coro (core_of s M c) (rest_of c)

-- slot by slot
abbrev pub objects_of : Setup → Lent → List (Slot H.Object) → List (Slot Object)
objects_of s M xs = map (λ x. slot x.tag (object_of s M x.object)) xs

-- ---- the world

-- each table as far as its count says, and the outcome that its four words tell
abbrev pub world_of : Lent → Machine → Fuel → World
world_of M m f =
    record {
      setup = setup_of M.setup;
      stack = take m.height M.stack;
      frames = piled 6 frame_of m.depth M.frames;
      chain = piled 6 active_of m.active M.chain;
      slots = objects_of (setup_of M.setup) M (slots_of m.count M.slots);
      ready = take m.ready M.ready;
      finalize = take m.finalize M.finalize;
      finalizing = m.finalizing;
      outcome = outcome_in m.outcome;
      used = m.used;
      seq = m.seq;
      fuel = f;
    }

-- the words are those of what they decode to, and that is sound
pub record SoundWords (M : Lent) (m : Machine) (f : Fuel) : Type 0 where
  pub rep : Rep (sizes_of (world_of M m f).setup) (world_of M m f) M m f
  pub sound : sound (world_of M m f) ≡ true

-- ---- a sound memory stands for one world, and one world has one memory

-- some sound world is held
pub record SomeSound (M : Lent) (m : Machine) (f : Fuel) : Type 0 where
  pub world : World
  pub rep : Rep (sizes_of world.setup) world M m f
  pub sound : sound world ≡ true

pub record OneWorld : Type 0 where
  -- what stands for a sound world decodes to it
  pub decoded : {sizes : Sizes} {w : World} {M : Lent} {m : Machine} {f : Fuel} → sound w ≡ true → Rep sizes w M m f → world_of M m f ≡ w
  -- so it stands for no other
  pub one : {sizes l' : Sizes} {w w' : World} {M : Lent} {m : Machine} {f : Fuel} → sound w ≡ true → sound w' ≡ true → Rep sizes w M m f → Rep l' w' M m f → w ≡ w'
  -- words are sound exactly if they stand for some sound world
  pub held : {M : Lent} {m : Machine} {f : Fuel} → SoundWords M m f → SomeSound M m f
  pub sounds : {M : Lent} {m : Machine} {f : Fuel} → SomeSound M m f → SoundWords M m f
  -- a world comes back from its words
  pub back : (w : World) → sound w ≡ true → world_of (words_of w) (numbers_of w) w.fuel ≡ w
  -- what stands for a world is its words, its numbers and its fuel, to the last word of each slice
  pub exactly : {sizes : Sizes} {w : World} {M : Lent} {m : Machine} {f : Fuel} → Rep sizes w M m f → (M ≡ words_in (lengths_of M) w) × (m ≡ numbers_of w) × (f ≡ w.fuel)
