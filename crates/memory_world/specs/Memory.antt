-- When lent words and numbers stand for a world.
use Rattle.std.specs.Prelude.{◌≡◌, List, [], ◌∷◌, ℕ, zero, suc, ◌+◌, ◌*◌, ◌≤◌, length}
use Rattle.lists.specs.Chunks.{words}
use Rattle.lists.specs.Parts.{pad}
use Rattle.heap.specs.Table.{Slot}
use Rattle.heap.specs.Slot.{slot_words}
use Rattle.heap.specs.declared.object.Object as H
use Rattle.heap.specs.Heap.{TableFits}
use Rattle.model.specs.Program.{Setup}
use Rattle.model.specs.Object.{Object}
use Rattle.model.specs.World.{World}
use Rattle.model.specs.Sound.{row_words}
use Rattle.model.specs.declared.machine.Frame.{Frame}
use Rattle.model.specs.declared.machine.Fuel.{Fuel}
use Rattle.memory_tables.specs.Parts.{Stack, Frames, Chain, Queue, SavedStack, SavedFrames}
use Rattle.memory_tables.specs.Sizes.{setup_words, stack_size, frames_size, chain_size, saved_stack_size, saved_frames_size, slots_size, queue_size, setup_size}
use Rattle.memory_world.specs.Slots.{to_slots}
use Rattle.memory_world.specs.Rows.{row_at}
use Rattle.memory_world.specs.Told.{told}
use Rattle.memory_world.specs.declared.machine.Machine.{Machine}
use Rattle.memory_world.specs.declared.machine.Sizes.{Sizes}

-- ---- the lent words

pub record Lent : Type 0 where
  pub stack : List ℕ
  pub frames : List ℕ
  pub chain : List ℕ
  pub slots : List ℕ
  pub saved_stack : List ℕ
  pub saved_frames : List ℕ
  pub ready : List ℕ
  pub finalize : List ℕ
  pub setup : List ℕ

-- the words of a call that is lent some slices only: those, over whatever the others hold
abbrev pub on_stack : List ℕ → Lent → Lent
on_stack x M = record { stack = x; frames = M.frames; chain = M.chain; slots = M.slots; saved_stack = M.saved_stack; saved_frames = M.saved_frames; ready = M.ready; finalize = M.finalize; setup = M.setup }

abbrev pub on_frames : List ℕ → Lent → Lent
on_frames x M = record { stack = M.stack; frames = x; chain = M.chain; slots = M.slots; saved_stack = M.saved_stack; saved_frames = M.saved_frames; ready = M.ready; finalize = M.finalize; setup = M.setup }

abbrev pub on_chain : List ℕ → Lent → Lent
on_chain x M = record { stack = M.stack; frames = M.frames; chain = x; slots = M.slots; saved_stack = M.saved_stack; saved_frames = M.saved_frames; ready = M.ready; finalize = M.finalize; setup = M.setup }

abbrev pub on_slots : List ℕ → Lent → Lent
on_slots x M = record { stack = M.stack; frames = M.frames; chain = M.chain; slots = x; saved_stack = M.saved_stack; saved_frames = M.saved_frames; ready = M.ready; finalize = M.finalize; setup = M.setup }

abbrev pub on_saved : List ℕ → List ℕ → Lent → Lent
on_saved r q M = record { stack = M.stack; frames = M.frames; chain = M.chain; slots = M.slots; saved_stack = r; saved_frames = q; ready = M.ready; finalize = M.finalize; setup = M.setup }

abbrev pub on_ready : List ℕ → Lent → Lent
on_ready x M = record { stack = M.stack; frames = M.frames; chain = M.chain; slots = M.slots; saved_stack = M.saved_stack; saved_frames = M.saved_frames; ready = x; finalize = M.finalize; setup = M.setup }

abbrev pub on_finalize : List ℕ → Lent → Lent
on_finalize x M = record { stack = M.stack; frames = M.frames; chain = M.chain; slots = M.slots; saved_stack = M.saved_stack; saved_frames = M.saved_frames; ready = M.ready; finalize = x; setup = M.setup }

abbrev pub on_setup : List ℕ → Lent → Lent
on_setup x M = record { stack = M.stack; frames = M.frames; chain = M.chain; slots = M.slots; saved_stack = M.saved_stack; saved_frames = M.saved_frames; ready = M.ready; finalize = M.finalize; setup = x }

-- what a call is not lent
pub record Beside : Type 0 where
  pub words : Lent
  pub fuel : Fuel

-- ---- the parts that the tables do not have

-- slots in words
pub record Slots (xs : List (Slot H.Object)) (ws : List ℕ) (n : ℕ) : Type 0 where
  pub are : ws ≡ pad (length ws) (words slot_words xs)
  pub count : n ≡ length xs
  pub within : TableFits ws n

-- f of i, i + 1, .. : n of them
abbrev pub tabled : {A : Type 0} → (ℕ → A) → ℕ → ℕ → List A
tabled f i zero = []
tabled f i (suc n) = f i ∷ tabled f (suc i) n

-- what the rows hold
abbrev pub regs_rows : ℕ → List (Slot Object) → List (List ℕ)
regs_rows n xs = tabled (λ i. (row_at i xs).regs) 0 n

abbrev pub frames_rows : ℕ → List (Slot Object) → List (List Frame)
frames_rows n xs = tabled (λ i. (row_at i xs).frames) 0 n

pub record Sized (s : Setup) (sizes : Sizes) : Type 0 where
  pub depth : sizes.depth ≡ s.limits.depth
  pub stack : sizes.stack ≡ s.limits.stack
  pub rows : sizes.rows ≡ s.limits.rows
  pub slots : sizes.slots ≡ s.limits.slots
  pub memory : sizes.memory ≡ s.limits.memory
  pub width : sizes.width ≡ row_words s
  pub costs : sizes.costs ≡ s.costs

-- ---- the words M, the numbers m and the fuel f stand for the world w

pub record Rep (given : Sizes) (w : World) (M : Lent) (m : Machine) (f : Fuel) : Type 0 where
  pub sizes : Sized w.setup given
  pub setup : M.setup ≡ pad (length M.setup) (setup_words w.setup)
  pub stack : Stack w.stack M.stack m.height
  pub frames : Frames w.frames M.frames m.depth
  pub chain : Chain w.chain M.chain m.active
  pub slots : Slots (to_slots w.slots) M.slots m.count
  pub saved_stack : SavedStack (row_words w.setup) (regs_rows w.setup.limits.rows w.slots) M.saved_stack
  pub saved_frames : SavedFrames (frames_size w.setup) (frames_rows w.setup.limits.rows w.slots) M.saved_frames
  pub ready : Queue w.ready M.ready m.ready
  pub finalize : Queue w.finalize M.finalize m.finalize
  pub finalizing : m.finalizing ≡ w.finalizing
  pub outcome : m.outcome ≡ told w.outcome
  pub used : m.used ≡ w.used
  pub seq : m.seq ≡ w.seq
  pub fuel : f ≡ w.fuel

-- words enough
pub record Room (s : Setup) (M : Lent) : Type 0 where
  pub stack : stack_size s ≤ length M.stack
  pub frames : frames_size s ≤ length M.frames
  pub chain : chain_size s ≤ length M.chain
  pub slots : slots_size s ≤ length M.slots
  pub saved_stack : saved_stack_size s ≤ length M.saved_stack
  pub saved_frames : saved_frames_size s ≤ length M.saved_frames
  pub ready : queue_size s ≤ length M.ready
  pub finalize : queue_size s ≤ length M.finalize
  pub setup : setup_size s ≤ length M.setup
