-- The whole test in code, part by part; that it is `sound_words` is the contract of `sound_words`.
use Rattle.std.specs.Prelude.{ℕ, ◌*◌, ◌≤◌, Bool, true, false, ◌&&◌, List, map, length}
use Rattle.heap.specs.Word.{slot_of}
use Rattle.heap.specs.Slot.{width}
use Rattle.heap.specs.Heap.{slots_of}
use Rattle.model.specs.Lists.{among}
use Rattle.model.specs.Program.{Setup}
use Rattle.model.specs.declared.machine.Fuel.{Fuel}
use Rattle.memory_world.specs.Memory.{Lent}
use Rattle.memory_world.specs.declared.machine.Machine.{Machine}
use Rattle.memory_world.specs.declared.machine.Sizes.{Sizes}
use Rattle.memory_world.specs.Words.{sizes_of}
use Rattle.memory_world.specs.Decode.{setup_of}
use Rattle.memory_sound.specs.Words.{rest_ok, setup_held}
use Rattle.check_tables.specs.Frames.{Catches, stack_frames_ok}
use Rattle.check_tables.specs.Chain.{chain_ok}
use Rattle.check_tables.specs.Queue.{queue_held}
use Rattle.check_tables.specs.Room.{room_test, counts_test}
use Rattle.check_machine.specs.Numbers.{outcome_test, fuel_test}
use Rattle.check_machine.specs.Table.{table_test}
use Rattle.check_machine.specs.Running.{active_words, running_test}
use Rattle.check_machine.specs.Rows.{rows_test}

-- the nine slices
abbrev pub lent_of : List ℕ → List ℕ → List ℕ → List ℕ → List ℕ → List ℕ → List ℕ → List ℕ → List ℕ → Lent
lent_of s f c o r q a z u =
    record { stack = s; frames = f; chain = c; slots = o; saved_stack = r; saved_frames = q; ready = a; finalize = z; setup = u }

-- "sizes within limits, and lent words enough for them"; the outcome; "fuel 0 while banked"
abbrev pub numbers_test : Sizes → ℕ → ℕ → ℕ → ℕ → ℕ → ℕ → ℕ → ℕ → Machine → Fuel → Bool
numbers_test sizes stack frames chain slots saved_stack saved_frames ready finalize m f =
    room_test sizes stack frames chain slots saved_stack saved_frames ready finalize && counts_test sizes m && outcome_test m.outcome && fuel_test f

-- the stack, the frames and the chain
abbrev pub tower_test : Setup → List ℕ → List ℕ → List ℕ → Machine → Bool
tower_test s stack frames chain m =
    stack_frames_ok s frames m.depth m.height && chain_ok chain m.active frames m.depth && rest_ok stack m.height

-- a slot that the chain names
abbrev pub chained_at : List ℕ → ℕ → ℕ → Bool
chained_at chain n i = among i (map slot_of (active_words chain n))

-- the slots, the running coroutines and the rows, and zeros after them
abbrev pub objects_test : Sizes → Setup → List ℕ → List ℕ → List ℕ → List ℕ → Machine → Bool
objects_test sizes s chain slots saved_stack saved_frames m =
    table_test slots m.count && running_test chain m.active (slots_of m.count slots)
    && rows_test sizes s saved_stack saved_frames (chained_at chain m.active) slots m.count && rest_ok saved_stack (sizes.rows * sizes.width) && rest_ok saved_frames (sizes.rows * (sizes.depth * 6))

abbrev pub queues_test : List ℕ → List ℕ → List ℕ → Machine → Bool
queues_test ready finalize slots m =
    queue_held true (slots_of m.count slots) ready m.ready && queue_held false (slots_of m.count slots) finalize m.finalize

abbrev pub whole_test : Lent → Machine → Fuel → Bool
whole_test M m f =
    let s = setup_of M.setup in
    let sizes = sizes_of s in
    setup_held M.setup
    && numbers_test sizes (length M.stack) (length M.frames) (length M.chain) (length M.slots) (length M.saved_stack) (length M.saved_frames) (length M.ready) (length M.finalize) m f
    && tower_test s M.stack M.frames M.chain m && objects_test sizes s M.chain M.slots M.saved_stack M.saved_frames m
    && queues_test M.ready M.finalize M.slots m

-- ---- words enough

pub record TowerFits (frames chain need setup : List ℕ) (m : Machine) : Type 0 where
  pub on-frames : m.depth * 6 ≤ length frames
  pub on_chain : m.active * 6 ≤ length chain
  pub catches : Catches (setup_of setup) need
  pub numbers : 14 ≤ length setup

pub record ObjectsFit (chain slots saved_stack saved_frames need setup : List ℕ) (sizes : Sizes) (m : Machine) : Type 0 where
  pub on_chain : m.active * 6 ≤ length chain
  pub table : m.count * width ≤ length slots
  pub few : m.count ≤ 4096
  pub on-stack : sizes.rows * sizes.width ≤ length saved_stack
  pub on-frames : sizes.rows * (sizes.depth * 6) ≤ length saved_frames
  pub rows : sizes.rows ≤ 64
  pub deep : sizes.depth ≤ 128
  pub wide : sizes.width ≤ 1024
  pub catches : Catches (setup_of setup) need
  pub numbers : 14 ≤ length setup

pub record QueuesFit (ready finalize slots : List ℕ) (m : Machine) : Type 0 where
  pub on-ready : m.ready ≤ length ready
  pub on-finalize : m.finalize ≤ length finalize
  pub table : m.count * width ≤ length slots
  pub few : m.count ≤ 4096
