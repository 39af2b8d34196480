-- coro.rs: the parts of coro_create, by its numbers.
use Rattle.std.specs.Prelude.{◌≡◌, ℕ, ◌+◌, ◌*◌, ◌^◌, ◌<◌, ◌≤◌, false, List, length, take, negsuc, nat_le, slice_index, Result, Err}
use Rattle.lists.specs.Pick.{pick}
use Rattle.lists.specs.Parts.{splice, pad}
use Rattle.heap.specs.Coding.{bits_of}
use Rattle.heap.specs.Word.{nil}
use Rattle.heap.specs.Heap.{lacks_of, TableFits}
use Rattle.heap.specs.Table.{Slot}
use Rattle.heap.specs.declared.fault.Fault.{Fault}
use Rattle.heap.specs.declared.object.CoroObj.{CoroObj}
use Rattle.heap.specs.declared.object.CoroState.{CoroState}
use Rattle.heap.specs.declared.object.Object as H
use Rattle.model.specs.Frames.{frame}
use Rattle.model.specs.Rows.{lowest_free}
use Rattle.model.specs.declared.machine.Cont.{Cont}
use Rattle.memory_tables.specs.Layout.{frame_words}
use Rattle.memory_world.specs.Memory.{Lent, Beside, on_slots, on_saved, on_setup}
use Rattle.memory_world.specs.Contract.{Ok, only}
use Rattle.memory_world.specs.declared.machine.Machine.{Machine}
use Rattle.memory_world.specs.declared.machine.Sizes.{Sizes}
use Rattle.machine_state.specs.Numbers.{heap_of}
use Rattle.coro_create.specs.Row.{held_in}
use Rattle.memory_world.specs.Lendings.{making, plain}

-- 01: "8 times registers + C + F", or A for C
abbrev pub bytes_of : ℕ → ℕ → ℕ → ℕ
bytes_of regs size frame = 8 * regs + size + frame

-- ---- the row of a new coroutine, or what is lacking

abbrev pub row_or : ℕ → ℕ → Result ℕ Fault
row_or rows row = pick (nat_le rows row) (Err Fault.Full) (Result.Ok row)

abbrev pub unless_lacking : Result Unit Fault → Result ℕ Fault → Result ℕ Fault
unless_lacking (Result.Ok u) row = row
unless_lacking (Err f) row = Err f

abbrev pub spot_of : List (Slot H.Object) → Machine → Sizes → ℕ → Result ℕ Fault
spot_of xs m sizes regs =
    unless_lacking (lacks_of (heap_of m sizes) (bytes_of regs sizes.costs.coro sizes.costs.frame)) (row_or sizes.rows (lowest_free sizes.rows 0 (held_in xs)))

pub record SpotFits (slots : List ℕ) (m : Machine) (sizes : Sizes) (regs : ℕ) : Type 0 where
  pub words : TableFits slots m.count
  pub rows : sizes.rows ≤ 64
  pub bytes : bytes_of regs sizes.costs.coro sizes.costs.frame < 2 ^ 64

-- ---- its record

-- 01: "the largest integer key so far .., the start being -1"
abbrev pub new_object : ℕ → ℕ → ℕ → CoroObj
new_object seq row regs =
    record {
      state = CoroState.Created;
      closing = false;
      finalized = false;
      task = false;
      seq = seq;
      row = row;
      regs = regs;
      frames = 1;
      maxregs = regs;
      maxframes = 1;
      waiting = 0;
      payload = nil;
      key = nil;
      largest = bits_of 63 (negsuc 0);
      result = nil;
      signal = nil;
    }

-- ---- its row

-- 01: "More arguments than registers: all registers 0."
abbrev pub copied_of : ℕ → ℕ → ℕ
copied_of n regs = pick (nat_le n regs) n 0

pub record WriteFits (saved_stack saved_frames : List ℕ) (sizes : Sizes) (row regs n : ℕ) : Type 0 where
  pub few : n ≤ 255
  pub stack : row * sizes.width + regs ≤ length saved_stack
  pub frames : row * sizes.depth * 6 + 6 ≤ length saved_frames

-- the arguments, zeros up to the registers, and one frame
pub record Writes (saved_stack saved_frames saved_stack' saved_frames' : List ℕ) (sizes : Sizes) (row regs f closure : ℕ) (args : List ℕ) (n : ℕ) : Type 0 where
  pub stack : saved_stack' ≡ splice saved_stack (row * sizes.width) (pad regs (take (copied_of n regs) args))
  pub frames : saved_frames' ≡ splice saved_frames (row * sizes.depth * 6) (frame_words (frame f 0 closure Cont.Coro))

-- ---- coro_create

-- a sound world, one of the set-up's functions (their number is word 13), and arguments that the array holds
pub record CreateFits (sizes : Sizes) (slots saved_stack saved_frames setup : List ℕ) (m : Machine) (f n : ℕ) : Type 0 where
  pub ok : Ok sizes (making slots saved_stack saved_frames setup plain) (only m)
  pub function : f < slice_index setup 13
  pub few : n ≤ 255
