-- coro.rs: finish, of a coroutine: its row is given back, and its slot says how it ended.
use Rattle.std.specs.Prelude.{◌≡◌, true, false, List, ℕ, ◌+◌, ◌*◌, ◌≤◌, length, replicate}
use Rattle.lists.specs.Parts.{splice}
use Rattle.heap.specs.declared.object.CoroObj.{CoroObj}
use Rattle.heap.specs.declared.object.CoroState.{CoroState}
use Rattle.model.specs.State.{is_finished}
use Rattle.memory_world.specs.Memory.{Lent, Beside}
use Rattle.memory_world.specs.Rows.{Rowed}
use Rattle.memory_world.specs.Contract.{SomeWorld, only}
use Rattle.memory_world.specs.declared.machine.Machine.{Machine}
use Rattle.memory_world.specs.declared.machine.Sizes.{Sizes}

-- a world whose rows are in order is held, and the new state is an end
pub record FinishFits (sizes : Sizes) (M : Beside → Lent) (m : Machine) (s : CoroState) : Type 0 where
  pub held : SomeWorld (λ w. Rowed w.setup w.slots) sizes M (only m)
  pub ends : is_finished s ≡ true

-- ---- parts

-- the record of a coroutine that has ended
abbrev pub ended_as : CoroState → ℕ → CoroObj → CoroObj
ended_as s result c =
    record {
      state = s;
      closing = false;
      finalized = c.finalized;
      task = c.task;
      seq = c.seq;
      row = 0;
      regs = 0;
      frames = 0;
      maxregs = 0;
      maxframes = 0;
      waiting = c.waiting;
      payload = c.payload;
      key = c.key;
      largest = c.largest;
      result = result;
      signal = 0;
    }

-- its row lies in the words
pub record RowFits (saved_stack saved_frames : List ℕ) (sizes : Sizes) (c : CoroObj) : Type 0 where
  pub regs : c.regs ≤ sizes.width
  pub on-stack : c.row * sizes.width + sizes.width ≤ length saved_stack
  pub frames : c.frames ≤ sizes.depth
  pub on-frames : c.row * (sizes.depth * 6) + sizes.depth * 6 ≤ length saved_frames

-- its words there are 0
pub record Cleared (saved_stack saved_frames saved_stack' saved_frames' : List ℕ) (sizes : Sizes) (c : CoroObj) : Type 0 where
  pub regs : saved_stack' ≡ splice saved_stack (c.row * sizes.width) (replicate c.regs 0)
  pub frames : saved_frames' ≡ splice saved_frames (c.row * (sizes.depth * 6)) (replicate (c.frames * 6) 0)

-- so it does while the coroutine is unfinished; a finished one has no row
pub record FreeFits (saved_stack saved_frames : List ℕ) (sizes : Sizes) (c : CoroObj) : Type 0 where
  pub row : is_finished c.state ≡ false → RowFits saved_stack saved_frames sizes c

-- the words of its row are 0, or there was no row and nothing is changed
pub record Freed (saved_stack saved_frames saved_stack' saved_frames' : List ℕ) (sizes : Sizes) (c : CoroObj) : Type 0 where
  pub row : is_finished c.state ≡ false → Cleared saved_stack saved_frames saved_stack' saved_frames' sizes c
  pub none : is_finished c.state ≡ true → (saved_stack' ≡ saved_stack) × (saved_frames' ≡ saved_frames)
