-- machine.rs: frames and registers on the lent words.
use Rattle.std.specs.Prelude.{Bool, ◌||◌, List, [], ◌∷◌, ℕ, ◌+◌, ◌-◌, ◌*◌, ◌^◌, ◌≤◌, ◌<◌, length, get_or, ltb, leb, Result, Err}
use Rattle.model.specs.World.{World, After, after, and_then}
use Rattle.model.specs.Frames.{store_pc, pop_to}
use Rattle.model.specs.Machine.{push_frame}
use Rattle.heap.specs.declared.fault.Fault.{Fault}
use Rattle.model.specs.declared.machine.Cont.{Cont}
use Rattle.model.specs.declared.machine.Frame.{Frame}
use Rattle.memory_tables.specs.Layout.{base_in}
use Rattle.memory_world.specs.Contract.{Ok, only}
use Rattle.memory_world.specs.Numbers.{with_height, with_depth}
use Rattle.memory_world.specs.declared.machine.Machine.{Machine}
use Rattle.memory_world.specs.declared.machine.Sizes.{Sizes}
use Rattle.memory_world.specs.Lendings.{top_setup, plain}

-- there is a frame
pub record DepthFits (frames : List ℕ) (depth : ℕ) : Type 0 where
  pub some : 1 ≤ depth
  pub within : depth * 6 ≤ length frames

-- a top frame's pc has 32 bits
pub record StepFits (frames : List ℕ) (depth : ℕ) : Type 0 where
  pub within : depth * 6 ≤ length frames
  pub narrow : 1 ≤ depth → get_or frames ((depth - 1) * 6 + 1) 0 < 2 ^ 32

-- ---- push_frame

-- a frame too many, or too wide
abbrev pub overflowing : Machine → Sizes → ℕ → Bool
overflowing m sizes n = leb sizes.depth m.depth || ltb sizes.stack (m.height + n)

-- one frame more, of n registers
abbrev pub pushed : Machine → ℕ → Machine
pushed m n = with_height (m.height + n) (with_depth (m.depth + 1) m)

-- a sound world, and one of its functions; word 13 of a set-up is their number
pub record PushFits (sizes : Sizes) (stack frames setup : List ℕ) (m : Machine) (f : ℕ) : Type 0 where
  pub ok : Ok sizes (top_setup stack frames setup plain) (only m)
  pub function : f < get_or setup 13 0

-- a frame pushed by a call at pc: the pc is stored only if the frame fits
abbrev pub pushed_or : World → World → Result ℕ Fault → After (Result ℕ Fault)
pushed_or w u (Result.Ok base) = after u (Result.Ok base)
pushed_or w u (Err f) = after w (Err f)

unfoldable pub push_at : ℕ → ℕ → ℕ → Cont → World → After (Result ℕ Fault)
push_at pc f closure cont w = and_then (push_frame f closure cont (store_pc pc w)) (pushed_or w)

-- .. and a frame stands there that calls
pub record CallFits (sizes : Sizes) (stack frames setup : List ℕ) (m : Machine) (pc f : ℕ) : Type 0 where
  pub push : PushFits sizes stack frames setup m f
  pub some : 1 ≤ m.depth
  pub narrow : pc < 2 ^ 32

-- ---- pop

-- there is a frame, whose registers lie on the stack
pub record PopFits (stack frames : List ℕ) (m : Machine) : Type 0 where
  pub depth : DepthFits frames m.depth
  pub base : base_in frames (m.depth - 1) ≤ m.height
  pub height : m.height ≤ length stack

-- the top frame is gone, if there was one
abbrev pub pop_on : List Frame → World → World
pop_on [] w = w
pop_on (f ∷ fs) w = pop_to f fs w

abbrev pub pop_top : World → World
pop_top w = pop_on w.frames w
