-- machine.rs: unwind, what it asks of the lent words.
use Rattle.std.specs.Prelude.{◌≡◌, true, List, ℕ, ◌+◌, ◌-◌, ◌*◌, ◌^◌, ◌≤◌, ◌<◌, length, get_or, Option}
use Rattle.heap.specs.declared.fault.Fault.{Fault}
use Rattle.model.specs.Call.{opt_pc}
use Rattle.model.specs.Machine.{raisable}
use Rattle.model.specs.declared.machine.Fuel.{Fuel}
use Rattle.memory_tables.specs.Layout.{func_in, function_in}
use Rattle.memory_world.specs.Memory.{Lent, Beside, on_frames, on_setup}
use Rattle.memory_world.specs.Contract.{Ok, with}
use Rattle.memory_world.specs.declared.machine.Machine.{Machine}
use Rattle.memory_world.specs.declared.machine.Sizes.{Sizes}

-- the frames and the set-up
abbrev pub frame_setup : {X : Type 0} → X → X → (X → List ℕ) → Beside → Lent
frame_setup f u t b = on_frames (t f) (on_setup (t u) b.words)

-- there is a frame, of one of the set-up's functions, which has at most eight handlers; word 13 of a set-up is their number
pub record HandlerFits (frames setup : List ℕ) (depth : ℕ) : Type 0 where
  pub some : 1 ≤ depth
  pub within : depth * 6 ≤ length frames
  pub function : func_in frames (depth - 1) < get_or setup 13 0
  pub there : 14 + func_in frames (depth - 1) * 35 + 35 ≤ length setup
  pub few : (function_in setup (func_in frames (depth - 1))).count ≤ 8

-- a sound world with a frame
pub record FrameFits (sizes : Sizes) (M : Beside → Lent) (m : Machine) (fuel : Fuel) : Type 0 where
  pub ok : Ok sizes M (with m fuel)
  pub some : 1 ≤ m.depth

-- a sound world, and where a word was raised
pub record SearchFits (sizes : Sizes) (M : Beside → Lent) (m : Machine) (fuel : Fuel) (fn at : ℕ) : Type 0 where
  pub ok : Ok sizes M (with m fuel)
  pub func : fn < 2 ^ 32
  pub pc : at < 2 ^ 32

-- a sound world, and what is raised in it
pub record RaiseFits (sizes : Sizes) (M : Beside → Lent) (m : Machine) (fuel : Fuel) (fault : Fault) : Type 0 where
  pub ok : Ok sizes M (with m fuel)
  pub raises : raisable fault ≡ true

-- a sound world, and a pc of 32 bits if one is given
pub record UnwindFits (sizes : Sizes) (M : Beside → Lent) (m : Machine) (fuel : Fuel) (pc : Option ℕ) : Type 0 where
  pub ok : Ok sizes M (with m fuel)
  pub narrow : opt_pc pc ≡ true
