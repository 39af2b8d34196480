-- The lengths of the lent slices and the numbers of a machine beside the sizes of its set-up.
use Rattle.std.specs.Prelude.{ℕ, ◌*◌, ◌≤◌, Bool, ◌&&◌, leb}
use Rattle.heap.specs.Slot.{width}
use Rattle.memory_world.specs.declared.machine.Machine.{Machine}
use Rattle.memory_world.specs.declared.machine.Sizes.{Sizes}

-- "lent words enough for them": eight lengths, in the order of the slices
abbrev pub room_test : Sizes → ℕ → ℕ → ℕ → ℕ → ℕ → ℕ → ℕ → ℕ → Bool
room_test sizes stack frames chain slots saved_stack saved_frames ready finalize =
    leb sizes.stack stack && leb (sizes.depth * 6) frames && leb (sizes.depth * 6) chain && leb (sizes.slots * width) slots
    && leb (sizes.rows * sizes.width) saved_stack && leb (sizes.rows * (sizes.depth * 6)) saved_frames && leb sizes.slots ready && leb sizes.slots finalize

-- "sizes within limits"
abbrev pub counts_test : Sizes → Machine → Bool
counts_test sizes m =
    leb m.height sizes.stack && leb m.depth sizes.depth && leb m.active sizes.depth && leb m.count sizes.slots
    && leb m.ready sizes.slots && leb m.finalize sizes.slots && leb m.used sizes.memory

-- sizes of an accepted set-up
pub record SizesFit (sizes : Sizes) : Type 0 where
  pub depth : sizes.depth ≤ 128
  pub slots : sizes.slots ≤ 4096
  pub rows : sizes.rows ≤ 64
  pub width : sizes.width ≤ 1024
