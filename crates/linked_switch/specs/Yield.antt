-- Yield on a machine in words, where nothing refuses it.
use Rattle.std.specs.Prelude.{List, ℕ, get_or}
use Rattle.linked_switch.specs.Went.{Holds}
use Rattle.linked_switch.specs.Leaves.{Leavable}

pub record YieldAtFits (stack frames chain slots saved_stack saved_frames ms fs : List ℕ) (pc dst src i to key largest : ℕ) : Type 0 where
  pub held : Holds stack frames chain slots saved_stack saved_frames ms fs pc
  pub leavable : Leavable frames chain slots ms (get_or fs 0 0) dst src i to key largest
