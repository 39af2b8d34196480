-- `frames_over` meets its contract: the frames below decide the whole. Assumes nothing.
use mathlib.Core.Path.{◌≡◌}
use Prim.Native.Nat.{◌-◌, ◌≤◌}
use Rattle.memory_world.specs.Decode.{setup_of}
use Rattle.check_tables.specs.Frames.{frames_test}
use Rattle.check_tables.proofs.frames.frames_over.Given as goal

abbrev pub invariant-loop-i : goal.invariant-loop-i
invariant-loop-i l = (l.i ≤ l.n) × (frames_test l.saved (setup_of l.setup) l.ws l.n l.end ≡ frames_test l.saved (setup_of l.setup) l.ws l.i l.e)
