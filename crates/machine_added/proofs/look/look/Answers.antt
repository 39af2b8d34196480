-- `look` meets its contract: nothing without a frame, else from its base to the end. Assumes nothing.
use mathlib.Core.Path.{◌∙◌}
use Rattle.memory_world.specs.Memory.{on_frames}
use Rattle.machine_added.proofs.Looking.{none-base, none_end, none_seen, some-base, some_end, seen}
use Prim.Native.Nat.{◌≤◌}
use native.Mathlib.Omega.{arith}
use Rattle.machine_added.proofs.look.look.Goals as goal

pub returns-then-m-eq0 : goal.returns-then-m-eq0
returns-then-m-eq0 c =
    λ l w b rep. let M = on_frames c.args.frames.now b.words in
    record {
      start = none-base l w M c.args.m b.fuel rep c.if-m-eq0.true;
      end = none_end l w M c.args.m b.fuel rep c.if-m-eq0.true;
      part = none_seen l w M c.args.m b.fuel rep c.if-m-eq0.true;
    }

pub returns : goal.returns
returns c =
    let h = c.if-m-eq0.false in
    let some : 1 ≤ c.args.m.depth = omega arith in
    λ l w b rep. let M = on_frames c.args.frames.now b.words in
    record {
      start = c.base_at-start.ensures ∙ some-base l w M c.args.m b.fuel rep some;
      end = some_end l w M c.args.m b.fuel rep some;
      part = seen l w M c.args.m b.fuel rep _ c.base_at-start.ensures some;
    }
