-- `next_pc` meets the definition, with a frame or without. Assumes nothing.
use Prim.Native.Nat.{◌≤◌}
use native.Mathlib.Omega.{arith}
use Rattle.model.specs.Frames.{on_top, step_pc}
use Rattle.memory_world.specs.Lendings.{frame, plain}
use Rattle.memory_world.proofs.Turn.{turn-frames}
use Rattle.machine_state.proofs.Frames.{none-steps}
use Rattle.machine_state.proofs.frame.next_pc.Goals as goal

pub returns-then-m-eq0 : goal.returns-then-m-eq0
returns-then-m-eq0 c =
    let a = c.args in
    λ l w b rep. none-steps l w (frame a.frames.now plain b) a.m b.fuel rep c.if-m-eq0.true

pub step_pc-requires : goal.step_pc-requires
step_pc-requires c =
    let some : 1 ≤ c.args.m.depth = omega (arith, c.if-m-eq0.false) in
    (some, c.requires.within, c.requires.narrow some)

pub returns : goal.returns
returns c =
    let a = c.args in
    λ l w b rep. turn-frames l w (frame a.frames.now plain b) a.m b.fuel rep (on_top step_pc w.frames) c.step_pc.new.frames a.m.depth
    (c.step_pc.ensures w.frames rep.frames)
