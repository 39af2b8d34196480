-- `origin` meets its contract: no frame, or the top one. Assumes nothing.
use mathlib.Core.Path.{refl}
use native.Mathlib.Omega.{arith}
use Rattle.memory_world.specs.Lendings.{frame, plain}
use Rattle.machine_unwind.proofs.Raising.{origin-none, origin-top}
use Rattle.machine_unwind.proofs.unwind.origin.Goals as goal

pub returns-then-m-eq0 : goal.returns-then-m-eq0
returns-then-m-eq0 c =
    let a = c.args in
    λ l w b rep. origin-none l (frame a.frames.now plain b) a.m b.fuel w rep c.if-m-eq0.true _ refl

pub returns : goal.returns
returns c =
    let a = c.args in
    λ l w b rep. origin-top l (frame a.frames.now plain b) a.m b.fuel w rep (omega (arith, c.if-m-eq0.false)) _ _ c.func_at.ensures c.pc_at.ensures
