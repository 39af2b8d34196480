-- `store_some` meets its contract: no frame, no pc, or a pc stored. Assumes nothing.
use mathlib.Core.Path.{sym, subst}
use Rattle.model.specs.Machine.{store_some}
use Rattle.memory_world.specs.Memory.{Rep}
use Rattle.memory_world.specs.Lendings.{frame, plain}
use Rattle.machine_unwind.proofs.Raising.{none-stored}
use Rattle.machine_unwind.proofs.unwind.store_some.Goals as goal

pub returns-then-m-eq0 : goal.returns-then-m-eq0
returns-then-m-eq0 c =
    let a = c.args in
    λ l w b rep. none-stored l (frame a.frames.now plain b) a.m b.fuel w rep c.if-m-eq0.true a.pc

pub returns-in-None : goal.returns-in-None
returns-in-None c =
    let a = c.args in
    λ l w b rep. subst (λ p. Rep l (store_some p w) (frame a.frames.now plain b) a.m b.fuel) (sym c.in-None.is) rep

pub returns-in-Some : goal.returns-in-Some
returns-in-Some c =
    let a = c.args in
    λ l w b rep. subst (λ p. Rep l (store_some p w) (frame c.store_pc.new.frames plain b) a.m b.fuel) (sym c.in-Some.is) (c.store_pc.ensures l w b rep)
