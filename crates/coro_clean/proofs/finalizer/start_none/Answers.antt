-- `start_none` meets the definition: the queue emptied, and no cleanup marked as running. Assumes nothing.
use mathlib.Core.List.{[]}
use Rattle.model.specs.World.{with_finalize}
use Rattle.coro_clean.specs.Start.{queue}
use Rattle.memory_world.specs.Lendings.{plain}
use Rattle.coro_clean.proofs.Starting.{none-rep, none-does}
use Rattle.coro_clean.proofs.finalizer.start_none.Goals as goal

pub returns : goal.returns
returns c =
    λ l w b rep.
    let M = queue c.args.finalize.now plain b in
    let left = c.take_front.new.queue in
    none-does l M c.args.m c.args.fuel w rep (queue left plain b) _ _
    (c.set_finalizing-did.ensures l (with_finalize [] w) (record { words = queue left plain b; fuel = c.args.fuel })
    (none-rep l M c.args.m c.args.fuel w rep left c.take_front.ensures))
