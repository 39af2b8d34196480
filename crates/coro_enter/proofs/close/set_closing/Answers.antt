-- `set_closing` meets the definition, whether the word names a coroutine or not. Assumes nothing.
use mathlib.Core.Path.{sym, ◌∙◌}
use Rattle.heap.specs.Heap.{slots_of, coro_of}
use Rattle.heap.proofs.Place.{none-there, stands-words}
use Rattle.model.specs.Cleanup.{close}
use Rattle.memory_world.specs.Lendings.{table, plain}
use Rattle.memory_world.proofs.Slotted.{rest-absent}
use Rattle.coro_enter.proofs.Closing.{closing-rep}
use Rattle.coro_enter.proofs.close.set_closing.Goals as goal

pub put_closing-requires : goal.put_closing-requires
put_closing-requires c = stands-words c.args.m.count c.args.slots.now c.args.v.0 c.in-Ok.i (sym c.in-Ok.is ∙ c.coro_place.ensures) c.requires

pub returns-in-Err : goal.returns-in-Err
returns-in-Err c =
    λ l w b rep.
    rest-absent l (table c.args.slots.now plain b) c.args.m b.fuel c.args.v.0 w rep (close c.args.signal) _
    (none-there (coro_of (slots_of c.args.m.count c.args.slots.now) c.args.v.0) _ (sym c.in-Err.is ∙ c.coro_place.ensures))

pub returns-in-Ok : goal.returns-in-Ok
returns-in-Ok c =
    λ l w b rep.
    closing-rep l (table c.args.slots.now plain b) c.args.m b.fuel c.args.v.0 w rep c.in-Ok.i
    (sym c.in-Ok.is ∙ c.coro_place.ensures) c.args.signal _
    c.put_closing.ensures
