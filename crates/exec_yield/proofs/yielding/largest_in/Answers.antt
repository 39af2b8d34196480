-- `largest_in` meets its contract. Assumes nothing.
use mathlib.Core.Path.{sym, ap, ◌∙◌}
use Rattle.heap.specs.Heap.{slots_of, coro_of}
use Rattle.std.specs.Prelude.{Ok}
use Rattle.heap.proofs.Place.{none-there, stands, stands-words}
use Rattle.exec_yield.proofs.Keys.{largest-none, largest-at}
use Rattle.exec_yield.proofs.yielding.largest_in.Goals as goal

pub coro_at-c-requires : goal.coro_at-c-requires
coro_at-c-requires c = stands-words c.args.m.count c.args.slots.now c.args.v c.in-Ok.i (sym c.in-Ok.is ∙ c.coro_place.ensures) c.requires

pub returns-in-Err : goal.returns-in-Err
returns-in-Err c =
    λ l w b rep. largest-none l _ c.args.m b.fuel w rep c.args.v _
    (none-there (coro_of (slots_of c.args.m.count c.args.slots.now) c.args.v) c.in-Err.field-0
    (sym c.in-Err.is ∙ c.coro_place.ensures))

pub returns-in-Ok : goal.returns-in-Ok
returns-in-Ok c =
    λ l w b rep. largest-at l _ c.args.m b.fuel w rep c.args.v c.in-Ok.i c.coro_at-c.result
    (ap (λ c₂. Ok (c.in-Ok.i, c₂)) c.coro_at-c.ensures ∙ (stands c.args.m.count c.args.slots.now c.args.v c.in-Ok.i
    (sym c.in-Ok.is ∙ c.coro_place.ensures)).coro)
