-- `coro` meets its contract: the record is read where the coroutine stands. Assumes nothing.
use mathlib.Core.Path.{sym, ap, ◌∙◌}
use Rattle.heap.specs.Heap.{slots_of, coro_of}
use Rattle.std.specs.Prelude.{Ok}
use Rattle.heap.proofs.Place.{none-there, stands, stands-words}
use Rattle.heap.proofs.heap.coro.Goals as goal

pub coro_at-c-requires : goal.coro_at-c-requires
coro_at-c-requires c = stands-words c.args.count c.args.slots.now c.args.w.0 c.in-Ok.i (sym c.in-Ok.is ∙ c.coro_place.ensures) c.requires

pub returns-in-Err : goal.returns-in-Err
returns-in-Err c = none-there (coro_of (slots_of c.args.count c.args.slots.now) c.args.w.0) c.in-Err.f (sym c.in-Err.is ∙ c.coro_place.ensures)

pub returns-in-Ok : goal.returns-in-Ok
returns-in-Ok c =
    ap (λ c₂. Ok (c.in-Ok.i, c₂)) c.coro_at-c.ensures ∙ (stands c.args.count c.args.slots.now c.args.w.0 c.in-Ok.i
    (sym c.in-Ok.is ∙ c.coro_place.ensures)).coro
