-- `coro_state` meets its contract, by what the lookup finds. Assumes nothing.
use mathlib.Core.Path.{sym, ◌∙◌}
use Rattle.heap.proofs.Place.{stands-words}
use Rattle.memory_world.specs.Lendings.{table, plain}
use Rattle.machine_state.proofs.Named.{state-none, state-at}
use Rattle.machine_state.proofs.coro.coro_state.Goals as goal

pub state_at-s-requires : goal.state_at-s-requires
state_at-s-requires c = stands-words c.args.m.count c.args.slots.now c.args.v.0 c.in-Ok.i (sym c.in-Ok.is ∙ c.coro_place.ensures) c.requires

pub returns-in-Err : goal.returns-in-Err
returns-in-Err c =
    let a = c.args in
    λ l w b rep. state-none l (table a.slots.now plain b) a.m b.fuel a.v.0 w rep _ (sym c.in-Err.is ∙ c.coro_place.ensures)

pub returns-in-Ok : goal.returns-in-Ok
returns-in-Ok c =
    let a = c.args in
    λ l w b rep. state-at l (table a.slots.now plain b) a.m b.fuel a.v.0 w rep c.in-Ok.i _ (sym c.in-Ok.is ∙ c.coro_place.ensures) c.state_at-s.ensures
