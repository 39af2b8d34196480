-- `coro_status` meets the definition, by what the word names. Assumes nothing.
use mathlib.Core.Path.{sym, ◌∙◌}
use Rattle.memory_world.specs.Memory.{on_slots}
use Rattle.memory_world.specs.Lendings.{top_table, plain}
use Rattle.exec_ask.proofs.Asked.{status-refused, status-told}
use Rattle.exec_ask.proofs.ask.coro_status.Goals as goal

pub returns-in-Err : goal.returns-in-Err
returns-in-Err c =
    let a = c.args in
    λ l w b rep. status-refused l _ a.m b.fuel w a.dst a.c c.reg-v.result (c.reg-v.ensures w.stack w.frames rep.stack rep.frames).is _
    (sym c.in-Err.is ∙ c.coro_state.ensures l w (record { words = top_table a.stack.now a.frames.now a.slots.now plain b; fuel = b.fuel }) rep) rep

pub returns-in-Ok : goal.returns-in-Ok
returns-in-Ok c =
    let a = c.args in
    λ l w b rep. status-told l _ a.m b.fuel w a.dst a.c c.reg-v.result (c.reg-v.ensures w.stack w.frames rep.stack rep.frames).is _ c.code-code.result
    (sym c.in-Ok.is ∙ c.coro_state.ensures l w
    (record { words = top_table a.stack.now a.frames.now a.slots.now plain b; fuel = b.fuel }) rep) c.code-code.ensures
    (c.put.ensures l w (record { words = on_slots a.slots.now b.words; fuel = b.fuel }) rep)
