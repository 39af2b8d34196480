-- `closed_by` meets its contract. Assumes nothing.
use mathlib.Core.Path.{sym, ◌∙◌}
use Rattle.coro_end.proofs.Signal.{none-closed, closing-by, not-closing}
use Rattle.coro_end.proofs.escaped.closed_by.Goals as goal

pub returns-then-c : goal.returns-then-c
returns-then-c c =
    let a = c.args in
    λ l w b rep. closing-by w a.slots.now a.m.count a.v.0 a.value rep.slots _ c.in-Ok.c
    (sym c.in-Ok.is ∙ c.coro.ensures) c.if-c.true

pub returns-in-Err : goal.returns-in-Err
returns-in-Err c =
    let a = c.args in
    λ l w b rep. none-closed w a.slots.now a.m.count a.v.0 a.value rep.slots _ (sym c.in-Err.is ∙ c.coro.ensures)

pub returns-else-c : goal.returns-else-c
returns-else-c c =
    let a = c.args in
    λ l w b rep. not-closing w a.slots.now a.m.count a.v.0 a.value rep.slots _ c.in-Ok.c (sym c.in-Ok.is ∙ c.coro.ensures) c.if-c.false
