-- `is_marked` meets its contract, by what the word names. Assumes nothing.
use mathlib.Core.Path.{sym, ◌∙◌}
use Rattle.heap.specs.Heap.{coro_in}
use Rattle.heap.proofs.Place.{stands, stands-words}
use Rattle.check_tables.proofs.Marks.{by-task, by-cleanup}
use Rattle.check_tables.proofs.queue.is_marked.Goals as goal

pub task_at-requires : goal.task_at-requires
task_at-requires c = stands-words c.args.count c.args.slots.now c.args.w c.in-Ok.i (sym c.in-Ok.is ∙ c.coro_place.ensures) c.requires

pub returns-then-task : goal.returns-then-task
returns-then-task c =
    let i = c.in-Ok.i in
    c.task_at.ensures
    ∙ by-task c.args.task i (coro_in c.args.slots.now i) _
    (sym (stands c.args.count c.args.slots.now c.args.w i (sym c.in-Ok.is ∙ c.coro_place.ensures)).coro)
    c.if-task.true

pub finalized_at-requires : goal.finalized_at-requires
finalized_at-requires c = stands-words c.args.count c.args.slots.now c.args.w c.in-Ok.i (sym c.in-Ok.is ∙ c.coro_place.ensures) c.requires

pub returns-else-task : goal.returns-else-task
returns-else-task c =
    let i = c.in-Ok.i in
    c.finalized_at.ensures
    ∙ by-cleanup c.args.task i (coro_in c.args.slots.now i) _
    (sym (stands c.args.count c.args.slots.now c.args.w i (sym c.in-Ok.is ∙ c.coro_place.ensures)).coro)
    c.if-task.false
