-- `spawn_task` meets the definition: no coroutine, a task already, one that cannot be resumed, a new task. Assumes nothing.
use mathlib.Core.Path.{◌≡◌, sym, ◌∙◌}
use mathlib.Core.Path.{ap}
use Prim.Native.Nat.{ℕ, ◌<◌}
use lib.ListN.{length}
use native.Mathlib.Omega.{arith}
use borrow.Author.Tests.{not-true, not-false}
use Rattle.heap.specs.Heap.{SlotFits, coro_in, slots_of, coro_of}
use Rattle.heap.proofs.Place.{none-there, stands-words}
use Rattle.memory_world.specs.Memory.{Lent, Beside, Rep}
use Rattle.memory_world.specs.declared.machine.Sizes.{Sizes}
use Rattle.model.specs.World.{World}
use Rattle.model.specs.State.{is_resumable}
use Rattle.memory_world.specs.Lendings.{tasks, plain}
use Rattle.coro_clean.proofs.Joins.{Tasks, task-refused, tasks-at}
use Rattle.coro_clean.proofs.join.spawn_task.Lts as lts
use Rattle.coro_clean.proofs.join.spawn_task.Reads as reads
use Rattle.coro_clean.proofs.join.spawn_task.Tie as tie
use Rattle.coro_clean.proofs.join.spawn_task.Goals as goal

abbrev Start : Type 0
Start = lts.Start tie.the-claims reads.Pre reads.Post

abbrev In-At : Type 0
In-At = lts.Past-After-known_told tie.the-claims reads.Pre reads.Post

abbrev After-is_resumable : Type 0
After-is_resumable = lts.After-is_resumable tie.the-claims reads.Pre reads.Post

abbrev Else-not-is_resumable : Type 0
Else-not-is_resumable = lts.Else2 tie.the-claims reads.Pre reads.Post

abbrev mem : Start → Beside → Lent
mem c b = tasks c.args.slots.now c.args.ready.now plain b

-- where a coroutine was found
abbrev slot : In-At → ℕ
slot c = c.in-Ok.i

fits : (c : In-At) → SlotFits c.args.slots.now (slot c)
fits c =
    stands-words c.args.m.count c.args.slots.now c.args.v.0 (slot c) (sym c.in-Ok.is ∙ c.coro_place.ensures) c.requires.ok.rep.slots.within

found : (c : In-At) (l : Sizes) (w : World) (b : Beside) →
    Rep l w (mem c.before.before.before.before b) c.args.m b.fuel → Tasks l (mem c.before.before.before.before b) c.args.m b.fuel c.args.v.0 w (slot c)
found c l w b rep =
    tasks-at l (mem c.before.before.before.before b) c.args.m b.fuel c.args.v.0 w rep (slot c) (sym c.in-Ok.is ∙ c.coro_place.ensures)

-- it can be resumed or not
resumable : (c : After-is_resumable) →
    is_resumable (coro_in c.args.slots.now (slot c.before.before.before.before)).state ≡ c.is_resumable.result
resumable c = ap is_resumable (sym c.state_at-s.ensures) ∙ sym c.is_resumable.ensures

-- the ready queue has room for it
room : (c : Else-not-is_resumable) → c.args.m.ready < length c.args.ready.now
room c =
    let p = c.requires in let o = p.ok in
    (found c.before.before.before.before.before p.sizes o.world o.beside o.rep).room o.sound o.room (sym c.task_at.ensures ∙ c.if-task_at.false)

pub coro_place-requires : goal.coro_place-requires
coro_place-requires c = c.requires.ok.rep.slots.within

pub task_at-requires : goal.task_at-requires
task_at-requires c = fits c.before

pub returns-then-task_at : goal.returns-then-task_at
returns-then-task_at c = λ l w b rep. (found c.before.before.before l w b rep).already (sym c.task_at.ensures ∙ c.if-task_at.true)

pub state_at-s-requires : goal.state_at-s-requires
state_at-s-requires c = fits c.before.before.before

pub returns-then-not-is_resumable : goal.returns-then-not-is_resumable
returns-then-not-is_resumable c =
    λ l w b rep.
    (found c.before.before.before.before.before.before l w b rep).late (sym c.task_at.ensures ∙ c.if-task_at.false) (resumable c.before.before ∙ c.if-not-is_resumable.true)

pub put_task-requires : goal.put_task-requires
put_task-requires c = fits c.before.before.before.before.before.before.before

pub push_back-requires : goal.push_back-requires
push_back-requires c = room c.before.before.before.before.before.before

pub overflow_add-n : goal.overflow_add-n
overflow_add-n c = omega (arith, room c.before.before.before.before.before.before.before.before.before.before, c.well_formed)

pub returns-in-Err : goal.returns-in-Err
returns-in-Err c =
    λ l w b rep.
    task-refused l (mem c.before.before.before.before.before b) c.args.m b.fuel c.args.v.0 w rep _
    (none-there (coro_of (slots_of c.args.m.count c.args.slots.now) c.args.v.0) _ (sym c.in-Err.is ∙ c.coro_place.ensures))

pub returns-else-not-is_resumable : goal.returns-else-not-is_resumable
returns-else-not-is_resumable c =
    λ l w b rep.
    (found c.before.before.before.before.before.before.before.before.before.before.before.before.before.before.before l w b rep).joins (sym c.task_at.ensures ∙ c.if-task_at.false)
    (resumable c.before.before.before.before.before.before.before.before.before.before.before ∙ c.if-not-is_resumable.false) _ _ c.put_task.ensures c.push_back.ensures
