-- `suspend_found` meets the model, outcome by outcome. Assumes nothing.
use mathlib.Core.Path.{sym, ap, ◌∙◌}
use Rattle.heap.specs.Charge.{charge_of}
use Rattle.memory_world.specs.Memory.{Lent, Beside}
use Rattle.memory_world.specs.Lendings.{lent}
use Rattle.coro_suspend.proofs.Parts.{heap_of}
use Rattle.coro_suspend.proofs.Suspended.{found_before, found-leaves, spent, accepted}
use Rattle.coro_suspend.proofs.suspend.suspend_found.Lts as lts
use Rattle.coro_suspend.proofs.suspend.suspend_found.Reads as reads
use Rattle.coro_suspend.proofs.suspend.suspend_found.Tie as tie
use Rattle.coro_suspend.proofs.suspend.suspend_found.Goals as goal

abbrev Start : Type 0
Start = lts.Start tie.the-claims reads.Pre reads.Post

abbrev mem : Start → Beside → Lent
mem c b = lent c.args.stack.now c.args.frames.now c.args.chain.now c.args.slots.now c.args.saved_stack.now c.args.saved_frames.now b

pub overflow_sub-regs : goal.overflow_sub-regs
overflow_sub-regs c = (found_before c.requires c.base_at-base.ensures).under

pub growth-grow-requires : goal.growth-grow-requires
growth-grow-requires c = let k = found_before c.requires c.base_at-base.ensures in (k.regs, k.frames, k.cost)

pub move_out-requires : goal.move_out-requires
move_out-requires c = found-leaves c.requires c.base_at-base.ensures

pub pop_active-requires : goal.pop_active-requires
pop_active-requires c =
    let p = c.requires in
    (p.some, (found_before p c.base_at-base.ensures).chain)

pub put_sleep-requires : goal.put_sleep-requires
put_sleep-requires c = (found_before c.requires c.base_at-base.ensures).slot

pub shrunk-requires : goal.shrunk-requires
shrunk-requires c = c.requires.some

pub returns-in-Err : goal.returns-in-Err
returns-in-Err c =
    λ w b rep snd. spent c.args.sizes (mem c.before.before.before.before.before.before.before.before.before.before.before.before.before b) c.args.m b.fuel c.args.state c.args.dst c.args.payload
    c.args.keys w rep c.args.a c.requires.some c.requires.top c.requires.floor c.args.i c.args.c c.requires.coro
    c.base_at-base.result c.base_at-base.ensures c.in-Err.f (sym c.in-Err.is ∙ c.charge.ensures ∙ ap (charge_of (heap_of c.args.m c.args.sizes)) c.growth-grow.ensures)

pub shape_of-stack : goal.shape_of-stack
shape_of-stack c = c.move_out.auto.stack

pub shape_of-frames-in-Ok : goal.shape_of-frames-in-Ok
shape_of-frames-in-Ok c = c.move_out.auto.frames

pub shape_of-chain : goal.shape_of-chain
shape_of-chain c = c.pop_active.auto.chain

pub shape_of-slots : goal.shape_of-slots
shape_of-slots c = c.put_sleep.auto.slots

pub shape_of-saved_stack : goal.shape_of-saved_stack
shape_of-saved_stack c = c.move_out.auto.saved_stack

pub shape_of-saved_frames : goal.shape_of-saved_frames
shape_of-saved_frames c = c.move_out.auto.saved_frames

pub returns-in-Ok : goal.returns-in-Ok
returns-in-Ok c =
    λ w b rep snd. accepted c.args.sizes (mem c.before.before.before.before.before.before.before.before.before.before.before.before.before.before.before.before.before.before.before.before.before.before.before.before.before.before.before.before.before.before.before.before.before.before.before.before.before b) c.args.m b.fuel c.args.state c.args.dst c.args.payload
    c.args.keys w rep c.args.a c.requires.some c.requires.top c.requires.floor c.args.i c.args.c c.requires.coro
    c.base_at-base.result c.base_at-base.ensures snd _ _ _ _ _ _ c.in-Ok.g c.suspended-d.result c.shrunk.result c.event_of-event.result c.requires.state
    (sym c.in-Ok.is ∙ c.charge.ensures ∙ ap (charge_of (heap_of c.args.m c.args.sizes)) c.growth-grow.ensures)
    c.move_out.ensures c.pop_active.ensures c.suspended-d.ensures c.put_sleep.ensures
    c.event_of-event.ensures c.shrunk.ensures
