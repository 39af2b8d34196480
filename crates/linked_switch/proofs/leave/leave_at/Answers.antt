-- `leave_at` meets its contract: a suspension that nothing refuses. Assumes nothing.
use mathlib.Core.Path.{refl}
use native.Mathlib.Omega.{arith}
use Rattle.memory_world.specs.Memory.{Lent, Beside}
use Rattle.memory_world.specs.Lendings.{lent}
use Rattle.linked_calls.specs.Words.{machine_in, sizes_in}
use Rattle.linked_switch.proofs.Fits.{slot_at, under, leave_fits}
use Rattle.linked_switch.proofs.Leaving.{left}
use Rattle.linked_switch.proofs.leave.leave_at.Lts as lts
use Rattle.linked_switch.proofs.leave.leave_at.Reads as reads
use Rattle.linked_switch.proofs.leave.leave_at.Tie as tie
use Rattle.linked_switch.proofs.leave.leave_at.Goals as goal

abbrev Start : Type 0
Start = lts.Start tie.the-claims reads.Pre reads.Post

abbrev mem : Start → Beside → Lent
mem c = let a = c.args in lent a.stack.now a.frames.now a.chain.now a.slots.now a.saved_stack.now a.saved_frames.now

pub row_at-row-requires : goal.row_at-row-requires
row_at-row-requires c = slot_at c.requires

pub move_out-requires : goal.move_out-requires
move_out-requires c = record { words = c.requires.words; fits = leave_fits c.requires _ c.row_at-row.ensures }

pub overflow_sub-regs : goal.overflow_sub-regs
overflow_sub-regs c = let u = under c.requires in omega (arith, u)

pub overflow_sub-deep : goal.overflow_sub-deep
overflow_sub-deep c =
    let u = c.requires.may.floor in
    let e = c.requires.at-floor in omega (arith, u, e)

pub put_yielded-requires : goal.put_yielded-requires
put_yielded-requires c = slot_at c.requires

pub returns : goal.returns
returns c =
    let a = c.args in let ms = a.machine.now in
    let s = c.move_out.new in λ w b rep snd. left (sizes_in ms) (mem c.before.before.before.before.before.before.before.before.before.before.before.before.before.before.before.before.before.before.before.before.before.before.before.before.before.before.before.before.before.before.before.before.before b) (machine_in ms) b.fuel w rep snd a.i c.requires.may a.dst a.payload a.key a.largest
    s.stack s.frames c.pop_active.new.chain c.put_yielded.new.slots s.saved_stack s.saved_frames c.row_at-row.result a.floor a.base _ _
    c.row_at-row.ensures c.requires.at-floor c.requires.at_base refl refl c.move_out.ensures c.pop_active.ensures c.put_yielded.ensures
