-- `iter_on` meets the definition: the end of a loop, a source that awaits, or an entry that sends nil. Assumes nothing.
use mathlib.Core.Path.{sym, ◌∙◌}
use Rattle.memory_world.specs.Memory.{Beside}
use Rattle.memory_world.specs.Lendings.{lent}
use Rattle.exec_iter.proofs.Looped.{next-ended, next-awaiting, next-entered}
use Rattle.exec_iter.proofs.iter.iter_on.Lts as lts
use Rattle.exec_iter.proofs.iter.iter_on.Reads as reads
use Rattle.exec_iter.proofs.iter.iter_on.Tie as tie
use Rattle.exec_iter.proofs.iter.iter_on.Goals as goal

abbrev Start : Type 0
Start = lts.Start tie.the-claims reads.Pre reads.Post

-- the words that are lent
abbrev around : Start → Beside → Beside
around c b = record { words = lent c.args.stack.now c.args.frames.now c.args.chain.now c.args.slots.now c.args.saved_stack.now c.args.saved_frames.now b; fuel = b.fuel }

pub returns-then-exhausted : goal.returns-then-exhausted
returns-then-exhausted c =
    λ w b rep snd. next-ended c.args.sizes _ c.args.m b.fuel w c.args.pc c.args.has c.args.iter c.args.val c.args.src c.args.s
    (sym (c.exhausted.ensures c.args.sizes w (around c.before.before.before.before.before.before.before.before.before.before.before.before.before.before.before.before b) rep) ∙ c.if-exhausted.true) (c.stop.ensures c.args.sizes w (around c.before.before.before.before.before.before.before.before.before.before.before.before.before.before.before.before b) rep)

pub returns-then-is_awaiting : goal.returns-then-is_awaiting
returns-then-is_awaiting c =
    λ w b rep snd. next-awaiting c.args.sizes _ c.args.m b.fuel w c.args.pc c.args.has c.args.iter c.args.val c.args.src c.args.s
    (sym (c.exhausted.ensures c.args.sizes w (around c.before.before.before.before.before.before.before.before.before.before.before b) rep) ∙ c.if-exhausted.false) (sym c.is_awaiting.ensures ∙ c.if-is_awaiting.true) rep

pub returns : goal.returns
returns c =
    λ w b rep snd. next-entered c.args.sizes _ c.enter_send.result.machine b.fuel w
    c.args.pc c.args.has c.args.iter c.args.val c.args.src c.args.s
    (sym (c.exhausted.ensures c.args.sizes w (around c.before.before.before.before.before.before.before.before.before.before.before.before.before.before.before.before.before.before.before.before.before.before.before.before.before.before.before.before.before.before b) rep) ∙ c.if-exhausted.false) c.enter_send.result.answer
    (sym c.is_awaiting.ensures ∙ c.if-is_awaiting.false) (c.enter_send.ensures w b rep snd)
