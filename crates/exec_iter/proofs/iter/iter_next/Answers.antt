-- `iter_next` meets the definition: the words of two registers, and what the second names. Assumes nothing.
use mathlib.Core.Path.{sym, ◌∙◌}
use Rattle.memory_world.specs.Memory.{Lent, Beside}
use Rattle.memory_world.specs.Lendings.{lent}
use Rattle.exec_iter.proofs.Looped.{next-refused, iterates}
use Rattle.exec_iter.proofs.iter.iter_next.Lts as lts
use Rattle.exec_iter.proofs.iter.iter_next.Reads as reads
use Rattle.exec_iter.proofs.iter.iter_next.Tie as tie
use Rattle.exec_iter.proofs.iter.iter_next.Goals as goal

abbrev Start : Type 0
Start = lts.Start tie.the-claims reads.Pre reads.Post

abbrev mem : Start → Beside → Lent
mem c b = lent c.args.stack.now c.args.frames.now c.args.chain.now c.args.slots.now c.args.saved_stack.now c.args.saved_frames.now b

pub iter_on-requires : goal.iter_on-requires
iter_on-requires c =
    let p = c.requires in
    record { entry = record { ok = p.ok; narrow = p.narrow; some = p.flag.some }; result = p.flag }

pub returns-in-Err : goal.returns-in-Err
returns-in-Err c =
    λ w b rep snd. next-refused c.args.sizes (mem c.before.before.before.before.before.before.before.before.before.before.before b) c.args.m b.fuel w c.args.pc c.args.has c.reg-it.result c.args.val
    c.reg-v.result c.args.iter c.args.src
    (c.reg-it.ensures w.stack w.frames rep.stack rep.frames).is (c.reg-v.ensures w.stack w.frames rep.stack rep.frames).is _
    (sym c.in-Err.is ∙ c.coro_state.ensures c.args.sizes w (record { words = mem c.before.before.before.before.before.before.before.before.before.before.before b; fuel = b.fuel }) rep) rep

pub returns-in-Ok : goal.returns-in-Ok
returns-in-Ok c =
    λ w b rep snd. iterates c.args.sizes _ _ b.fuel w c.args.pc c.args.has c.reg-it.result c.args.val c.reg-v.result
    c.args.iter c.args.src
    (c.reg-it.ensures w.stack w.frames rep.stack rep.frames).is (c.reg-v.ensures w.stack w.frames rep.stack rep.frames).is c.in-Ok.s _
    (sym c.in-Ok.is ∙ c.coro_state.ensures c.args.sizes w (record { words = mem c.before.before.before.before.before.before.before.before.before.before.before.before.before.before.before.before.before.before.before.before.before.before.before.before.before.before.before.before.before.before b; fuel = b.fuel }) rep) (c.iter_on.ensures w b rep snd)
