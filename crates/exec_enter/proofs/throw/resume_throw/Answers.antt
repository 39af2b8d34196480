-- `resume_throw` meets the definition: the words of two registers, and what the first names. Assumes nothing.
use mathlib.Core.Path.{sym, ◌∙◌}
use Rattle.memory_world.specs.Memory.{Lent, Beside}
use Rattle.memory_world.specs.Lendings.{lent}
use Rattle.exec_enter.proofs.Thrown.{throw-refused, throws}
use Rattle.exec_enter.proofs.throw.resume_throw.Lts as lts
use Rattle.exec_enter.proofs.throw.resume_throw.Reads as reads
use Rattle.exec_enter.proofs.throw.resume_throw.Tie as tie
use Rattle.exec_enter.proofs.throw.resume_throw.Goals as goal

abbrev Start : Type 0
Start = lts.Start tie.the-claims reads.Pre reads.Post

-- `resume_throw` meets the definition: the words of two registers, and what the first names. Assumes nothing.
abbrev mem : Start → Beside → Lent
mem c b = lent c.args.stack.now c.args.frames.now c.args.chain.now c.args.slots.now c.args.saved_stack.now c.args.saved_frames.now b

pub returns-in-Err : goal.returns-in-Err
returns-in-Err c =
    λ w b rep snd. throw-refused c.args.sizes (mem c.before.before.before.before.before.before.before.before.before.before.before b) c.args.m b.fuel w c.args.pc c.args.dst c.reg-v.result
    c.reg-err.result c.args.c c.args.src
    (c.reg-v.ensures w.stack w.frames rep.stack rep.frames).is (c.reg-err.ensures w.stack w.frames rep.stack rep.frames).is _
    (sym c.in-Err.is ∙ c.coro_state.ensures c.args.sizes w (record { words = mem c.before.before.before.before.before.before.before.before.before.before.before b; fuel = b.fuel }) rep) rep

pub returns-in-Ok : goal.returns-in-Ok
returns-in-Ok c =
    λ w b rep snd. throws c.args.sizes _ _ b.fuel w c.args.pc c.args.dst c.reg-v.result c.reg-err.result c.args.c c.args.src
    (c.reg-v.ensures w.stack w.frames rep.stack rep.frames).is (c.reg-err.ensures w.stack w.frames rep.stack rep.frames).is c.in-Ok.s _
    (sym c.in-Ok.is ∙ c.coro_state.ensures c.args.sizes w (record { words = mem c.before.before.before.before.before.before.before.before.before.before.before.before.before.before.before.before.before.before.before.before.before.before.before.before.before.before.before.before.before.before b; fuel = b.fuel }) rep) (c.throw_to.ensures w b rep snd)
