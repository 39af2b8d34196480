-- `throw_to` meets the definition, by the coroutine's state. Assumes nothing.
use mathlib.Core.Path.{refl, sym, ◌∙◌}
use Rattle.heap.specs.declared.object.CoroState.{CoroState}
use Rattle.memory_world.specs.Memory.{Lent, Beside}
use Rattle.memory_world.specs.Lendings.{lent, rows, plain}
use Rattle.coro_end.proofs.Ending.{sound-rowed}
use Rattle.coro_end.proofs.Known.{finish-asks}
use Rattle.exec_enter.proofs.Thrown.{throw-created, throw-entered}
use Rattle.exec_enter.proofs.throw.throw_to.Lts as lts
use Rattle.exec_enter.proofs.throw.throw_to.Reads as reads
use Rattle.exec_enter.proofs.throw.throw_to.Tie as tie
use Rattle.exec_enter.proofs.throw.throw_to.Goals as goal

abbrev Start : Type 0
Start = lts.Start tie.the-claims reads.Pre reads.Post

abbrev mem : Start → Beside → Lent
mem c b = lent c.args.stack.now c.args.frames.now c.args.chain.now c.args.slots.now c.args.saved_stack.now c.args.saved_frames.now b

pub finish_coroutine-requires : goal.finish_coroutine-requires
finish_coroutine-requires c =
    let o = c.requires.ok in
    finish-asks o.world o.sound c.args.sizes (rows c.args.slots.now c.args.saved_stack.now c.args.saved_frames.now plain) c.args.m
    (record { words = mem c.before.before.before.before.before.before.before.before.before.before.before.before o.beside; fuel = o.beside.fuel }) CoroState.Failed refl o.rep

pub returns-then-is_created : goal.returns-then-is_created
returns-then-is_created c =
    λ w b rep snd. throw-created c.args.sizes _ c.args.m b.fuel w c.args.pc c.args.dst c.args.v c.args.err
    c.args.s (sym c.is_created.ensures ∙ c.if-is_created.true)
    (c.finish_coroutine.ensures w (record { words = mem c.before.before.before.before.before.before.before.before.before.before.before.before.before.before.before.before.before.before.before b; fuel = b.fuel }) rep (sound-rowed w snd))

pub returns : goal.returns
returns c =
    λ w b rep snd. throw-entered c.args.sizes _ c.store_enter-did.result.machine b.fuel w c.args.pc c.args.dst
    c.args.v c.args.err c.args.s c.store_enter-did.result.answer c.raised-step.result
    (sym c.is_created.ensures ∙ c.if-is_created.false) (c.store_enter-did.ensures w b rep snd) c.raised-step.ensures
