-- `close_to` meets the definition, by the coroutine's state. Assumes nothing.
use mathlib.Core.Path.{refl, sym, ◌∙◌}
use Rattle.heap.specs.declared.object.CoroState.{CoroState}
use Rattle.memory_world.specs.Memory.{Lent, Beside}
use Rattle.memory_world.specs.Lendings.{lent, rows, plain}
use Rattle.coro_end.proofs.Ending.{sound-rowed}
use Rattle.coro_end.proofs.Known.{finish-asks}
use Rattle.exec_close.specs.Close.{end_created}
use Rattle.exec_close.proofs.Closed.{close-suspended-one, close-busy, close-idle}
use Rattle.exec_close.proofs.close.close_to.Lts as lts
use Rattle.exec_close.proofs.close.close_to.Reads as reads
use Rattle.exec_close.proofs.close.close_to.Tie as tie
use Rattle.exec_close.proofs.close.close_to.Goals as goal

abbrev Start : Type 0
Start = lts.Start tie.the-claims reads.Pre reads.Post

abbrev mem : Start → Beside → Lent
mem c b = lent c.args.stack.now c.args.frames.now c.args.chain.now c.args.slots.now c.args.saved_stack.now c.args.saved_frames.now b

pub returns-then-is_suspended : goal.returns-then-is_suspended
returns-then-is_suspended c =
    λ w b rep snd. close-suspended-one c.args.sizes _ c.close_in.result.machine b.fuel w c.args.pc c.args.dst c.args.v c.args.signal
    c.args.s c.close_in.result.answer (sym c.is_suspended.ensures ∙ c.if-is_suspended.true) (c.close_in.ensures w b rep snd)

pub returns-then-is_running : goal.returns-then-is_running
returns-then-is_running c =
    λ w b rep snd. close-busy c.args.sizes _ c.args.m b.fuel w c.args.pc c.args.dst c.args.v c.args.signal c.args.s
    (sym c.is_running.ensures ∙ c.if-is_running.true) rep

pub end_created-requires : goal.end_created-requires
end_created-requires c =
    let o = c.requires.entry.ok in
    finish-asks o.world o.sound c.args.sizes (rows c.args.slots.now c.args.saved_stack.now c.args.saved_frames.now plain) c.args.m
    (record { words = mem c.before.before.before.before.before.before.before.before.before.before.before.before.before.before o.beside; fuel = o.beside.fuel }) CoroState.Returned refl o.rep

pub returns : goal.returns
returns c =
    let L = c.end_created.new in
    λ w b rep snd. close-idle c.args.sizes _ c.args.m b.fuel w c.args.pc c.args.dst c.args.v c.args.signal c.args.s
    (sym c.is_suspended.ensures ∙ c.if-is_suspended.false) (sym c.is_running.ensures ∙ c.if-is_running.false)
    (c.put.ensures c.args.sizes (end_created c.args.s c.args.v w)
    (record { words = lent c.args.stack.now c.args.frames.now c.args.chain.now L.slots L.saved_stack L.saved_frames b; fuel = b.fuel })
    (c.end_created.ensures w (record { words = mem c.before.before.before.before.before.before.before.before.before.before.before.before.before.before.before.before.before.before.before.before.before.before.before.before.before b; fuel = b.fuel }) rep (sound-rowed w snd)))
