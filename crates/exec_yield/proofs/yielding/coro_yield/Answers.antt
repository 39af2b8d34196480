-- `coro_yield` meets the model: none runs, or a key is made and the innermost one suspends. Assumes nothing.
use mathlib.Core.Path.{ap, ◌∙◌}
use native.Mathlib.Omega.{arith}
use Rattle.model.specs.Exec.{auto_key}
use Rattle.memory_world.specs.Memory.{Lent, Beside}
use Rattle.memory_world.specs.Lendings.{lent}
use Rattle.machine_state.proofs.Allocation.{heap-room}
use Rattle.exec_yield.proofs.Yields.{some-active, idle, runs, innermost, yield-idle, yield-runs, key-sounds, key-run}
use Rattle.exec_yield.proofs.yielding.coro_yield.Lts as lts
use Rattle.exec_yield.proofs.yielding.coro_yield.Reads as reads
use Rattle.exec_yield.proofs.yielding.coro_yield.Tie as tie
use Rattle.exec_yield.proofs.yielding.coro_yield.Goals as goal

abbrev Start : Type 0
Start = lts.Start tie.the-claims reads.Pre reads.Post

abbrev mem : Start → Beside → Lent
mem c b = lent c.args.stack.now c.args.frames.now c.args.chain.now c.args.slots.now c.args.saved_stack.now c.args.saved_frames.now b

pub returns-then-m-eq0 : goal.returns-then-m-eq0
returns-then-m-eq0 c =
    λ w b rep snd. yield-idle c.args.sizes (mem c.before.before.before.before.before.before.before.before.before b) c.args.m c.args.fuel w c.args.pc c.args.dst c.args.src
    (idle c.args.sizes w (mem c.before.before.before.before.before.before.before.before.before b) c.args.m c.args.fuel rep c.if-m-eq0.true) rep

pub overflow_sub-m : goal.overflow_sub-m
overflow_sub-m c = some-active c.args.m.active c.if-m-eq0.false

pub active_at-a-requires : goal.active_at-a-requires
active_at-a-requires c = let h = some-active c.args.m.active c.if-m-eq0.false in let k = c.requires.ok.rep.chain.within in omega arith

pub largest_in-largest-requires : goal.largest_in-largest-requires
largest_in-largest-requires c = c.requires.ok.rep.slots.within

pub auto_key-did-requires : goal.auto_key-did-requires
auto_key-did-requires c = heap-room c.requires.ok.rep c.requires.ok.sound c.requires.ok.room

pub yield_key-requires : goal.yield_key-requires
yield_key-requires c =
    let o = c.requires.ok in
    key-run c.args.sizes c.args.m _ c.args.stack.now c.args.frames.now c.args.chain.now c.args.slots.now
    c.args.saved_stack.now c.args.saved_frames.now _ c.largest_in-largest.result c.args.pc o c.auto_key-did.auto.slots
    (some-active c.args.m.active c.if-m-eq0.false) c.requires.narrow
    (c.auto_key-did.ensures o.world (record { words = mem c.before.before.before.before.before.before.before.before.before.before.before.before.before.before.before.before.before.before.before.before.before.before.before o.beside; fuel = o.beside.fuel }) o.rep o.sound).world

pub returns : goal.returns
returns c =
    λ w b rep snd.
    let h = some-active c.args.m.active c.if-m-eq0.false in
    let d = c.auto_key-did.ensures w (record { words = mem c.before.before.before.before.before.before.before.before.before.before.before.before.before.before.before.before.before.before.before.before.before.before.before.before.before.before.before.before.before.before.before.before.before.before.before.before.before b; fuel = c.args.fuel }) rep snd in
    yield-runs c.args.sizes _ _ _ w c.args.pc c.args.dst c.args.src
    (runs c.args.sizes w (mem c.before.before.before.before.before.before.before.before.before.before.before.before.before.before.before.before.before.before.before.before.before.before.before.before.before.before.before.before.before.before.before.before.before.before.before.before.before b) c.args.m c.args.fuel rep h) _ _ c.largest_in-largest.result _ _
    (c.reg-payload.ensures w.stack w.frames rep.stack rep.frames).is
    (ap (λ z. z.coro) (c.active_at-a.ensures ∙ innermost c.args.sizes w (mem c.before.before.before.before.before.before.before.before.before.before.before.before.before.before.before.before.before.before.before.before.before.before.before.before.before.before.before.before.before.before.before.before.before.before.before.before.before b) c.args.m c.args.fuel rep h))
    (c.largest_in-largest.ensures c.args.sizes w (record { words = mem c.before.before.before.before.before.before.before.before.before.before.before.before.before.before.before.before.before.before.before.before.before.before.before.before.before.before.before.before.before.before.before.before.before.before.before.before.before b; fuel = c.args.fuel }) rep)
    d.answer
    (c.yield_key.ensures (auto_key c.largest_in-largest.result w).world b d.world (key-sounds c.largest_in-largest.result w snd))
