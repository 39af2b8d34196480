-- `coro_await` meets the model: none runs, or the innermost one suspends. Assumes nothing.
use mathlib.Core.Path.{refl}
use Rattle.memory_world.specs.Memory.{Lent, Beside}
use Rattle.memory_world.specs.Lendings.{lent}
use Rattle.exec_yield.proofs.Yields.{some-active, idle, runs, await-idle, await-runs}
use Rattle.exec_yield.proofs.yielding.coro_await.Lts as lts
use Rattle.exec_yield.proofs.yielding.coro_await.Reads as reads
use Rattle.exec_yield.proofs.yielding.coro_await.Tie as tie
use Rattle.exec_yield.proofs.yielding.coro_await.Goals as goal

abbrev Start : Type 0
Start = lts.Start tie.the-claims reads.Pre reads.Post

abbrev mem : Start → Beside → Lent
mem c b = lent c.args.stack.now c.args.frames.now c.args.chain.now c.args.slots.now c.args.saved_stack.now c.args.saved_frames.now b

pub returns-then-m-eq0 : goal.returns-then-m-eq0
returns-then-m-eq0 c =
    λ w b rep snd. await-idle c.args.sizes (mem c.before.before.before.before.before.before.before.before.before b) c.args.m c.args.fuel w c.args.pc c.args.dst c.args.src
    (idle c.args.sizes w (mem c.before.before.before.before.before.before.before.before.before b) c.args.m c.args.fuel rep c.if-m-eq0.true) rep

pub suspend-requires : goal.suspend-requires
suspend-requires c = record { run = record { ok = c.requires.ok; running = some-active c.args.m.active c.if-m-eq0.false; narrow = c.requires.narrow }; state = refl }

pub returns : goal.returns
returns c =
    λ w b rep snd. await-runs c.args.sizes _ _ _ w c.args.pc c.args.dst c.args.src
    (runs c.args.sizes w (mem c.before.before.before.before.before.before.before.before.before.before.before.before.before.before.before.before.before.before.before.before.before.before.before.before.before.before.before.before.before b) c.args.m c.args.fuel rep (some-active c.args.m.active c.if-m-eq0.false)) _ _
    (c.reg-payload.ensures w.stack w.frames rep.stack rep.frames).is (c.suspend.ensures w b rep snd)
