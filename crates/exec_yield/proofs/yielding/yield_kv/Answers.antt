-- `yield_kv` meets the model: none runs, or the innermost one suspends with its keys. Assumes nothing.
use mathlib.Core.Path.{refl, ap, ◌∙◌}
use native.Mathlib.Omega.{arith}
use Rattle.memory_world.specs.Memory.{Lent, Beside}
use Rattle.memory_world.specs.Lendings.{lent}
use Rattle.exec_yield.proofs.Yields.{some-active, idle, runs, innermost, kv-idle, kv-runs}
use Rattle.exec_yield.proofs.yielding.yield_kv.Lts as lts
use Rattle.exec_yield.proofs.yielding.yield_kv.Reads as reads
use Rattle.exec_yield.proofs.yielding.yield_kv.Tie as tie
use Rattle.exec_yield.proofs.yielding.yield_kv.Goals as goal

abbrev Start : Type 0
Start = lts.Start tie.the-claims reads.Pre reads.Post

abbrev mem : Start → Beside → Lent
mem c b = lent c.args.stack.now c.args.frames.now c.args.chain.now c.args.slots.now c.args.saved_stack.now c.args.saved_frames.now b

pub returns-then-m-eq0 : goal.returns-then-m-eq0
returns-then-m-eq0 c =
    λ w b rep snd. kv-idle c.args.sizes (mem c.before.before.before.before.before.before.before.before.before b) c.args.m c.args.fuel w c.args.pc c.args.dst c.args.src
    c.args.key (idle c.args.sizes w (mem c.before.before.before.before.before.before.before.before.before b) c.args.m c.args.fuel rep c.if-m-eq0.true) rep

pub active_at-a-requires : goal.active_at-a-requires
active_at-a-requires c = let h = some-active c.args.m.active c.if-m-eq0.false in let k = c.requires.plain.ok.rep.chain.within in omega arith

pub keyed-keys-requires : goal.keyed-keys-requires
keyed-keys-requires c = c.requires.plain.ok.rep.slots.within

pub suspend-requires : goal.suspend-requires
suspend-requires c = record { run = record { ok = c.requires.plain.ok; running = some-active c.args.m.active c.if-m-eq0.false; narrow = c.requires.plain.narrow }; state = refl }

pub returns : goal.returns
returns c =
    λ w b rep snd.
    let h = some-active c.args.m.active c.if-m-eq0.false in
    kv-runs c.args.sizes _ _ _ w c.args.pc c.args.dst c.args.src c.args.key
    (runs c.args.sizes w (mem c.before.before.before.before.before.before.before.before.before.before.before.before.before.before.before.before.before.before.before.before.before.before.before.before.before.before.before.before.before.before.before.before.before b) c.args.m c.args.fuel rep h) _ _ _ _ _
    (c.reg-payload.ensures w.stack w.frames rep.stack rep.frames).is
    (ap (λ z. z.coro) (c.active_at-a.ensures ∙ innermost c.args.sizes w (mem c.before.before.before.before.before.before.before.before.before.before.before.before.before.before.before.before.before.before.before.before.before.before.before.before.before.before.before.before.before.before.before.before.before b) c.args.m c.args.fuel rep h))
    (c.reg-named.ensures w.stack w.frames rep.stack rep.frames).is
    (c.keyed-keys.ensures c.args.sizes w (record { words = mem c.before.before.before.before.before.before.before.before.before.before.before.before.before.before.before.before.before.before.before.before.before.before.before.before.before.before.before.before.before.before.before.before.before b; fuel = c.args.fuel }) rep)
    (c.suspend.ensures w b rep snd)
