-- `yield_key` meets the model, arm by arm. Assumes nothing.
use mathlib.Core.Path.{refl}
use Rattle.memory_world.specs.Memory.{Lent, Beside}
use Rattle.memory_world.specs.Lendings.{lent}
use Rattle.exec_yield.proofs.Yields.{keyed-yield, unkeyed-yield}
use Rattle.exec_yield.proofs.yielding.yield_key.Lts as lts
use Rattle.exec_yield.proofs.yielding.yield_key.Reads as reads
use Rattle.exec_yield.proofs.yielding.yield_key.Tie as tie
use Rattle.exec_yield.proofs.yielding.yield_key.Goals as goal

abbrev Start : Type 0
Start = lts.Start tie.the-claims reads.Pre reads.Post

-- `yield_key` meets the model, arm by arm. Assumes nothing.
abbrev mem : Start → Beside → Lent
mem c b = lent c.args.stack.now c.args.frames.now c.args.chain.now c.args.slots.now c.args.saved_stack.now c.args.saved_frames.now b

pub suspend-requires : goal.suspend-requires
suspend-requires c = record { run = c.requires; state = refl }

pub returns-in-Ok : goal.returns-in-Ok
returns-in-Ok c =
    λ w b rep snd. keyed-yield c.args.sizes _ _ _ w c.args.pc c.args.dst c.args.payload c.args.a _ c.in-Ok.key
    c.in-Ok.largest c.in-Ok.is (c.suspend.ensures w b rep snd)

pub returns-in-Err : goal.returns-in-Err
returns-in-Err c =
    λ w b rep snd. unkeyed-yield c.args.sizes (mem c.before.before.before.before.before.before.before.before b) c.args.m c.args.fuel w c.args.pc c.args.dst
    c.args.payload c.args.a c.in-Err.f c.in-Err.is rep
