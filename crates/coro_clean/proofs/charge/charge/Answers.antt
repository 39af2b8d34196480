-- `charge` meets the definition, by the fuel in hand. Assumes nothing.
use Rattle.std.specs.Prelude.{Some}
use Rattle.memory_world.specs.Memory.{Lent, Beside}
use Rattle.memory_world.specs.Lendings.{cleaning, plain}
use Rattle.coro_clean.proofs.Paid.{charge-fast, charge-slow}
use Rattle.coro_clean.proofs.charge.charge.Lts as lts
use Rattle.coro_clean.proofs.charge.charge.Reads as reads
use Rattle.coro_clean.proofs.charge.charge.Tie as tie
use Rattle.coro_clean.proofs.charge.charge.Goals as goal

abbrev Start : Type 0
Start = lts.Start tie.the-claims reads.Pre reads.Post

-- `charge` meets the definition, by the fuel in hand. Assumes nothing.
abbrev mem : Start → Beside → Lent
mem c b = cleaning c.args.stack.now c.args.frames.now c.args.chain.now c.args.slots.now c.args.saved_stack.now
    c.args.saved_frames.now c.args.finalize.now plain b

pub returns-then-fuel-ne0 : goal.returns-then-fuel-ne0
returns-then-fuel-ne0 c = λ w b rep snd. charge-fast c.args.sizes (mem c.before.before.before.before.before.before.before.before.before.before.before b) c.args.m c.args.fuel w rep (Some c.args.pc) _ c.if-fuel-ne0.true c.spend-f.ensures

pub returns : goal.returns
returns c =
    λ w b rep snd. charge-slow c.args.sizes (mem c.before.before.before.before.before.before.before.before.before.before.before.before.before.before.before.before.before.before.before.before.before.before.before.before.before.before.before.before.before.before.before.before b) c.args.m c.args.fuel w rep (Some c.args.pc) _ _ _ _
    c.if-fuel-ne0.false (c.charge_slow.ensures w b rep snd)
