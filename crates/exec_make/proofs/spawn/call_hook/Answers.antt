-- `call_hook` meets the model: a unit paid, and the hook's frame. Assumes nothing.
use borrow.Enum.Refused.{opened}
use mathlib.Core.Path.{subst}
use Rattle.model.specs.Cleanup.{charge}
use Rattle.std.specs.Prelude.{None}
use Rattle.memory_world.specs.Memory.{Lent, Beside}
use Rattle.memory_world.specs.Lendings.{top_setup, plain}
use Rattle.memory_world.specs.Contract.{Does}
use Rattle.exec_make.proofs.Hooked.{paid-sound, not-paid, was-paid}
use Rattle.exec_make.proofs.spawn.call_hook.Lts as lts
use Rattle.exec_make.proofs.spawn.call_hook.Reads as reads
use Rattle.exec_make.proofs.spawn.call_hook.Tie as tie
use Rattle.exec_make.proofs.spawn.call_hook.Goals as goal

abbrev Start : Type 0
Start = lts.Start tie.the-claims reads.Pre reads.Post

-- `call_hook` meets the model: a unit paid, and the hook's frame. Assumes nothing.
abbrev mem : Start → Beside → Lent
mem s b = top_setup s.args.stack.now s.args.frames.now s.args.setup.now plain b

-- the words that are lent, to a callee that is lent some of them
abbrev around : Start → Beside → Beside
around s b = record { words = mem s b; fuel = b.fuel }

pub returns-in-Spent : goal.returns-in-Spent
returns-in-Spent c =
    λ w b rep snd.
    let did = c.charge_plain-paid.ensures c.args.m c.args.sizes w (around c.before.before.before.before.before.before.before b) rep in
    not-paid c.args.hook c.args.pc c.args.dst c.args.c w c.args.sizes (mem c.before.before.before.before.before.before.before b) c.args.m c.charge_plain-paid.result.fuel
    (subst (λ a. Does c.args.sizes (charge None w) (mem c.before.before.before.before.before.before.before b) c.args.m c.charge_plain-paid.result.fuel a) c.in-Spent.is did)

pub push_hook-did-requires : goal.push_hook-did-requires
push_hook-did-requires c = c.requires

pub returns : goal.returns
returns c =
    λ w b rep snd.
    let did = c.charge_plain-paid.ensures c.args.m c.args.sizes w (around c.before.before.before.before.before.before.before.before.before.before.before.before.before.before.before b) rep in
    was-paid c.args.hook c.args.pc c.args.dst c.args.c w c.args.sizes _ _ _ c.charge_plain-paid.result.answer _ (opened c.in_default.in_default-own.keys2) did.answer
    (c.push_hook-did.ensures (charge None w).world (record { words = b.words; fuel = c.charge_plain-paid.result.fuel }) did.world (paid-sound w snd))
