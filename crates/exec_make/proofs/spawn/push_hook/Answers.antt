-- `push_hook` meets the model: a frame pushed by a call, and a word in its first register. Assumes nothing.
use mathlib.Core.Path.{sym, ◌∙◌, subst}
use Prim.Native.Nat.{◌≤◌}
use Rattle.heap.specs.Word.{nil}
use Rattle.model.specs.declared.machine.Cont.{Cont}
use Rattle.memory_tables.proofs.Setups.{regs-in}
use Rattle.memory_world.specs.Memory.{Lent, Beside}
use Rattle.memory_world.specs.Lendings.{top_setup, plain}
use Rattle.machine_state.specs.Frame.{push_at}
use Rattle.exec_make.proofs.Hooked.{hook-refused, hook-fits, hook-done}
use Rattle.exec_make.proofs.spawn.push_hook.Lts as lts
use Rattle.exec_make.proofs.spawn.push_hook.Reads as reads
use Rattle.exec_make.proofs.spawn.push_hook.Tie as tie
use Rattle.exec_make.proofs.spawn.push_hook.Goals as goal

abbrev Start : Type 0
Start = lts.Start tie.the-claims reads.Pre reads.Post

-- `push_hook` meets the model: a frame pushed by a call, and a word in its first register. Assumes nothing.
abbrev mem : Start → Beside → Lent
mem s b = top_setup s.args.stack.now s.args.frames.now s.args.setup.now plain b

-- the words that are lent, to a callee that is lent some of them
abbrev around : Start → Beside → Beside
around s b = record { words = mem s b; fuel = b.fuel }

pub push_at-did-requires : goal.push_at-did-requires
push_at-did-requires c = c.requires.call

pub put-requires : goal.put-requires
put-requires c =
    let o = c.requires.call.push.ok in
    let did = c.push_at-did.ensures o.world o.beside o.rep o.sound in
    hook-fits c.args.hook c.args.pc c.args.dst c.args.c o.world c.args.sizes _ _ o.beside.fuel c.in-Ok._base
    (sym c.in-Ok.is ∙ did.answer) did.world
    (subst (λ k. 1 ≤ k) (regs-in o.world.setup c.args.setup.now o.rep.setup c.args.hook c.requires.call.push.function) c.requires.register)

pub returns-in-Err : goal.returns-in-Err
returns-in-Err c =
    λ w b rep snd.
    let did = c.push_at-did.ensures w b rep snd in
    hook-refused c.args.hook c.args.pc c.args.dst c.args.c w c.args.sizes _ _ b.fuel c.in-Err.g
    (sym c.in-Err.is ∙ did.answer) did.world

pub returns-in-Ok : goal.returns-in-Ok
returns-in-Ok c =
    λ w b rep snd.
    let did = c.push_at-did.ensures w b rep snd in
    hook-done c.args.hook c.args.pc c.args.dst c.args.c w c.args.sizes _ _ b.fuel c.in-Ok._base
    (sym c.in-Ok.is ∙ did.answer)
    (c.put.ensures c.args.sizes (push_at c.args.pc c.args.hook nil (Cont.Value c.args.dst) w).world
    (record { words = top_setup c.args.stack.now c.push_at-did.new.frames c.args.setup.now plain b; fuel = b.fuel }) did.world)
