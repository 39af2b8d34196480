-- `spawn` meets the model, by the hook and by what indirect answers. Assumes nothing.
use mathlib.Core.Path.{sym, ◌∙◌}
use Rattle.model.specs.Exec.{indirect}
use Rattle.claims_sound.proofs.Sound.{→sound}
use Rattle.memory_world.specs.Memory.{Lent, Beside}
use Rattle.memory_world.specs.Lendings.{top_making, plain}
use Rattle.claims_sound.proofs.Made.{indirect-good}
use Rattle.coro_create.proofs.Setting.{known}
use Rattle.exec_make.proofs.Hooked.{hook-asks, no-hook, spawn-refused, spawn-called}
use Rattle.exec_make.proofs.spawn.spawn.Lts as lts
use Rattle.exec_make.proofs.spawn.spawn.Reads as reads
use Rattle.exec_make.proofs.spawn.spawn.Tie as tie
use Rattle.exec_make.proofs.spawn.spawn.Goals as goal

abbrev Start : Type 0
Start = lts.Start tie.the-claims reads.Pre reads.Post

abbrev After-indirect-did : Type 0
After-indirect-did = lts.After-indirect tie.the-claims reads.Pre reads.Post

-- `spawn` meets the model, by the hook and by what indirect answers. Assumes nothing.
abbrev mem : Start → Beside → Lent
mem s b = top_making s.args.stack.now s.args.frames.now s.args.slots.now s.args.saved_stack.now s.args.saved_frames.now s.args.setup.now plain b

abbrev left : After-indirect-did → Beside → Lent
left c b =
    top_making c.args.stack.now c.args.frames.now c.indirect-did.new.slots c.indirect-did.new.saved_stack c.indirect-did.new.saved_frames c.args.setup.now plain b

pub returns-in_default : goal.returns-in_default
returns-in_default c =
    λ w b rep snd.
    no-hook c.args.sizes w (mem c.before.before.before.before.before.before.before.before.before b) c.args.m c.args.fuel rep c.args.pc c.args.dst c.args.callee c.args.argc
    (sym c.in_default.is ∙ c.hook.ensures)

pub indirect-did-requires : goal.indirect-did-requires
indirect-did-requires c = c.requires.indirect

pub call_hook-requires : goal.call_hook-requires
call_hook-requires c =
    let p = c.requires in let o = p.indirect.ok in let k = c.indirect-did.auto in
    hook-asks p c.in-Some.hook (sym c.in-Some.is ∙ c.hook.ensures)
    (c.indirect-did.ensures o.world o.beside o.rep o.sound).world k.slots k.saved_stack k.saved_frames

pub returns-in-Err : goal.returns-in-Err
returns-in-Err c =
    let a = c.args in
    λ w b rep snd.
    spawn-refused a.sizes w (mem c.before.before.before.before.before.before.before.before.before.before.before.before.before.before.before.before.before.before.before.before.before b) a.m a.fuel rep a.pc a.dst a.callee a.argc
    c.in-Some.hook (sym c.in-Some.is ∙ c.hook.ensures) _ _ a.fuel _ c.in-Err.g c.in-Err.is
    (c.indirect-did.ensures w (record { words = b.words; fuel = a.fuel }) rep snd)

pub returns-in-Ok : goal.returns-in-Ok
returns-in-Ok c =
    let a = c.args in
    λ w b rep snd.
    let did = c.indirect-did.ensures w (record { words = b.words; fuel = a.fuel }) rep snd in
    let u = (indirect a.dst a.callee a.argc w).world in
    spawn-called a.sizes w (mem c.before.before.before.before.before.before.before.before.before.before.before.before.before.before.before.before.before.before.before.before.before.before.before.before.before.before.before.before b) a.m a.fuel rep a.pc a.dst a.callee a.argc
    c.in-Some.hook (sym c.in-Some.is ∙ c.hook.ensures) _ _ _ c.in-Ok.c _ (sym c.in-Ok.is ∙ did.answer)
    (c.call_hook.ensures u (record { words = left c.before.before.before.before.before.before.before.before.before.before.before.before.before.before.before.before b; fuel = b.fuel }) did.world (→sound u (indirect-good a.dst a.callee a.argc w (known w snd)).sound))
