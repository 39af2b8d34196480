-- `coro_new_indirect` meets the model: a creation, and its word. Assumes nothing.
use Rattle.model.specs.Exec.{indirect}
use Rattle.memory_world.specs.Memory.{Lent, Beside}
use Rattle.memory_world.specs.Lendings.{top_making, plain}
use Rattle.exec_make.proofs.Newly.{still-fits}
use Rattle.claims_sound.proofs.Made.{indirect-good}
use Rattle.coro_create.proofs.Setting.{known}
use Rattle.exec_make.proofs.Callee.{indirect-met}
use Rattle.exec_make.proofs.indirect.coro_new_indirect.Lts as lts
use Rattle.exec_make.proofs.indirect.coro_new_indirect.Reads as reads
use Rattle.exec_make.proofs.indirect.coro_new_indirect.Tie as tie
use Rattle.exec_make.proofs.indirect.coro_new_indirect.Goals as goal

abbrev Start : Type 0
Start = lts.Start tie.the-claims reads.Pre reads.Post

-- `coro_new_indirect` meets the model: a creation, and its word. Assumes nothing.
abbrev mem : Start → Beside → Lent
mem s b = top_making s.args.stack.now s.args.frames.now s.args.slots.now s.args.saved_stack.now s.args.saved_frames.now s.args.setup.now plain b

pub put_made-step-requires : goal.put_made-step-requires
put_made-step-requires c =
    let o = c.requires.ok in
    still-fits c.args.sizes o.world _ (mem c.before.before.before.before.before.before.before.before.before.before.before.before.before.before.before.before.before.before.before o.beside) _ c.args.m _ o.beside.fuel o.beside.fuel c.args.dst
    (indirect-good c.args.dst c.args.callee c.args.argc o.world (known o.world o.sound)).fact.still
    o.rep (c.indirect-did.ensures o.world o.beside o.rep o.sound).world c.requires.reg

pub returns : goal.returns
returns c =
    λ w b rep snd.
    let made = c.indirect-did.ensures w b rep snd in
    let left = top_making c.args.stack.now c.args.frames.now c.indirect-did.new.slots c.indirect-did.new.saved_stack
    c.indirect-did.new.saved_frames c.args.setup.now plain b in
    indirect-met w c.args.dst c.args.callee c.args.argc c.args.sizes _ _ b.fuel _ _ made.answer
    (c.put_made-step.ensures c.args.sizes (indirect c.args.dst c.args.callee c.args.argc w).world (record { words = left; fuel = b.fuel }) made.world)
