-- `coro_new` meets the model: a creation, and its word. Assumes nothing.
use Rattle.model.specs.Coro.{coro_create}
use Rattle.model.specs.Exec.{window}
use Rattle.memory_world.specs.Memory.{Lent, Beside}
use Rattle.memory_world.specs.Lendings.{top_making, plain}
use Rattle.exec_make.proofs.Newly.{still-fits, create-still, new-met}
use Rattle.exec_make.proofs.new.coro_new.Lts as lts
use Rattle.exec_make.proofs.new.coro_new.Reads as reads
use Rattle.exec_make.proofs.new.coro_new.Tie as tie
use Rattle.exec_make.proofs.new.coro_new.Goals as goal

abbrev Start : Type 0
Start = lts.Start tie.the-claims reads.Pre reads.Post

-- `coro_new` meets the model: a creation, and its word. Assumes nothing.
abbrev mem : Start → Beside → Lent
mem s b = top_making s.args.stack.now s.args.frames.now s.args.slots.now s.args.saved_stack.now s.args.saved_frames.now s.args.setup.now plain b

pub put_made-step-requires : goal.put_made-step-requires
put_made-step-requires c =
    let o = c.requires.ok in
    still-fits c.args.sizes o.world _ (mem c.before.before.before.before.before.before.before.before.before.before.before.before.before.before.before.before.before.before.before o.beside) _ c.args.m _ o.beside.fuel o.beside.fuel c.args.dst
    (create-still c.args.sizes (mem c.before.before.before.before.before.before.before.before.before.before.before.before.before.before.before.before.before.before.before o.beside) c.args.m o.beside.fuel o.world o.rep o.sound c.args.f 0
    (window c.args.dst c.args.argc o.world) c.requires.function)
    o.rep (c.create-did.ensures o.world o.beside o.rep o.sound).world c.requires.reg

pub returns : goal.returns
returns c =
    λ w b rep snd.
    let made = c.create-did.ensures w b rep snd in
    let left = top_making c.args.stack.now c.args.frames.now c.create-did.new.slots c.create-did.new.saved_stack
    c.create-did.new.saved_frames c.args.setup.now plain b in
    new-met c.args.sizes _ _ b.fuel w c.args.dst c.args.f c.args.argc _ _ made.answer
    (c.put_made-step.ensures c.args.sizes (coro_create c.args.f 0 (window c.args.dst c.args.argc w) w).world (record { words = left; fuel = b.fuel }) made.world)
