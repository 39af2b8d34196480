-- `indirect` meets the model, by the function that is called. Assumes nothing.
use mathlib.Core.Path.{sym, ◌∙◌}
use Rattle.memory_world.specs.Memory.{Lent, Beside}
use Rattle.memory_world.specs.Lendings.{top_making, plain}
use Rattle.exec_make.proofs.Callee.{called-fits, called-function, indirect-refused, indirect-made}
use Rattle.exec_make.proofs.indirect.indirect.Lts as lts
use Rattle.exec_make.proofs.indirect.indirect.Reads as reads
use Rattle.exec_make.proofs.indirect.indirect.Tie as tie
use Rattle.exec_make.proofs.indirect.indirect.Goals as goal

abbrev Start : Type 0
Start = lts.Start tie.the-claims reads.Pre reads.Post

-- `indirect` meets the model, by the function that is called. Assumes nothing.
abbrev mem : Start → Beside → Lent
mem s b = top_making s.args.stack.now s.args.frames.now s.args.slots.now s.args.saved_stack.now s.args.saved_frames.now s.args.setup.now plain b

-- the words that are lent, to a callee that is lent some of them
abbrev around : Start → Beside → Beside
around s b = record { words = mem s b; fuel = b.fuel }

pub called-requires : goal.called-requires
called-requires c =
    let o = c.requires.ok in
    called-fits c.args.sizes o.world (mem c.before.before.before.before.before.before.before.before o.beside) c.args.m o.beside.fuel o.rep o.room

pub create-requires : goal.create-requires
create-requires c =
    let o = c.requires.ok in
    record {
      ok = o;
      function =
          called-function c.args.sizes o.world (mem c.before.before.before.before.before.before.before.before.before.before.before.before.before o.beside) c.args.m o.beside.fuel o.rep c.reg-v.result c.args.argc c.in-Ok.f
          (sym c.in-Ok.is ∙ c.called.ensures c.args.sizes o.world (around c.before.before.before.before.before.before.before.before.before.before.before.before.before o.beside) o.rep);
      few = c.requires.few;
      reg = c.requires.reg;
      window = c.requires.window;
    }

pub returns-in-Err : goal.returns-in-Err
returns-in-Err c =
    λ w b rep snd.
    indirect-refused w c.args.dst c.args.callee c.args.argc c.args.sizes (mem c.before.before.before.before.before.before.before.before.before.before b) c.args.m b.fuel c.reg-v.result
    (c.reg-v.ensures w.stack w.frames rep.stack rep.frames).is c.in-Err.g
    (sym c.in-Err.is ∙ c.called.ensures c.args.sizes w (around c.before.before.before.before.before.before.before.before.before.before b) rep) rep

pub returns-in-Ok : goal.returns-in-Ok
returns-in-Ok c =
    λ w b rep snd.
    indirect-made w c.args.dst c.args.callee c.args.argc c.args.sizes _ _ b.fuel c.reg-v.result
    (c.reg-v.ensures w.stack w.frames rep.stack rep.frames).is c.in-Ok.f _
    (sym c.in-Ok.is ∙ c.called.ensures c.args.sizes w (around c.before.before.before.before.before.before.before.before.before.before.before.before.before.before.before.before.before.before.before.before b) rep)
    (c.create.ensures w b rep snd)
