-- `create` meets the model: its arguments set aside are the window, and then a creation. Assumes nothing.
use mathlib.Core.Path.{ap}
use Prim.Native.Nat.{◌+◌}
use native.Mathlib.Omega.{arith}
use Rattle.memory_world.specs.Memory.{Lent, Beside}
use Rattle.memory_world.specs.Lendings.{top_making, plain}
use Rattle.exec_make.proofs.Newly.{window-is, with-window}
use Rattle.exec_make.proofs.new.create.Lts as lts
use Rattle.exec_make.proofs.new.create.Reads as reads
use Rattle.exec_make.proofs.new.create.Tie as tie
use Rattle.exec_make.proofs.new.create.Goals as goal

abbrev Start : Type 0
Start = lts.Start tie.the-claims reads.Pre reads.Post

-- `create` meets the model: its arguments set aside are the window, and then a creation. Assumes nothing.
abbrev mem : Start → Beside → Lent
mem s b = top_making s.args.stack.now s.args.frames.now s.args.slots.now s.args.saved_stack.now s.args.saved_frames.now s.args.setup.now plain b

abbrev around : Start → Beside → Beside
around s b = record { words = mem s b; fuel = b.fuel }

pub coro_create-requires : goal.coro_create-requires
coro_create-requires c =
    let o = c.requires.ok in
    record {
      ok = record { world = o.world; beside = around c.before.before.before.before.before.before.before.before.before.before.before.before.before o.beside; rep = o.rep; sound = o.sound; room = o.room };
      function = c.requires.function;
      few = c.requires.few;
    }

pub returns : goal.returns
returns c =
    λ w b rep snd.
    let h = c.requires.window in
    let at = c.base_at-base.ensures in
    with-window c.args.sizes w _ _ _ _ c.args.f c.args.closure _ _
    (window-is c.args.sizes w (mem c.before.before.before.before.before.before.before.before.before.before.before.before.before.before.before.before.before.before.before.before b) c.args.m b.fuel rep c.args.dst c.args.argc _ c.set_aside-args.result
    c.requires.reg c.requires.few (ap (λ x. x + c.args.dst + 1) at) (omega arith) c.set_aside-args.ensures)
    (c.coro_create.ensures w (around c.before.before.before.before.before.before.before.before.before.before.before.before.before.before.before.before.before.before.before.before b) rep snd)
