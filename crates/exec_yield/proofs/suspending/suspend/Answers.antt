-- `suspend` meets the model: a pc stored, a suspension, a delivery. Assumes nothing.
use mathlib.Core.Path.{◌∙◌}
use Rattle.model.specs.Frames.{store_pc}
use Rattle.model.specs.Coro.{coro_suspend}
use Rattle.memory_world.specs.Memory.{Lent, Beside}
use Rattle.memory_world.specs.Lendings.{lent}
use Rattle.machine_state.proofs.Stored.{store-sounds}
use Rattle.machine_state.proofs.Stored.{stored_ok}
use Rattle.exec_yield.proofs.Settled.{drives, suspended, framed}
use Rattle.memory_world.specs.Contract.{only}
use Rattle.exec_yield.proofs.suspending.suspend.Lts as lts
use Rattle.exec_yield.proofs.suspending.suspend.Reads as reads
use Rattle.exec_yield.proofs.suspending.suspend.Tie as tie
use Rattle.exec_yield.proofs.suspending.suspend.Goals as goal

abbrev Start : Type 0
Start = lts.Start tie.the-claims reads.Pre reads.Post

abbrev mem : Start → Beside → Lent
mem c b = lent c.args.stack.now c.args.frames.now c.args.chain.now c.args.slots.now c.args.saved_stack.now c.args.saved_frames.now b

pub store_pc-requires : goal.store_pc-requires
store_pc-requires c = record { some = framed c.requires.run.ok.rep c.requires.run.ok.sound c.requires.run.running; within = c.requires.run.ok.rep.frames.within }

pub coro_suspend-did-requires : goal.coro_suspend-did-requires
coro_suspend-did-requires c =
    let o = c.requires.run.ok in record {
      ok = stored_ok c.args.sizes (only c.args.m) c.args.stack.now c.args.frames.now c.args.chain.now
          c.args.slots.now c.args.saved_stack.now c.args.saved_frames.now c.store_pc.new.frames c.args.pc
          c.store_pc.auto.frames c.requires.run.narrow o
          (c.store_pc.ensures c.args.sizes o.world (record { words = mem c.before.before.before.before.before.before.before.before.before.before.before.before.before.before.before.before o.beside; fuel = o.beside.fuel }) o.rep);
      state = c.requires.state;
    }

pub deliver_all-requires : goal.deliver_all-requires
deliver_all-requires c =
    let o = c.requires.run.ok in
    let u = store_pc c.args.pc o.world in
    let k = store-sounds c.args.pc o.world c.requires.run.narrow o.sound in
    drives c.args.sizes _ _ _ c.args.state c.args.dst c.args.payload c.args.keys u k _
    (c.coro_suspend-did.ensures u o.beside
    (c.store_pc.ensures c.args.sizes o.world (record { words = mem c.before.before.before.before.before.before.before.before.before.before.before.before.before.before.before.before.before.before.before.before.before.before.before.before.before.before.before.before.before.before.before.before.before.before o.beside; fuel = o.beside.fuel }) o.rep) k)

pub shape_of-frames : goal.shape_of-frames
shape_of-frames c = c.deliver_all.auto.frames ∙ c.coro_suspend-did.auto.frames ∙ c.store_pc.auto.frames

pub returns : goal.returns
returns c =
    λ w b rep snd.
    let f = c.args.fuel in
    let u = store_pc c.args.pc w in
    let k = store-sounds c.args.pc w c.requires.run.narrow snd in
    let d = c.coro_suspend-did.ensures u (record { words = b.words; fuel = f })
    (c.store_pc.ensures c.args.sizes w (record { words = mem c.before.before.before.before.before.before.before.before.before.before.before.before.before.before.before.before.before.before.before.before.before.before.before.before.before.before.before.before.before.before.before.before.before.before.before.before.before.before.before.before.before b; fuel = f }) rep) k in
    suspended c.args.sizes _ _ _ w c.args.pc c.args.state c.args.dst c.args.payload c.args.keys _ _ d.answer
    (c.deliver_all.ensures c.args.sizes (coro_suspend c.args.state c.args.dst c.args.payload
    c.args.keys u).world (record {
      words = lent c.coro_suspend-did.new.stack c.coro_suspend-did.new.frames
          c.coro_suspend-did.new.chain c.coro_suspend-did.new.slots c.coro_suspend-did.new.saved_stack
          c.coro_suspend-did.new.saved_frames b;
      fuel = f;
    }) d.world)
