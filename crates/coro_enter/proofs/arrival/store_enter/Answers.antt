-- `store_enter` meets its contract: a pc stored, and an entry. Assumes nothing.
use Rattle.model.specs.Frames.{store_pc}
use Rattle.memory_world.specs.Memory.{Lent, Beside}
use Rattle.memory_world.specs.Lendings.{lent}
use Rattle.memory_world.specs.Contract.{only}
use Rattle.machine_state.proofs.Stored.{store-sounds, stored_ok}
use Rattle.coro_enter.proofs.arrival.store_enter.Lts as lts
use Rattle.coro_enter.proofs.arrival.store_enter.Reads as reads
use Rattle.coro_enter.proofs.arrival.store_enter.Tie as tie
use Rattle.coro_enter.proofs.arrival.store_enter.Goals as goal

abbrev Start : Type 0
Start = lts.Start tie.the-claims reads.Pre reads.Post

-- `store_enter` meets its contract: a pc stored, and an entry. Assumes nothing.
abbrev mem : Start → Beside → Lent
mem c b = lent c.args.stack.now c.args.frames.now c.args.chain.now c.args.slots.now c.args.saved_stack.now c.args.saved_frames.now b

pub coro_enter-requires : goal.coro_enter-requires
coro_enter-requires c =
    let o = c.requires.ok in
    stored_ok c.args.sizes (only c.args.m) c.args.stack.now c.args.frames.now c.args.chain.now c.args.slots.now
    c.args.saved_stack.now c.args.saved_frames.now
    c.store_pc.new.frames c.args.pc c.store_pc.auto.frames c.requires.narrow o
    (c.store_pc.ensures c.args.sizes o.world (record { words = mem c.before.before.before.before.before.before.before.before.before.before.before.before.before.before.before.before o.beside; fuel = o.beside.fuel }) o.rep)

pub returns : goal.returns
returns c =
    λ w b rep snd. c.coro_enter.ensures (store_pc c.args.pc w) b (c.store_pc.ensures c.args.sizes w
    (record { words = mem c.before.before.before.before.before.before.before.before.before.before.before.before.before.before.before.before.before.before.before.before.before.before.before.before.before.before.before.before.before.before b; fuel = b.fuel }) rep) (store-sounds c.args.pc w c.requires.narrow snd)
