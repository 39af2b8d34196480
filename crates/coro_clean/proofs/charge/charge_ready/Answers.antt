-- `charge_ready` meets the definition: a pc stored, a search for a cleanup, and what it comes to. Assumes nothing.
use mathlib.Core.Path.{◌≡◌, ◌∙◌}
use mathlib.Core.Bool.{true}
use Rattle.model.specs.World.{World}
use Rattle.model.specs.Frames.{store_pc}
use Rattle.model.specs.Cleanup.{start_finalizer}
use Rattle.model.specs.Sound.{sound}
use Rattle.memory_world.specs.Memory.{Lent, Beside, Rep}
use Rattle.memory_world.specs.Lendings.{cleaning, plain}
use Rattle.memory_world.specs.Contract.{Does}
use Rattle.machine_state.proofs.Stored.{store-sounds}
use Rattle.coro_clean.proofs.Closes.{sought, unit_left, stored_ok}
use Rattle.coro_clean.proofs.charge.charge_ready.Lts as lts
use Rattle.coro_clean.proofs.charge.charge_ready.Reads as reads
use Rattle.coro_clean.proofs.charge.charge_ready.Tie as tie
use Rattle.coro_clean.proofs.charge.charge_ready.Goals as goal

abbrev Start : Type 0
Start = lts.Start tie.the-claims reads.Pre reads.Post

abbrev After-start_finalizer-did : Type 0
After-start_finalizer-did = lts.After-start_finalizer tie.the-claims reads.Pre reads.Post

abbrev mem : Start → Beside → Lent
mem c b = cleaning c.args.stack.now c.args.frames.now c.args.chain.now c.args.slots.now c.args.saved_stack.now
    c.args.saved_frames.now c.args.finalize.now plain b

-- what a search for a cleanup leaves
abbrev words : After-start_finalizer-did → Beside → Lent
words c b =
    let e = c.start_finalizer-did in
    cleaning e.new.stack e.new.frames e.new.chain e.new.slots e.new.saved_stack e.new.saved_frames e.new.finalize plain b

searched : (c : After-start_finalizer-did) (w : World) (b : Beside) →
    Rep c.args.sizes w (mem c.before.before.before.before.before.before.before.before.before.before.before.before.before.before.before.before.before.before.before b) c.args.m c.args.fuel → sound w ≡ true
    → Does c.args.sizes (start_finalizer (store_pc c.args.pc w)) (words c b) c.start_finalizer-did.result.machine c.start_finalizer-did.result.fuel
    c.start_finalizer-did.result.answer
searched c w b rep snd =
    c.start_finalizer-did.ensures (store_pc c.args.pc w) b (c.store_pc.ensures c.args.sizes w (record { words = mem c.before.before.before.before.before.before.before.before.before.before.before.before.before.before.before.before.before.before.before b; fuel = c.args.fuel }) rep)
    (store-sounds c.args.pc w c.requires.charge.narrow snd)

pub start_finalizer-did-requires : goal.start_finalizer-did-requires
start_finalizer-did-requires c =
    let o = c.requires.charge.ok in
    stored_ok c.args.sizes c.args.m c.args.fuel c.args.stack.now c.args.frames.now c.args.chain.now
    c.args.slots.now c.args.saved_stack.now c.args.saved_frames.now
    c.args.finalize.now c.store_pc.new.frames c.args.pc c.store_pc.auto.frames c.requires.charge.narrow o
    (c.store_pc.ensures c.args.sizes o.world (record { words = mem c.before.before.before.before.before.before.before.before.before.before.before.before.before.before.before.before.before.before o.beside; fuel = c.args.fuel }) o.rep)

pub charge_or-requires : goal.charge_or-requires
charge_or-requires c =
    let o = c.requires.charge.ok in
    unit_left c.args.sizes _ _ _ c.args.fuel (store_pc c.args.pc o.world) _ o.rep.fuel
    (searched c.before.before.before.before.before.before.before.before.before.before.before.before.before.before.before.before.before.before o.world o.beside o.rep o.sound) c.requires.paid

pub shape_of-frames : goal.shape_of-frames
shape_of-frames c = c.start_finalizer-did.auto.frames ∙ c.store_pc.auto.frames

pub returns : goal.returns
returns c =
    λ w b rep snd.
    let d = searched c.before.before.before.before.before.before.before.before.before.before.before.before.before.before.before.before.before.before.before w b rep snd in
    sought c.args.sizes _ _ _ c.args.pc w _ _ d.answer
    (c.charge_or.ensures c.args.sizes (start_finalizer (store_pc c.args.pc w)).world (record { words = words c.before.before.before.before.before.before.before.before.before.before.before.before.before.before.before.before.before.before.before b; fuel = c.args.fuel }) d.world)
