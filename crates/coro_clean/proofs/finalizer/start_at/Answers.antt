-- `start_at` meets the definition: words taken off, an entry, a close, the mark of a running cleanup. Assumes nothing.
use mathlib.Core.Path.{◌≡◌}
use Prim.Native.Nat.{◌+◌}
use lib.ListN.{drop}
use Rattle.model.specs.World.{World, with_finalize}
use Rattle.model.specs.Heap.{change_coro}
use Rattle.model.specs.Coro.{coro_enter}
use Rattle.model.specs.Cleanup.{close}
use Rattle.model.specs.Sound.{sound}
use Rattle.model.specs.declared.machine.Driver.{Driver}
use Rattle.memory_world.specs.Memory.{Lent, Beside, Rep, on_slots, on_finalize}
use Rattle.memory_world.specs.Lendings.{lent, cleaning, plain}
use Rattle.memory_world.specs.Contract.{Does}
use mathlib.Core.Bool.{true}
use Rattle.coro_clean.proofs.Starting.{fewer-sound, fewer-rep, fewer-ok, start-does}
use Rattle.coro_clean.proofs.finalizer.start_at.Lts as lts
use Rattle.coro_clean.proofs.finalizer.start_at.Reads as reads
use Rattle.coro_clean.proofs.finalizer.start_at.Tie as tie
use Rattle.coro_clean.proofs.finalizer.start_at.Goals as goal

abbrev Start : Type 0
Start = lts.Start tie.the-claims reads.Pre reads.Post

abbrev After-coro_enter-did : Type 0
After-coro_enter-did = lts.After-coro_enter tie.the-claims reads.Pre reads.Post

abbrev mem : Start → Beside → Lent
mem c b = cleaning c.args.stack.now c.args.frames.now c.args.chain.now c.args.slots.now c.args.saved_stack.now
    c.args.saved_frames.now c.args.finalize.now plain b

-- the world without the words taken off
abbrev fewer : Start → World → World
fewer c w = with_finalize (drop (c.args.i + 1) w.finalize) w

-- what is left when its coroutine was entered
abbrev words : After-coro_enter-did → Beside → Lent
words c b =
    let e = c.coro_enter-did in
    lent e.new.stack e.new.frames e.new.chain e.new.slots e.new.saved_stack e.new.saved_frames
    (record { words = on_finalize c.take_front.new.queue b.words; fuel = c.args.fuel })

entered : (c : After-coro_enter-did) (w : World) (b : Beside) →
    Rep c.args.sizes w (mem c.before.before.before.before.before.before.before.before.before.before.before.before.before.before.before.before.before.before.before.before b) c.args.m c.args.fuel → sound w ≡ true
    → Does c.args.sizes (coro_enter c.word_at-v.result Driver.Finalize (fewer c.before.before.before.before.before.before.before.before.before.before.before.before.before.before.before.before.before.before.before.before w)) (words c b) c.coro_enter-did.result.machine
    c.args.fuel c.coro_enter-did.result.answer
entered c w b rep snd =
    c.coro_enter-did.ensures (fewer c.before.before.before.before.before.before.before.before.before.before.before.before.before.before.before.before.before.before.before.before w) (record { words = on_finalize c.take_front.new.queue b.words; fuel = c.args.fuel })
    (fewer-rep c.args.sizes (mem c.before.before.before.before.before.before.before.before.before.before.before.before.before.before.before.before.before.before.before.before b) c.args.m c.args.fuel w rep (c.args.i + 1) _ _ c.take_front.ensures)
    (fewer-sound w (c.args.i + 1) snd)

pub coro_enter-did-requires : goal.coro_enter-did-requires
coro_enter-did-requires c =
    fewer-ok c.args.sizes c.args.m c.args.fuel c.args.stack.now c.args.frames.now c.args.chain.now
    c.args.slots.now c.args.saved_stack.now c.args.saved_frames.now
    c.args.finalize.now c.take_front.new.queue (c.args.i + 1) _ c.requires.ok c.take_front.ensures c.take_front.auto.queue

pub set_closing-requires : goal.set_closing-requires
set_closing-requires c =
    let o = c.requires.ok in
    (entered c.before.before.before.before.before.before.before.before.before.before.before.before.before.before.before o.world o.beside o.rep o.sound).world.slots.within

pub shape_of-finalize : goal.shape_of-finalize
shape_of-finalize c = c.take_front.auto.queue

pub returns : goal.returns
returns c =
    λ w b rep snd.
    let v = c.word_at-v.result in
    let u = (coro_enter v Driver.Finalize (fewer c.before.before.before.before.before.before.before.before.before.before.before.before.before.before.before.before.before.before.before.before.before.before.before.before.before.before.before.before.before.before.before.before.before.before.before.before.before.before.before.before.before w)).world in
    let f = c.args.fuel in
    start-does c.args.sizes (mem c.before.before.before.before.before.before.before.before.before.before.before.before.before.before.before.before.before.before.before.before.before.before.before.before.before.before.before.before.before.before.before.before.before.before.before.before.before.before.before.before.before b) c.args.m f w rep c.args.i v _ _ _
    (c.word_at-v.ensures w.finalize c.args.m.finalize rep.finalize c.requires.below).is
    (c.set_finalizing-marked.ensures c.args.sizes (change_coro v (λ k. k) (close 0) u)
    (record { words = on_slots c.set_closing.new.slots (words c.before.before.before.before.before.before.before.before.before.before.before.before.before.before.before.before.before.before.before.before.before b); fuel = f })
    (c.set_closing.ensures c.args.sizes u (record { words = words c.before.before.before.before.before.before.before.before.before.before.before.before.before.before.before.before.before.before.before.before.before b; fuel = f }) (entered c.before.before.before.before.before.before.before.before.before.before.before.before.before.before.before.before.before.before.before.before.before w b rep snd).world))
