-- `start_finalizer` meets the definition: the first word that starts, or none. Assumes nothing.
use Rattle.model.specs.Fuel.{unbank}
use Rattle.memory_world.specs.Memory.{Lent, Beside}
use Rattle.memory_world.specs.Lendings.{cleaning, plain}
use Rattle.machine_state.proofs.Flags.{unbank-rep}
use Rattle.coro_clean.proofs.Starting.{unbank-sounds, search-fits, unbank-ok, finalizer-at, finalizer-none}
use Rattle.coro_clean.proofs.finalizer.start_finalizer.Lts as lts
use Rattle.coro_clean.proofs.finalizer.start_finalizer.Reads as reads
use Rattle.coro_clean.proofs.finalizer.start_finalizer.Tie as tie
use Rattle.coro_clean.proofs.finalizer.start_finalizer.Goals as goal

abbrev Start : Type 0
Start = lts.Start tie.the-claims reads.Pre reads.Post

abbrev mem : Start → Beside → Lent
mem c b = cleaning c.args.stack.now c.args.frames.now c.args.chain.now c.args.slots.now c.args.saved_stack.now
    c.args.saved_frames.now c.args.finalize.now plain b

pub first_start-i-requires : goal.first_start-i-requires
first_start-i-requires c =
    let o = c.requires in
    search-fits c.args.sizes (mem c.before.before.before.before.before.before.before.before.before o.beside) c.args.m c.args.fuel o.world o.rep o.sound

pub start_at-requires : goal.start_at-requires
start_at-requires c =
    record {
      ok = unbank-ok c.args.sizes (mem c.before.before.before.before.before.before.before.before.before.before.before.before.before.before.before.before.before.before) c.args.m c.args.fuel c.unbank-f.result c.unbank-f.ensures
          c.requires;
      below = c.if-i-m.true;
    }

pub returns-then-i-m : goal.returns-then-i-m
returns-then-i-m c =
    λ w b rep snd.
    let again = unbank-rep c.args.sizes (mem c.before.before.before.before.before.before.before.before.before.before.before.before.before.before.before.before.before.before.before.before.before.before.before.before.before.before.before.before.before.before.before.before.before.before b) c.args.m c.args.fuel w rep c.unbank-f.result c.unbank-f.ensures in
    finalizer-at c.args.sizes (mem c.before.before.before.before.before.before.before.before.before.before.before.before.before.before.before.before.before.before.before.before.before.before.before.before.before.before.before.before.before.before.before.before.before.before b) c.args.m c.unbank-f.result w again c.first_start-i.result
    c.first_start-i.ensures _ _ _ _ c.if-i-m.true
    (c.start_at.ensures (unbank w) b again (unbank-sounds w snd))

pub returns : goal.returns
returns c =
    λ w b rep snd.
    let again = unbank-rep c.args.sizes (mem c.before.before.before.before.before.before.before.before.before.before.before.before.before.before.before.before b) c.args.m c.args.fuel w rep c.unbank-f.result c.unbank-f.ensures in
    finalizer-none c.args.sizes (mem c.before.before.before.before.before.before.before.before.before.before.before.before.before.before.before.before b) c.args.m c.unbank-f.result w again c.first_start-i.result
    c.first_start-i.ensures _ _ _ _ c.if-i-m.false
    (c.start_none.ensures c.args.sizes (unbank w) (record { words = mem c.before.before.before.before.before.before.before.before.before.before.before.before.before.before.before.before b; fuel = b.fuel }) again)
