-- `unwind` meets the definition: no such fault, or a pc stored and the fault raised. Assumes nothing.
use mathlib.Core.Path.{refl, sym, ◌∙◌}
use borrow.Author.Tests.{not-true, not-false}
use Rattle.model.specs.Machine.{store_some}
use Rattle.memory_world.specs.Memory.{Lent, Beside}
use Rattle.memory_world.specs.Lendings.{six_setup, plain}
use Rattle.memory_world.specs.Contract.{with}
use Rattle.memory_world.proofs.Does.{ok-next}
use Rattle.machine_unwind.proofs.Raising.{some-sounds, some-setup, unwind-refused, unwind-raises}
use Rattle.machine_unwind.proofs.unwind.unwind.Lts as lts
use Rattle.machine_unwind.proofs.unwind.unwind.Reads as reads
use Rattle.machine_unwind.proofs.unwind.unwind.Tie as tie
use Rattle.machine_unwind.proofs.unwind.unwind.Goals as goal

abbrev Start : Type 0
Start = lts.Start tie.the-claims reads.Pre reads.Post

abbrev After-store_some : Type 0
After-store_some = lts.After-store_some tie.the-claims reads.Pre reads.Post

-- `unwind` meets the definition: no such fault, or a pc stored and the fault raised. Assumes nothing.
abbrev mem : Start → Beside → Lent
mem c b =
    let a = c.args in
    six_setup a.stack.now a.frames.now a.chain.now a.slots.now a.saved_stack.now a.saved_frames.now a.setup.now plain b

-- the words with the pc stored
abbrev at-pc : After-store_some → Beside → Lent
at-pc c b =
    let a = c.args in
    six_setup a.stack.now c.store_some.new.frames a.chain.now a.slots.now a.saved_stack.now a.saved_frames.now a.setup.now plain b

pub returns-then-not-is_raisable : goal.returns-then-not-is_raisable
returns-then-not-is_raisable c =
    let a = c.args in
    λ w b rep snd. unwind-refused a.sizes (mem c.before.before.before.before.before.before.before.before.before.before b) a.m a.fuel w a.fault a.pc (sym c.is_raisable.ensures ∙ c.if-not-is_raisable.true) rep

pub raise-requires : goal.raise-requires
raise-requires c =
    let a = c.args in
    let o = c.requires.ok in
    let n = with a.m a.fuel in
    let u = store_some a.pc o.world in
    record {
      ok =
          ok-next a.sizes (mem c.before.before.before.before.before.before.before.before.before.before.before.before.before.before.before.before.before.before.before.before) (at-pc c.before.before.before.before.before.before.before.before.before) n n o u (some-setup a.pc o.world) (some-sounds a.pc o.world c.requires.narrow o.sound)
          (record { stack = refl; frames = c.store_some.auto.frames; chain = refl; slots = refl; saved_stack = refl; saved_frames = refl; ready = refl; finalize = refl; setup = refl })
          (c.store_some.ensures a.sizes o.world (record { words = mem c.before.before.before.before.before.before.before.before.before.before.before.before.before.before.before.before.before.before.before.before o.beside; fuel = a.fuel }) o.rep);
      raises = sym c.is_raisable.ensures ∙ c.if-not-is_raisable.false;
    }

pub shape_of-stack : goal.shape_of-stack
shape_of-stack c = c.raise.auto.stack

pub shape_of-frames : goal.shape_of-frames
shape_of-frames c = c.raise.auto.frames ∙ c.store_some.auto.frames

pub shape_of-chain : goal.shape_of-chain
shape_of-chain c = c.raise.auto.chain

pub shape_of-slots : goal.shape_of-slots
shape_of-slots c = c.raise.auto.slots

pub shape_of-saved_stack : goal.shape_of-saved_stack
shape_of-saved_stack c = c.raise.auto.saved_stack

pub shape_of-saved_frames : goal.shape_of-saved_frames
shape_of-saved_frames c = c.raise.auto.saved_frames

pub returns : goal.returns
returns c =
    let a = c.args in
    let r = c.raise in
    let e = r.new in
    λ w b rep snd.
    unwind-raises a.sizes (six_setup e.stack e.frames e.chain e.slots e.saved_stack e.saved_frames a.setup.now plain b)
    r.result.machine r.result.fuel w a.fault a.pc r.result.answer (sym c.is_raisable.ensures ∙ c.if-not-is_raisable.false)
    (r.ensures (store_some a.pc w) b (c.store_some.ensures a.sizes w (record { words = mem c.before.before.before.before.before.before.before.before.before.before.before.before.before.before.before.before.before.before.before.before.before.before.before.before.before.before.before.before.before.before.before.before.before b; fuel = a.fuel }) rep) (some-sounds a.pc w c.requires.narrow snd))
