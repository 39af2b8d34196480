-- `called` meets its contract: refused, or done on sound words. Assumes nothing.
use mathlib.Core.Path.{◌∙◌, sym, ap}
use Rattle.memory_world.specs.Memory.{Lent}
use Rattle.memory_world.specs.Lendings.{plain}
use Rattle.outer_call.specs.State.{nine, gives}
use Rattle.outer_call.proofs.Stepping.{refused, setup-fits}
use Rattle.outer_call.proofs.call.called.Lts as lts
use Rattle.outer_call.proofs.call.called.Reads as reads
use Rattle.outer_call.proofs.call.called.Tie as tie
use Rattle.outer_call.proofs.call.called.Goals as goal

abbrev Start : Type 0
Start = lts.Start tie.the-claims reads.Pre reads.Post

-- `called` meets its contract: refused, or done on sound words. Assumes nothing.
abbrev mem : Start → Lent
mem c = nine c.args.stack.now c.args.frames.now c.args.chain.now c.args.slots.now c.args.saved_stack.now c.args.saved_frames.now c.args.ready.now c.args.finalize.now c.args.setup.now plain

pub returns-then-not-ok : goal.returns-then-not-ok
returns-then-not-ok c =
    let a = c.args in
    ap (λ r. gives (mem c.before.before.before.before.before.before.before.before.before.before.before.before) r) c.unsound.ensures ∙ refused (mem c.before.before.before.before.before.before.before.before.before.before.before.before) a.m a.fuel a.op (sym c.requires ∙ c.if-not-ok.true)

pub sizes-sizes-requires : goal.sizes-sizes-requires
sizes-sizes-requires c = setup-fits (mem c.before.before.before.before.before.before.before.before.before.before.before) c.args.m c.args.fuel (sym c.requires ∙ c.if-not-ok.false)

pub sound_call-requires : goal.sound_call-requires
sound_call-requires c = record { sound = sym c.requires ∙ c.if-not-ok.false; sizes = c.sizes-sizes.ensures.words }

pub shape_of-stack : goal.shape_of-stack
shape_of-stack c = c.sound_call.auto.stack

pub shape_of-frames : goal.shape_of-frames
shape_of-frames c = c.sound_call.auto.frames

pub shape_of-chain : goal.shape_of-chain
shape_of-chain c = c.sound_call.auto.chain

pub shape_of-slots : goal.shape_of-slots
shape_of-slots c = c.sound_call.auto.slots

pub shape_of-saved_stack : goal.shape_of-saved_stack
shape_of-saved_stack c = c.sound_call.auto.saved_stack

pub shape_of-saved_frames : goal.shape_of-saved_frames
shape_of-saved_frames c = c.sound_call.auto.saved_frames

pub shape_of-ready : goal.shape_of-ready
shape_of-ready c = c.sound_call.auto.ready

pub shape_of-finalize : goal.shape_of-finalize
shape_of-finalize c = c.sound_call.auto.finalize

pub returns : goal.returns
returns c = c.sound_call.ensures.is
