-- `set_up` meets its contract: refused, or a fresh machine. Assumes nothing.
use mathlib.Core.Path.{◌≡◌, refl, sym, ap, ◌∙◌}
use mathlib.Core.Bool.{true}
use Rattle.memory_world.specs.Memory.{Lent}
use Rattle.memory_world.specs.Lendings.{plain}
use Rattle.memory_step.specs.Step.{set_up_ok}
use Rattle.outer_call.specs.State.{nine, state, gives}
use Rattle.outer_call.proofs.Begun.{accepts, refuses-it}
use Rattle.outer_call.proofs.set_up.set_up.Lts as lts
use Rattle.outer_call.proofs.set_up.set_up.Reads as reads
use Rattle.outer_call.proofs.set_up.set_up.Tie as tie
use Rattle.outer_call.proofs.set_up.set_up.Goals as goal

abbrev Start : Type 0
Start = lts.Start tie.the-claims reads.Pre reads.Post

abbrev Else-not-allowed : Type 0
Else-not-allowed = lts.Else1 tie.the-claims reads.Pre reads.Post

-- `set_up` meets its contract: refused, or a fresh machine. Assumes nothing.
abbrev mem : Start → Lent
mem c = nine c.args.stack.now c.args.frames.now c.args.chain.now c.args.slots.now c.args.saved_stack.now c.args.saved_frames.now c.args.ready.now c.args.finalize.now c.args.setup.now plain

accepted : (c : Else-not-allowed) → set_up_ok c.args.given.now (mem c.before.before.before.before.before.before.before.before.before.before.before.before) ≡ true
accepted c = sym (c.allowed.ensures (mem c.before.before.before.before.before.before.before.before.before.before.before.before) refl) ∙ c.if-not-allowed.false

pub returns-then-not-allowed : goal.returns-then-not-allowed
returns-then-not-allowed c =
    let a = c.args in
    ap (λ r. gives (mem c.before.before.before.before.before.before.before.before.before.before.before.before.before.before) r) c.unsound.ensures
    ∙ refuses-it (state (mem c.before.before.before.before.before.before.before.before.before.before.before.before.before.before) a.m a.fuel) a.given.now (sym (c.allowed.ensures (mem c.before.before.before.before.before.before.before.before.before.before.before.before.before.before) refl) ∙ c.if-not-allowed.true)

pub begin-requires : goal.begin-requires
begin-requires c = accepted c.before.before.before.before.before.before.before.before.before.before

pub shape_of-stack : goal.shape_of-stack
shape_of-stack c = c.begin.auto.stack

pub shape_of-frames : goal.shape_of-frames
shape_of-frames c = c.begin.auto.frames

pub shape_of-chain : goal.shape_of-chain
shape_of-chain c = c.begin.auto.chain

pub shape_of-slots : goal.shape_of-slots
shape_of-slots c = c.begin.auto.slots

pub shape_of-saved_stack : goal.shape_of-saved_stack
shape_of-saved_stack c = c.begin.auto.saved_stack

pub shape_of-saved_frames : goal.shape_of-saved_frames
shape_of-saved_frames c = c.begin.auto.saved_frames

pub shape_of-ready : goal.shape_of-ready
shape_of-ready c = c.begin.auto.ready

pub shape_of-finalize : goal.shape_of-finalize
shape_of-finalize c = c.begin.auto.finalize

pub shape_of-setup : goal.shape_of-setup
shape_of-setup c = c.begin.auto.setup

pub returns : goal.returns
returns c =
    let a = c.args in
    c.begin.ensures ∙ accepts (state (mem c.before.before.before.before.before.before.before.before.before.before.before.before.before.before.before.before.before.before.before.before.before.before.before.before.before.before.before.before.before.before.before.before.before.before.before.before.before.before.before.before.before) a.m a.fuel) a.given.now (accepted c.before.before.before.before.before.before.before.before.before.before.before.before.before.before.before.before.before.before.before.before.before.before.before.before.before.before.before.before.before)
