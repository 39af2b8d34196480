-- `call` meets its contract: refused, or as `granted` says. Assumes nothing.
use mathlib.Core.Path.{◌∙◌, sym, ap}
use borrow.Author.Tests.{not-true, not-false}
use Rattle.model.specs.declared.call.Op.{Op}
use Rattle.memory_world.specs.Memory.{Lent}
use Rattle.memory_world.specs.Lendings.{plain}
use Rattle.outer_call.specs.State.{nine, gives}
use Rattle.outer_call.proofs.Stepping.{refused}
use Rattle.outer_grant.proofs.Stepping as Law
use Rattle.outer_grant.proofs.call.call.Lts as lts
use Rattle.outer_grant.proofs.call.call.Reads as reads
use Rattle.outer_grant.proofs.call.call.Tie as tie
use Rattle.outer_grant.proofs.call.call.Goals as goal

abbrev Start : Type 0
Start = lts.Start tie.the-claims reads.Pre reads.Post

abbrev After-sound_words : Type 0
After-sound_words = lts.After-sound_words tie.the-claims reads.Pre reads.Post

-- `call` meets its contract: refused, or as `granted` says. Assumes nothing.
abbrev mem : Start → Lent
mem c = nine c.args.stack.now c.args.frames.now c.args.chain.now c.args.slots.now c.args.saved_stack.now c.args.saved_frames.now c.args.ready.now c.args.finalize.now c.args.setup.now plain

abbrev start_of : After-sound_words → Start
start_of c = c.before.before.before.before.before.before.before.before.before.before

pub returns-then-not-sound_words : goal.returns-then-not-sound_words
returns-then-not-sound_words c =
    let start = start_of c.before.before.before in
    let a = start.args in
    ap (λ r. gives (mem start) r) c.unsound.ensures
    ∙ refused (mem start) a.m a.fuel (Op.Grant a.n) (sym c.sound_words.ensures ∙ c.if-not-sound_words.true)

pub returns : goal.returns
returns c =
    let start = start_of c.before.before.before.before in
    let a = start.args in
    Law.granted (mem start) a.m a.fuel a.n (sym c.sound_words.ensures ∙ c.if-not-sound_words.false)
    c.granted-did.result.fuel c.granted-did.result.answer c.granted-did.ensures
