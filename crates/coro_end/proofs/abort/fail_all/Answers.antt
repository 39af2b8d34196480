-- `fail_all` meets its contract: those that are left fail in the present world as all do in that of the start. The measure is the number
-- of active coroutines. Assumes nothing.
use mathlib.Core.Path.{refl}
use native.Mathlib.Omega.{arith}
use Rattle.memory_world.specs.Memory.{Lent, Beside}
use Rattle.memory_world.specs.Lendings.{plain}
use Rattle.memory_world.proofs.Does.{SameLengths}
use Rattle.coro_end.specs.Last.{ending}
use Rattle.coro_end.proofs.Failing.{along-start, along-none, along-fewer, along-more}
use Rattle.coro_end.proofs.abort.fail_all.Lts as lts
use Rattle.coro_end.proofs.abort.fail_all.Reads as reads
use Rattle.coro_end.proofs.abort.fail_all.Tie as tie
use Rattle.coro_end.proofs.abort.fail_all.Goals as goal

abbrev At-loop-n : Type 0
At-loop-n = lts.At-loop tie.the-claims reads.Pre reads.Post goal.the-invariant-loop-n goal.the-decreases-loop-n

abbrev After-end_last-n : Type 0
After-end_last-n = lts.After-end_last tie.the-claims reads.Pre reads.Post goal.the-invariant-loop-n goal.the-decreases-loop-n

abbrev at-end : After-end_last-n → Beside → Lent
at-end c = let e = c.end_last-n.new in ending e.chain e.slots e.saved_stack e.saved_frames plain

so_far : (c : At-loop-n) →
    let a = c.args in let n = c.loop-n in let b = n.invariant.some.beside in
    SameLengths (ending a.chain.now a.slots.now a.saved_stack.now a.saved_frames.now plain b) (ending n.chain n.slots n.saved_stack n.saved_frames plain b)
so_far c = c.loop-n.invariant.kept c.loop-n.invariant.some.beside

pub loop-n-init : goal.loop-n-init
loop-n-init c =
    let a = c.args in
    along-start a.sizes (ending a.chain.now a.slots.now a.saved_stack.now a.saved_frames.now plain) a.m c.requires

pub end_last-n-requires : goal.end_last-n-requires
end_last-n-requires c = record { held = c.loop-n.invariant.some; ends = refl }

pub loop-n-smaller : goal.loop-n-smaller
loop-n-smaller c = along-fewer c.loop-n.invariant (omega (arith, c.loop-n-test.true)) (at-end c.before.before.before.before.before.before.before.before.before) c.end_last-n.result c.end_last-n.ensures

pub loop-n-preserved : goal.loop-n-preserved
loop-n-preserved c =
    let k = c.end_last-n.auto in
    along-more c.loop-n.invariant (omega (arith, c.loop-n-test.true)) (at-end c.before.before.before.before.before.before.before.before.before) c.end_last-n.result c.end_last-n.ensures
    (λ b. record { stack = refl; frames = refl; chain = k.chain; slots = k.slots; saved_stack = k.saved_stack; saved_frames = k.saved_frames; ready = refl; finalize = refl; setup = refl })

pub shape_of-chain : goal.shape_of-chain
shape_of-chain c = (so_far c.before.before).chain

pub shape_of-slots : goal.shape_of-slots
shape_of-slots c = (so_far c.before.before).slots

pub shape_of-saved_stack : goal.shape_of-saved_stack
shape_of-saved_stack c = (so_far c.before.before).saved_stack

pub shape_of-saved_frames : goal.shape_of-saved_frames
shape_of-saved_frames c = (so_far c.before.before).saved_frames

pub returns : goal.returns
returns c = along-none c.loop-n.invariant (omega (arith, c.loop-n-test.false))
