-- `search` meets its contract: what is left of it, done to the present, is the whole done to the start. The measure is the number of
-- frames. Assumes nothing.
use mathlib.Core.Path.{sym, ◌∙◌, refl}
use Prim.Native.Nat.{◌≤◌}
use native.Mathlib.Omega.{arith}
use borrow.Author.Tests.{not-true, not-false}
use Rattle.memory_world.specs.Memory.{Lent, Beside}
use Rattle.memory_world.specs.Lendings.{six_setup, plain}
use Rattle.memory_world.specs.Contract.{with}
use Rattle.memory_world.proofs.Does.{SameLengths}
use Rattle.machine_unwind.proofs.Along.{along-start, along-none, along-ends, along-fewer, along-more}
use Rattle.machine_unwind.proofs.search.search.Lts as lts
use Rattle.machine_unwind.proofs.search.search.Reads as reads
use Rattle.machine_unwind.proofs.search.search.Tie as tie
use Rattle.machine_unwind.proofs.search.search.Goals as goal

abbrev Start : Type 0
Start = lts.Start tie.the-claims reads.Pre reads.Post goal.the-invariant-loop-n goal.the-decreases-loop-n

abbrev At-loop-n : Type 0
At-loop-n = lts.At-loop tie.the-claims reads.Pre reads.Post goal.the-invariant-loop-n goal.the-decreases-loop-n

abbrev In-loop-n : Type 0
In-loop-n = lts.Then1 tie.the-claims reads.Pre reads.Post goal.the-invariant-loop-n goal.the-decreases-loop-n

abbrev After-turn-did : Type 0
After-turn-did = lts.After-turn tie.the-claims reads.Pre reads.Post goal.the-invariant-loop-n goal.the-decreases-loop-n

abbrev at-start : Start → Beside → Lent
at-start c = let a = c.args in six_setup a.stack.now a.frames.now a.chain.now a.slots.now a.saved_stack.now a.saved_frames.now a.setup.now plain

abbrev at-loop : At-loop-n → Beside → Lent
at-loop c = let a = c.loop-n in six_setup a.stack a.frames a.chain a.slots a.saved_stack a.saved_frames c.args.setup.now plain

abbrev at_turn : After-turn-did → Beside → Lent
at_turn c =
    let e = c.turn-did.new in
    six_setup e.stack e.frames e.chain e.slots e.saved_stack e.saved_frames c.args.setup.now plain

some_left : (c : In-loop-n) → 1 ≤ c.loop-n.n.depth
some_left c = omega (arith, c.loop-n-test.true)

so_far : (c : At-loop-n) → SameLengths (at-start c.before.before.before.before.before.before.before.before c.loop-n.invariant.ok.beside) (at-loop c c.loop-n.invariant.ok.beside)
so_far c = c.loop-n.invariant.kept c.loop-n.invariant.ok.beside

same_turn : (c : After-turn-did) (b : Beside) → SameLengths (at-loop c.before.before.before.before.before.before.before.before.before b) (at_turn c b)
same_turn c b =
    let k = c.turn-did.auto in
    record { stack = k.stack; frames = k.frames; chain = k.chain; slots = k.slots; saved_stack = k.saved_stack; saved_frames = k.saved_frames; ready = refl; finalize = refl; setup = refl }

pub loop-n-init : goal.loop-n-init
loop-n-init c = along-start c.args.sizes c.args.value c.args.func c.args.pc (at-start c.before.before.before.before.before.before.before.before) (with c.args.m c.args.fuel) c.requires.ok

pub turn-did-requires : goal.turn-did-requires
turn-did-requires c = record { ok = c.loop-n.invariant.ok; some = omega (arith, c.loop-n-test.true) }

pub shape_of-stack-then-not-goes_on : goal.shape_of-stack-then-not-goes_on
shape_of-stack-then-not-goes_on c = c.turn-did.auto.stack ∙ (so_far c.before.before.before.before.before.before.before.before.before.before.before.before.before.before.before.before.before.before.before.before.before.before.before.before.before.before).stack

pub shape_of-frames-then-not-goes_on : goal.shape_of-frames-then-not-goes_on
shape_of-frames-then-not-goes_on c = c.turn-did.auto.frames ∙ (so_far c.before.before.before.before.before.before.before.before.before.before.before.before.before.before.before.before.before.before.before.before.before.before.before.before.before.before).frames

pub shape_of-chain-then-not-goes_on : goal.shape_of-chain-then-not-goes_on
shape_of-chain-then-not-goes_on c = c.turn-did.auto.chain ∙ (so_far c.before.before.before.before.before.before.before.before.before.before.before.before.before.before.before.before.before.before.before.before.before.before.before.before.before.before).chain

pub shape_of-slots-then-not-goes_on : goal.shape_of-slots-then-not-goes_on
shape_of-slots-then-not-goes_on c = c.turn-did.auto.slots ∙ (so_far c.before.before.before.before.before.before.before.before.before.before.before.before.before.before.before.before.before.before.before.before.before.before.before.before.before.before).slots

pub shape_of-saved_stack-then-not-goes_on : goal.shape_of-saved_stack-then-not-goes_on
shape_of-saved_stack-then-not-goes_on c = c.turn-did.auto.saved_stack ∙ (so_far c.before.before.before.before.before.before.before.before.before.before.before.before.before.before.before.before.before.before.before.before.before.before.before.before.before.before).saved_stack

pub shape_of-saved_frames-then-not-goes_on : goal.shape_of-saved_frames-then-not-goes_on
shape_of-saved_frames-then-not-goes_on c = c.turn-did.auto.saved_frames ∙ (so_far c.before.before.before.before.before.before.before.before.before.before.before.before.before.before.before.before.before.before.before.before.before.before.before.before.before.before).saved_frames

pub returns-then-not-goes_on : goal.returns-then-not-goes_on
returns-then-not-goes_on c =
    let p = c.requires in let r = c.turn-did.result in
    along-ends c.loop-n.invariant (some_left c.before.before.before.before.before.before.before.before.before.before.before.before.before.before.before.before.before.before.before.before.before.before.before.before) p.func p.pc (at_turn c.before.before.before.before.before.before.before.before.before.before.before.before.before.before.before.before.before) (with r.machine r.fuel) r.answer
    c.turn-did.ensures (sym c.goes_on.ensures ∙ c.if-not-goes_on.true)

pub loop-n-smaller : goal.loop-n-smaller
loop-n-smaller c =
    let p = c.requires in let r = c.turn-did.result in
    along-fewer c.loop-n.invariant (some_left c.before.before.before.before.before.before.before.before.before.before.before.before.before.before.before.before.before.before.before.before.before.before.before.before) p.func p.pc (at_turn c.before.before.before.before.before.before.before.before.before.before.before.before.before.before.before.before.before) (with r.machine r.fuel) r.answer
    c.turn-did.ensures (same_turn c.before.before.before.before.before.before.before.before.before.before.before.before.before.before.before.before.before) (sym c.goes_on.ensures ∙ c.if-not-goes_on.false)

pub loop-n-preserved : goal.loop-n-preserved
loop-n-preserved c =
    let p = c.requires in let r = c.turn-did.result in
    along-more c.loop-n.invariant (some_left c.before.before.before.before.before.before.before.before.before.before.before.before.before.before.before.before.before.before.before.before.before.before.before.before) p.func p.pc (at_turn c.before.before.before.before.before.before.before.before.before.before.before.before.before.before.before.before.before) (with r.machine r.fuel) r.answer
    c.turn-did.ensures (same_turn c.before.before.before.before.before.before.before.before.before.before.before.before.before.before.before.before.before) (sym c.goes_on.ensures ∙ c.if-not-goes_on.false)

pub shape_of-stack : goal.shape_of-stack
shape_of-stack c = (so_far c.before.before.before).stack

pub shape_of-frames : goal.shape_of-frames
shape_of-frames c = (so_far c.before.before.before).frames

pub shape_of-chain : goal.shape_of-chain
shape_of-chain c = (so_far c.before.before.before).chain

pub shape_of-slots : goal.shape_of-slots
shape_of-slots c = (so_far c.before.before.before).slots

pub shape_of-saved_stack : goal.shape_of-saved_stack
shape_of-saved_stack c = (so_far c.before.before.before).saved_stack

pub shape_of-saved_frames : goal.shape_of-saved_frames
shape_of-saved_frames c = (so_far c.before.before.before).saved_frames

pub returns : goal.returns
returns c = along-none c.loop-n.invariant (omega (arith, c.loop-n-test.false))
