-- `one` meets its contract: no call, a switch, or any other. Assumes nothing.
use mathlib.Core.Path.{◌≡◌, refl, sym, ◌∙◌}
use Prim.Native.Nat.{ℕ, ◌+◌, ◌*◌, ◌≤◌}
use native.Mathlib.Omega.{arith}
use lib.ListN.{length}
use Rattle.memory_world.specs.Memory.{Lent}
use Rattle.memory_world.specs.Lendings.{plain}
use Rattle.outer_call.specs.State.{nine}
use Rattle.memory_calls.specs.Call.{six, op_of}
use Rattle.outer_run.specs.Run.{read_in}
use Rattle.linked_calls.specs.Host.{Host, host}
use Rattle.linked_batch.proofs.Ones.{no_call, no_one, words-read, of-read}
use Rattle.linked_batch.proofs.one.one.Lts as lts
use Rattle.linked_batch.proofs.one.one.Reads as reads
use Rattle.linked_batch.proofs.one.one.Tie as tie
use Rattle.linked_batch.proofs.one.one.Goals as goal

abbrev Start : Type 0
Start = lts.Start tie.the-claims reads.Pre reads.Post

abbrev Else-calls-i-lt-CALL_WIDTH : Type 0
Else-calls-i-lt-CALL_WIDTH = lts.Else1 tie.the-claims reads.Pre reads.Post

abbrev After-word-e : Type 0
After-word-e = lts.After-word6 tie.the-claims reads.Pre reads.Post

-- `one` meets its contract: no call, a switch, or any other. Assumes nothing.
abbrev mem : Start → Lent
mem c =
    let a = c.args in
    nine a.stack.now a.frames.now a.chain.now a.slots.now a.saved_stack.now a.saved_frames.now a.ready.now a.finalize.now a.setup.now plain

abbrev of : Start → Host
of c = host (mem c) c.args.machine.now c.args.fuel.now

-- six words are there
full : (c : Else-calls-i-lt-CALL_WIDTH) → let a = c.args in a.i * 6 + 6 ≤ length a.calls.now
full c = let h = c.requires.call in let k = c.if-calls-i-lt-CALL_WIDTH.false in omega (arith, h, k)

-- the call that they say, where the first and the last two are known
read_as : {n d e : ℕ} (c : After-word-e) → c.word-n.result ≡ n → c.word-d.result ≡ d → c.word-e.result ≡ e →
    let a = c.args in
    op_of (six n c.word-a.result c.word-b.result c.word-c.result d e) ≡ read_in a.calls.now a.i
read_as c p q r =
    let a = c.args in
    words-read a.calls.now a.i (full c.before.before.before.before.before.before) (sym p ∙ c.word-n.ensures) c.word-a.ensures c.word-b.ensures c.word-c.ensures
    (sym q ∙ c.word-d.ensures) (sym r ∙ c.word-e.ensures)

pub put_at-requires : goal.put_at-requires
put_at-requires c = c.requires.put.room

pub returns-then-calls-i-lt-CALL_WIDTH : goal.returns-then-calls-i-lt-CALL_WIDTH
returns-then-calls-i-lt-CALL_WIDTH c =
    let a = c.args in
    no_one (of c.before.before.before.before.before.before.before.before.before.before.before.before.before.before.before.before.before.before.before) c.requires.put.sound a.answers.now _ a.i (read_in a.calls.now a.i)
    (no_call a.calls.now a.i c.requires.call c.if-calls-i-lt-CALL_WIDTH.true) c.put_at.ensures

pub word-n-requires : goal.word-n-requires
word-n-requires c = (full c.before, omega arith)

pub word-a-requires : goal.word-a-requires
word-a-requires c = (full c.before.before, omega arith)

pub word-b-requires : goal.word-b-requires
word-b-requires c = (full c.before.before.before, omega arith)

pub word-c-requires : goal.word-c-requires
word-c-requires c = (full c.before.before.before.before, omega arith)

pub word-d-requires : goal.word-d-requires
word-d-requires c = (full c.before.before.before.before.before, omega arith)

pub word-e-requires : goal.word-e-requires
word-e-requires c = (full c.before.before.before.before.before.before, omega arith)

pub resume_call-requires : goal.resume_call-requires
resume_call-requires c = record { put = c.requires.put; narrow = (c.route_of.ensures.resume c.in-Resume.is).1 }

pub yield_call-requires : goal.yield_call-requires
yield_call-requires c = record { put = c.requires.put; narrow = (c.route_of.ensures.yield c.in-Yield.is).1 }

pub general_at-requires : goal.general_at-requires
general_at-requires c = c.requires.put

pub shape_of-stack-in-Resume : goal.shape_of-stack-in-Resume
shape_of-stack-in-Resume c = c.resume_call.auto.stack

pub shape_of-frames-in-Resume : goal.shape_of-frames-in-Resume
shape_of-frames-in-Resume c = c.resume_call.auto.frames

pub shape_of-chain-in-Resume : goal.shape_of-chain-in-Resume
shape_of-chain-in-Resume c = c.resume_call.auto.chain

pub shape_of-slots-in-Resume : goal.shape_of-slots-in-Resume
shape_of-slots-in-Resume c = c.resume_call.auto.slots

pub shape_of-saved_stack-in-Resume : goal.shape_of-saved_stack-in-Resume
shape_of-saved_stack-in-Resume c = c.resume_call.auto.saved_stack

pub shape_of-saved_frames-in-Resume : goal.shape_of-saved_frames-in-Resume
shape_of-saved_frames-in-Resume c = c.resume_call.auto.saved_frames

pub shape_of-ready-in-Resume : goal.shape_of-ready-in-Resume
shape_of-ready-in-Resume c = c.resume_call.auto.ready

pub shape_of-finalize-in-Resume : goal.shape_of-finalize-in-Resume
shape_of-finalize-in-Resume c = c.resume_call.auto.finalize

pub shape_of-machine-in-Resume : goal.shape_of-machine-in-Resume
shape_of-machine-in-Resume c = c.resume_call.auto.machine

pub shape_of-fuel-in-Resume : goal.shape_of-fuel-in-Resume
shape_of-fuel-in-Resume c = c.resume_call.auto.fuel

pub shape_of-answers-in-Resume : goal.shape_of-answers-in-Resume
shape_of-answers-in-Resume c = c.resume_call.auto.answers

pub returns-in-Resume : goal.returns-in-Resume
returns-in-Resume c =
    let is = c.route_of.ensures.resume c.in-Resume.is in
    of-read (read_as c.before.before.before.before.before.before.before.before.before.before.before.before.before.before.before.before.before.before.before.before.before.before.before.before.before.before.before.before.before.before.before.before.before.before.before.before.before is.0 refl is.2) c.resume_call.ensures

pub shape_of-stack-in-Yield : goal.shape_of-stack-in-Yield
shape_of-stack-in-Yield c = c.yield_call.auto.stack

pub shape_of-frames-in-Yield : goal.shape_of-frames-in-Yield
shape_of-frames-in-Yield c = c.yield_call.auto.frames

pub shape_of-chain-in-Yield : goal.shape_of-chain-in-Yield
shape_of-chain-in-Yield c = c.yield_call.auto.chain

pub shape_of-slots-in-Yield : goal.shape_of-slots-in-Yield
shape_of-slots-in-Yield c = c.yield_call.auto.slots

pub shape_of-saved_stack-in-Yield : goal.shape_of-saved_stack-in-Yield
shape_of-saved_stack-in-Yield c = c.yield_call.auto.saved_stack

pub shape_of-saved_frames-in-Yield : goal.shape_of-saved_frames-in-Yield
shape_of-saved_frames-in-Yield c = c.yield_call.auto.saved_frames

pub shape_of-ready-in-Yield : goal.shape_of-ready-in-Yield
shape_of-ready-in-Yield c = c.yield_call.auto.ready

pub shape_of-finalize-in-Yield : goal.shape_of-finalize-in-Yield
shape_of-finalize-in-Yield c = c.yield_call.auto.finalize

pub shape_of-machine-in-Yield : goal.shape_of-machine-in-Yield
shape_of-machine-in-Yield c = c.yield_call.auto.machine

pub shape_of-fuel-in-Yield : goal.shape_of-fuel-in-Yield
shape_of-fuel-in-Yield c = c.yield_call.auto.fuel

pub shape_of-answers-in-Yield : goal.shape_of-answers-in-Yield
shape_of-answers-in-Yield c = c.yield_call.auto.answers

pub returns-in-Yield : goal.returns-in-Yield
returns-in-Yield c =
    let is = c.route_of.ensures.yield c.in-Yield.is in
    of-read (read_as c.before.before.before.before.before.before.before.before.before.before.before.before.before.before.before.before.before.before.before.before.before.before.before.before.before.before.before.before.before.before.before.before.before.before.before.before.before is.0 is.2 is.3) c.yield_call.ensures

pub shape_of-stack-in-General : goal.shape_of-stack-in-General
shape_of-stack-in-General c = c.general_at.auto.stack

pub shape_of-frames-in-General : goal.shape_of-frames-in-General
shape_of-frames-in-General c = c.general_at.auto.frames

pub shape_of-chain-in-General : goal.shape_of-chain-in-General
shape_of-chain-in-General c = c.general_at.auto.chain

pub shape_of-slots-in-General : goal.shape_of-slots-in-General
shape_of-slots-in-General c = c.general_at.auto.slots

pub shape_of-saved_stack-in-General : goal.shape_of-saved_stack-in-General
shape_of-saved_stack-in-General c = c.general_at.auto.saved_stack

pub shape_of-saved_frames-in-General : goal.shape_of-saved_frames-in-General
shape_of-saved_frames-in-General c = c.general_at.auto.saved_frames

pub shape_of-ready-in-General : goal.shape_of-ready-in-General
shape_of-ready-in-General c = c.general_at.auto.ready

pub shape_of-finalize-in-General : goal.shape_of-finalize-in-General
shape_of-finalize-in-General c = c.general_at.auto.finalize

pub shape_of-machine-in-General : goal.shape_of-machine-in-General
shape_of-machine-in-General c = c.general_at.auto.machine

pub shape_of-fuel-in-General : goal.shape_of-fuel-in-General
shape_of-fuel-in-General c = c.general_at.auto.fuel

pub shape_of-answers-in-General : goal.shape_of-answers-in-General
shape_of-answers-in-General c = c.general_at.auto.answers

pub returns-in-General : goal.returns-in-General
returns-in-General c =
    of-read (read_as c.before.before.before.before.before.before.before.before.before.before.before.before.before.before.before.before.before.before.before.before.before.before.before.before.before.before.before.before.before.before.before.before.before.before.before.before.before refl refl refl)
    c.general_at.ensures
