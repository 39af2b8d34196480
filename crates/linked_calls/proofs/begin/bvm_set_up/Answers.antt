-- `bvm_set_up` meets its contract: no room, too few words, or by the set-up. Assumes nothing.
use mathlib.Core.Path.{refl}
use Rattle.memory_world.specs.Memory.{Lent}
use Rattle.memory_world.specs.Lendings.{plain}
use Rattle.outer_call.specs.State.{nine}
use Rattle.linked_calls.specs.Host.{Host, host}
use Rattle.linked_calls.proofs.Others.{set-up-short, short-machine, short-fuel, set-up-made}
use Rattle.linked_calls.proofs.begin.bvm_set_up.Lts as lts
use Rattle.linked_calls.proofs.begin.bvm_set_up.Reads as reads
use Rattle.linked_calls.proofs.begin.bvm_set_up.Tie as tie
use Rattle.linked_calls.proofs.begin.bvm_set_up.Goals as goal

abbrev Start : Type 0
Start = lts.Start tie.the-claims reads.Pre reads.Post

-- `bvm_set_up` meets its contract: no room, too few words, or by the set-up. Assumes nothing.
abbrev mem : Start → Lent
mem c = nine c.args.stack.now c.args.frames.now c.args.chain.now c.args.slots.now c.args.saved_stack.now c.args.saved_frames.now c.args.ready.now c.args.finalize.now c.args.setup.now plain

abbrev of : Start → Host
of c = host (mem c) c.args.machine.now c.args.fuel.now

pub returns-then-answer-lt-ANSWER_WIDTH : goal.returns-then-answer-lt-ANSWER_WIDTH
returns-then-answer-lt-ANSWER_WIDTH c =
    set-up-short (of c.before.before.before.before.before.before.before.before.before.before.before.before.before.before.before.before.before) c.args.given.now c.args.answer.now c.if-answer-lt-ANSWER_WIDTH.true c.accepts-ok.result
    (c.accepts-ok.ensures (of c.before.before.before.before.before.before.before.before.before.before.before.before.before.before.before.before.before) (record { words = refl; machine = refl; fuel = refl })) c.short.result c.short.ensures

pub tell-requires : goal.tell-requires
tell-requires c = c.if-answer-lt-ANSWER_WIDTH.false

pub shape_of-answer-then-machine-lt-MACHINE_WIDTH : goal.shape_of-answer-then-machine-lt-MACHINE_WIDTH
shape_of-answer-then-machine-lt-MACHINE_WIDTH c = c.tell.auto.answer

pub returns-then-machine-lt-MACHINE_WIDTH : goal.returns-then-machine-lt-MACHINE_WIDTH
returns-then-machine-lt-MACHINE_WIDTH c = short-machine (of c.before.before.before.before.before.before.before.before.before.before.before.before.before.before.before.before.before.before.before.before) c.args.given.now c.args.answer.now c.if-answer-lt-ANSWER_WIDTH.false c.if-machine-lt-MACHINE_WIDTH.true _ c.tell.result c.tell.ensures.0 c.tell.ensures.1

pub tell-requires-then-fuel-lt-FUEL_WIDTH : goal.tell-requires-then-fuel-lt-FUEL_WIDTH
tell-requires-then-fuel-lt-FUEL_WIDTH c = c.if-answer-lt-ANSWER_WIDTH.false

pub shape_of-answer-then-fuel-lt-FUEL_WIDTH : goal.shape_of-answer-then-fuel-lt-FUEL_WIDTH
shape_of-answer-then-fuel-lt-FUEL_WIDTH c = c.tell-then-fuel-lt-FUEL_WIDTH.auto.answer

pub returns-then-fuel-lt-FUEL_WIDTH : goal.returns-then-fuel-lt-FUEL_WIDTH
returns-then-fuel-lt-FUEL_WIDTH c =
    short-fuel (of c.before.before.before.before.before.before.before.before.before.before.before.before.before.before.before.before.before.before.before.before.before) c.args.given.now c.args.answer.now c.if-answer-lt-ANSWER_WIDTH.false
    c.if-machine-lt-MACHINE_WIDTH.false c.if-fuel-lt-FUEL_WIDTH.true _ c.tell-then-fuel-lt-FUEL_WIDTH.result
    c.tell-then-fuel-lt-FUEL_WIDTH.ensures.0 c.tell-then-fuel-lt-FUEL_WIDTH.ensures.1

pub begin-requires : goal.begin-requires
begin-requires c = record { machine = c.if-machine-lt-MACHINE_WIDTH.false; fuel = c.if-fuel-lt-FUEL_WIDTH.false; answer = c.if-answer-lt-ANSWER_WIDTH.false }

pub shape_of-stack : goal.shape_of-stack
shape_of-stack c = c.begin.auto.stack

pub shape_of-frames : goal.shape_of-frames
shape_of-frames c = c.begin.auto.frames

pub shape_of-chain : goal.shape_of-chain
shape_of-chain c = c.begin.auto.chain

pub shape_of-slots : goal.shape_of-slots
shape_of-slots c = c.begin.auto.slots

pub shape_of-saved_stack : goal.shape_of-saved_stack
shape_of-saved_stack c = c.begin.auto.saved_stack

pub shape_of-saved_frames : goal.shape_of-saved_frames
shape_of-saved_frames c = c.begin.auto.saved_frames

pub shape_of-ready : goal.shape_of-ready
shape_of-ready c = c.begin.auto.ready

pub shape_of-finalize : goal.shape_of-finalize
shape_of-finalize c = c.begin.auto.finalize

pub shape_of-setup : goal.shape_of-setup
shape_of-setup c = c.begin.auto.setup

pub shape_of-machine : goal.shape_of-machine
shape_of-machine c = c.begin.auto.machine

pub shape_of-fuel : goal.shape_of-fuel
shape_of-fuel c = c.begin.auto.fuel

pub shape_of-answer : goal.shape_of-answer
shape_of-answer c = c.begin.auto.answer

pub returns : goal.returns
returns c =
    set-up-made (of c.before.before.before.before.before.before.before.before.before.before.before.before.before.before.before.before.before.before.before.before.before.before.before.before.before.before.before.before.before.before.before.before.before.before.before.before.before.before.before.before.before.before.before.before.before.before.before.before.before.before.before.before.before.before) c.args.given.now c.args.answer.now
    c.if-answer-lt-ANSWER_WIDTH.false
    c.if-machine-lt-MACHINE_WIDTH.false
    c.if-fuel-lt-FUEL_WIDTH.false _
    c.begin.ensures
