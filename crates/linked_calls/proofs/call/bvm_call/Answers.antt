-- `bvm_call` meets its contract: by the test and by room for the answer. Assumes nothing.
use mathlib.Core.Path.{ap, ◌∙◌}
use Rattle.memory_world.specs.Memory.{Lent}
use Rattle.memory_world.specs.Lendings.{plain}
use Rattle.outer_call.specs.State.{nine}
use Rattle.memory_calls.specs.Call.{op_of}
use Rattle.linked_calls.specs.Host.{Host, host, gave, short}
use Rattle.linked_calls.proofs.Hosts.{called, too_short}
use Rattle.linked_calls.proofs.call.bvm_call.Lts as lts
use Rattle.linked_calls.proofs.call.bvm_call.Reads as reads
use Rattle.linked_calls.proofs.call.bvm_call.Tie as tie
use Rattle.linked_calls.proofs.call.bvm_call.Goals as goal

abbrev Start : Type 0
Start = lts.Start tie.the-claims reads.Pre reads.Post

-- `bvm_call` meets its contract: by the test and by room for the answer. Assumes nothing.
abbrev mem : Start → Lent
mem c = nine c.args.stack.now c.args.frames.now c.args.chain.now c.args.slots.now c.args.saved_stack.now c.args.saved_frames.now c.args.ready.now c.args.finalize.now c.args.setup.now plain

abbrev of : Start → Host
of c = host (mem c) c.args.machine.now c.args.fuel.now

pub returns-then-answer-lt-ANSWER_WIDTH : goal.returns-then-answer-lt-ANSWER_WIDTH
returns-then-answer-lt-ANSWER_WIDTH c =
    let a = c.args in
    too_short (of c.before.before.before.before.before.before.before.before.before.before.before.before.before.before.before.before.before) (op_of a.call.now) a.answer.now _ c.if-answer-lt-ANSWER_WIDTH.true (ap (gave (of c.before.before.before.before.before.before.before.before.before.before.before.before.before.before.before.before.before) a.answer.now) (c.short.ensures ∙ ap short c.tested-ok.ensures))

pub do_call-requires : goal.do_call-requires
do_call-requires c = record { known = c.tested-ok.ensures; room = c.if-answer-lt-ANSWER_WIDTH.false }

pub shape_of-stack : goal.shape_of-stack
shape_of-stack c = c.do_call.auto.stack

pub shape_of-frames : goal.shape_of-frames
shape_of-frames c = c.do_call.auto.frames

pub shape_of-chain : goal.shape_of-chain
shape_of-chain c = c.do_call.auto.chain

pub shape_of-slots : goal.shape_of-slots
shape_of-slots c = c.do_call.auto.slots

pub shape_of-saved_stack : goal.shape_of-saved_stack
shape_of-saved_stack c = c.do_call.auto.saved_stack

pub shape_of-saved_frames : goal.shape_of-saved_frames
shape_of-saved_frames c = c.do_call.auto.saved_frames

pub shape_of-ready : goal.shape_of-ready
shape_of-ready c = c.do_call.auto.ready

pub shape_of-finalize : goal.shape_of-finalize
shape_of-finalize c = c.do_call.auto.finalize

pub shape_of-machine : goal.shape_of-machine
shape_of-machine c = c.do_call.auto.machine

pub shape_of-fuel : goal.shape_of-fuel
shape_of-fuel c = c.do_call.auto.fuel

pub shape_of-answer : goal.shape_of-answer
shape_of-answer c = c.do_call.auto.answer

pub returns : goal.returns
returns c =
    let a = c.args in
    called (of c.before.before.before.before.before.before.before.before.before.before.before.before.before.before.before.before.before.before.before.before.before.before.before.before.before.before.before.before.before.before.before.before.before.before.before.before.before.before.before.before.before.before.before.before.before.before.before.before.before.before) (op_of a.call.now) a.answer.now _ c.if-answer-lt-ANSWER_WIDTH.false c.tested-ok.result c.tested-ok.ensures c.do_call.ensures
