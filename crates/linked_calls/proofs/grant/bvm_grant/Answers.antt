-- `bvm_grant` meets its contract: by the test and by room for the answer. Assumes nothing.
use Rattle.memory_world.specs.Memory.{Lent}
use Rattle.memory_world.specs.Lendings.{plain}
use Rattle.outer_call.specs.State.{nine}
use Rattle.linked_calls.specs.Host.{Host, host}
use Rattle.linked_calls.proofs.Others.{grant-short}
use Rattle.linked_calls.proofs.grant.bvm_grant.Lts as lts
use Rattle.linked_calls.proofs.grant.bvm_grant.Reads as reads
use Rattle.linked_calls.proofs.grant.bvm_grant.Tie as tie
use Rattle.linked_calls.proofs.grant.bvm_grant.Goals as goal

abbrev Start : Type 0
Start = lts.Start tie.the-claims reads.Pre reads.Post

-- `bvm_grant` meets its contract: by the test and by room for the answer. Assumes nothing.
abbrev mem : Start → Lent
mem c = nine c.args.stack.now c.args.frames.now c.args.chain.now c.args.slots.now c.args.saved_stack.now c.args.saved_frames.now c.args.ready.now c.args.finalize.now c.args.setup.now plain

abbrev of : Start → Host
of c = host (mem c) c.args.machine.now c.args.fuel.now

pub returns-then-answer-lt-ANSWER_WIDTH : goal.returns-then-answer-lt-ANSWER_WIDTH
returns-then-answer-lt-ANSWER_WIDTH c = grant-short (of c.before.before.before.before.before.before.before.before.before.before.before.before.before.before.before.before) c.args.amount c.args.answer.now c.if-answer-lt-ANSWER_WIDTH.true c.tested-ok.result c.tested-ok.ensures c.short.result c.short.ensures

pub do_grant-requires : goal.do_grant-requires
do_grant-requires c = record { known = c.tested-ok.ensures; room = c.if-answer-lt-ANSWER_WIDTH.false }

pub shape_of-fuel : goal.shape_of-fuel
shape_of-fuel c = c.do_grant.auto.fuel

pub shape_of-answer : goal.shape_of-answer
shape_of-answer c = c.do_grant.auto.answer

pub returns : goal.returns
returns c = c.do_grant.ensures
