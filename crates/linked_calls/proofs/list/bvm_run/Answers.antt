-- `bvm_run` meets its contract. Assumes nothing.
use Rattle.linked_calls.proofs.list.bvm_run.Goals as goal

pub do_run-requires : goal.do_run-requires
do_run-requires c = c.tested-ok.ensures

pub shape_of-stack : goal.shape_of-stack
shape_of-stack c = c.do_run.auto.stack

pub shape_of-frames : goal.shape_of-frames
shape_of-frames c = c.do_run.auto.frames

pub shape_of-chain : goal.shape_of-chain
shape_of-chain c = c.do_run.auto.chain

pub shape_of-slots : goal.shape_of-slots
shape_of-slots c = c.do_run.auto.slots

pub shape_of-saved_stack : goal.shape_of-saved_stack
shape_of-saved_stack c = c.do_run.auto.saved_stack

pub shape_of-saved_frames : goal.shape_of-saved_frames
shape_of-saved_frames c = c.do_run.auto.saved_frames

pub shape_of-ready : goal.shape_of-ready
shape_of-ready c = c.do_run.auto.ready

pub shape_of-finalize : goal.shape_of-finalize
shape_of-finalize c = c.do_run.auto.finalize

pub shape_of-machine : goal.shape_of-machine
shape_of-machine c = c.do_run.auto.machine

pub shape_of-fuel : goal.shape_of-fuel
shape_of-fuel c = c.do_run.auto.fuel

pub shape_of-answers : goal.shape_of-answers
shape_of-answers c = c.do_run.auto.answers

pub returns : goal.returns
returns c = c.do_run.ensures
