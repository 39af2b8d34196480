-- `bvm_call_unchecked` meets its contract. Assumes nothing.
use mathlib.Core.Path.{sym, ◌∙◌}
use Rattle.lists.specs.Pick.{pick_true}
use Rattle.linked_calls.proofs.call.bvm_call_unchecked.Goals as goal

pub do_call-requires : goal.do_call-requires
do_call-requires c = record { known = sym c.requires.sound; room = c.requires.room }

pub shape_of-stack : goal.shape_of-stack
shape_of-stack c = c.do_call.auto.stack

pub shape_of-frames : goal.shape_of-frames
shape_of-frames c = c.do_call.auto.frames

pub shape_of-chain : goal.shape_of-chain
shape_of-chain c = c.do_call.auto.chain

pub shape_of-slots : goal.shape_of-slots
shape_of-slots c = c.do_call.auto.slots

pub shape_of-saved_stack : goal.shape_of-saved_stack
shape_of-saved_stack c = c.do_call.auto.saved_stack

pub shape_of-saved_frames : goal.shape_of-saved_frames
shape_of-saved_frames c = c.do_call.auto.saved_frames

pub shape_of-ready : goal.shape_of-ready
shape_of-ready c = c.do_call.auto.ready

pub shape_of-finalize : goal.shape_of-finalize
shape_of-finalize c = c.do_call.auto.finalize

pub shape_of-machine : goal.shape_of-machine
shape_of-machine c = c.do_call.auto.machine

pub shape_of-fuel : goal.shape_of-fuel
shape_of-fuel c = c.do_call.auto.fuel

pub shape_of-answer : goal.shape_of-answer
shape_of-answer c = c.do_call.auto.answer

pub returns : goal.returns
returns c = c.do_call.ensures ∙ pick_true _ _
