-- `do_read` meets its contract: a call, or none. Assumes nothing.
use Rattle.memory_world.specs.Memory.{Lent}
use Rattle.memory_world.specs.Lendings.{plain}
use Rattle.outer_call.specs.State.{nine, state}
use Rattle.outer_run.proofs.Ended.{call-read, no_read}
use Rattle.outer_run.proofs.one.do_read.Lts as lts
use Rattle.outer_run.proofs.one.do_read.Reads as reads
use Rattle.outer_run.proofs.one.do_read.Tie as tie
use Rattle.outer_run.proofs.one.do_read.Goals as goal

abbrev Start : Type 0
Start = lts.Start tie.the-claims reads.Pre reads.Post

-- `do_read` meets its contract: a call, or none. Assumes nothing.
abbrev mem : Start → Lent
mem c = nine c.args.stack.now c.args.frames.now c.args.chain.now c.args.slots.now c.args.saved_stack.now c.args.saved_frames.now c.args.ready.now c.args.finalize.now c.args.setup.now plain

pub sound_call-requires : goal.sound_call-requires
sound_call-requires c = c.requires

pub shape_of-stack : goal.shape_of-stack
shape_of-stack c = c.sound_call.auto.stack

pub shape_of-frames : goal.shape_of-frames
shape_of-frames c = c.sound_call.auto.frames

pub shape_of-chain : goal.shape_of-chain
shape_of-chain c = c.sound_call.auto.chain

pub shape_of-slots : goal.shape_of-slots
shape_of-slots c = c.sound_call.auto.slots

pub shape_of-saved_stack : goal.shape_of-saved_stack
shape_of-saved_stack c = c.sound_call.auto.saved_stack

pub shape_of-saved_frames : goal.shape_of-saved_frames
shape_of-saved_frames c = c.sound_call.auto.saved_frames

pub shape_of-ready : goal.shape_of-ready
shape_of-ready c = c.sound_call.auto.ready

pub shape_of-finalize : goal.shape_of-finalize
shape_of-finalize c = c.sound_call.auto.finalize

pub returns-in-Ok : goal.returns-in-Ok
returns-in-Ok c =
    let a = c.args in
    call-read (state (mem c.before.before.before.before.before.before.before.before.before.before.before.before.before.before.before.before.before.before.before.before.before.before.before.before.before.before.before.before.before.before.before.before.before.before.before.before) a.m a.fuel) a.read c.in-Ok.op _ c.in-Ok.is c.sound_call.ensures

pub returns-in-Err : goal.returns-in-Err
returns-in-Err c =
    let a = c.args in
    no_read (mem c.before.before.before.before.before.before.before.before.before.before.before.before) a.m a.fuel c.requires.sound a.read c.in-Err.g c.refusal-f.result c.in-Err.is c.refusal-f.ensures
