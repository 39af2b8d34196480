-- `general_at` meets its contract: what `bvm_call_unchecked` leaves, the answer in its part. Assumes nothing.
use Prim.Native.Nat.{◌*◌}
use Rattle.memory_world.specs.Memory.{Lent}
use Rattle.memory_world.specs.Lendings.{plain}
use Rattle.memory_calls.specs.Call.{six}
use Rattle.outer_call.specs.State.{nine}
use Rattle.outer_run.proofs.Written.{part-long}
use Rattle.linked_calls.specs.Host.{Host, host}
use Rattle.linked_batch.proofs.Ones.{all_words, kept-one}
use Rattle.linked_batch.proofs.one.general_at.Lts as lts
use Rattle.linked_batch.proofs.one.general_at.Reads as reads
use Rattle.linked_batch.proofs.one.general_at.Tie as tie
use Rattle.linked_batch.proofs.one.general_at.Goals as goal

abbrev Start : Type 0
Start = lts.Start tie.the-claims reads.Pre reads.Post

-- `general_at` meets its contract: what `bvm_call_unchecked` leaves, the answer in its part. Assumes nothing.
abbrev mem : Start → Lent
mem c = nine c.args.stack.now c.args.frames.now c.args.chain.now c.args.slots.now c.args.saved_stack.now c.args.saved_frames.now c.args.ready.now c.args.finalize.now c.args.setup.now plain

abbrev of : Start → Host
of c = host (mem c) c.args.machine.now c.args.fuel.now

pub bvm_call_unchecked-requires : goal.bvm_call_unchecked-requires
bvm_call_unchecked-requires c = record { sound = c.requires.sound; room = part-long c.args.answers.now (c.args.i * 8) c.requires.room }

pub shape_of-stack : goal.shape_of-stack
shape_of-stack c = c.bvm_call_unchecked.auto.stack

pub shape_of-frames : goal.shape_of-frames
shape_of-frames c = c.bvm_call_unchecked.auto.frames

pub shape_of-chain : goal.shape_of-chain
shape_of-chain c = c.bvm_call_unchecked.auto.chain

pub shape_of-slots : goal.shape_of-slots
shape_of-slots c = c.bvm_call_unchecked.auto.slots

pub shape_of-saved_stack : goal.shape_of-saved_stack
shape_of-saved_stack c = c.bvm_call_unchecked.auto.saved_stack

pub shape_of-saved_frames : goal.shape_of-saved_frames
shape_of-saved_frames c = c.bvm_call_unchecked.auto.saved_frames

pub shape_of-ready : goal.shape_of-ready
shape_of-ready c = c.bvm_call_unchecked.auto.ready

pub shape_of-finalize : goal.shape_of-finalize
shape_of-finalize c = c.bvm_call_unchecked.auto.finalize

pub shape_of-machine : goal.shape_of-machine
shape_of-machine c = c.bvm_call_unchecked.auto.machine

pub shape_of-fuel : goal.shape_of-fuel
shape_of-fuel c = c.bvm_call_unchecked.auto.fuel

pub returns : goal.returns
returns c =
    let a = c.args in
    let w = c.ranges in
    kept-one (of c.before.before.before.before.before.before.before.before.before.before.before.before.before.before.before.before.before.before.before.before.before.before.before.before.before.before.before.before.before.before.before.before.before.before.before.before.before.before.before.before.before.before.before.before.before.before.before.before) c.requires.sound (six a.n a.a a.b a.c a.d a.e)
    (all_words a.n a.a a.b a.c a.d a.e w.n.fits w.a.fits w.b.fits w.c.fits w.d.fits w.e.fits) a.answers.now a.i c.requires.room _ _ _ c.bvm_call_unchecked.ensures
