-- `sound_call` meets its contract by that of `kept`. Assumes nothing.
use mathlib.Core.Path.{refl}
use Rattle.memory_world.specs.Memory.{Lent}
use Rattle.memory_world.specs.Lendings.{plain}
use Rattle.outer_call.specs.State.{nine}
use Rattle.outer_call.proofs.Stepping.{may-call, stepped, sound-again}
use Rattle.outer_call.proofs.call.sound_call.Lts as lts
use Rattle.outer_call.proofs.call.sound_call.Reads as reads
use Rattle.outer_call.proofs.call.sound_call.Tie as tie
use Rattle.outer_call.proofs.call.sound_call.Goals as goal

abbrev Start : Type 0
Start = lts.Start tie.the-claims reads.Pre reads.Post

abbrev After-kept : Type 0
After-kept = lts.After-kept tie.the-claims reads.Pre reads.Post

abbrev mem : Start → Lent
mem c = nine c.args.stack.now c.args.frames.now c.args.chain.now c.args.slots.now c.args.saved_stack.now c.args.saved_frames.now c.args.ready.now c.args.finalize.now c.args.setup.now plain

abbrev left_by : After-kept → Lent
left_by c = nine c.kept.new.stack c.kept.new.frames c.kept.new.chain c.kept.new.slots c.kept.new.saved_stack c.kept.new.saved_frames c.kept.new.ready c.kept.new.finalize c.args.setup.now plain

pub kept-requires : goal.kept-requires
kept-requires c = let a = c.args in may-call (mem c.before.before.before.before.before.before.before.before.before.before.before.before.before.before.before.before.before.before) a.m a.fuel a.sizes c.requires

pub shape_of-stack : goal.shape_of-stack
shape_of-stack c = c.kept.auto.stack

pub shape_of-frames : goal.shape_of-frames
shape_of-frames c = c.kept.auto.frames

pub shape_of-chain : goal.shape_of-chain
shape_of-chain c = c.kept.auto.chain

pub shape_of-slots : goal.shape_of-slots
shape_of-slots c = c.kept.auto.slots

pub shape_of-saved_stack : goal.shape_of-saved_stack
shape_of-saved_stack c = c.kept.auto.saved_stack

pub shape_of-saved_frames : goal.shape_of-saved_frames
shape_of-saved_frames c = c.kept.auto.saved_frames

pub shape_of-ready : goal.shape_of-ready
shape_of-ready c = c.kept.auto.ready

pub shape_of-finalize : goal.shape_of-finalize
shape_of-finalize c = c.kept.auto.finalize

pub returns : goal.returns
returns c =
    let a = c.args in
    let r = c.kept.result in
    let same = c.kept.auto in
    record {
      is =
          stepped (mem c.before.before.before.before.before.before.before.before.before.before.before.before.before.before.before.before.before.before.before.before.before.before.before.before.before.before.before.before.before.before.before.before.before.before.before) (left_by c.before.before.before.before.before.before.before.before.before.before.before.before.before.before.before.before.before) a.m r.machine a.fuel r.fuel a.sizes a.op r.answer c.requires
          (record {
            stack = same.stack;
            frames = same.frames;
            chain = same.chain;
            slots = same.slots;
            saved_stack = same.saved_stack;
            saved_frames = same.saved_frames;
            ready = same.ready;
            finalize = same.finalize;
            setup = refl;
          })
          c.kept.ensures.met;
      again = sound-again (left_by c.before.before.before.before.before.before.before.before.before.before.before.before.before.before.before.before.before) r.machine r.fuel a.sizes c.kept.ensures.again;
    }
