-- `begin` meets its contract by that of `set_up`, of the set-up's own words. Assumes nothing.
use mathlib.Core.Path.{refl}
use native.Mathlib.Omega.{arith}
use Rattle.memory_world.specs.Memory.{Lent}
use Rattle.memory_world.specs.Lendings.{plain}
use Rattle.memory_world.specs.Sizes.{SetupFits}
use Rattle.outer_call.specs.State.{nine}
use Rattle.outer_call.proofs.Begun.{given-fits, is_held, own-part, fits, begun}
use Rattle.outer_call.proofs.set_up.begin.Lts as lts
use Rattle.outer_call.proofs.set_up.begin.Reads as reads
use Rattle.outer_call.proofs.set_up.begin.Tie as tie
use Rattle.outer_call.proofs.set_up.begin.Goals as goal

abbrev Start : Type 0
Start = lts.Start tie.the-claims reads.Pre reads.Post

abbrev After-set_up-machine : Type 0
After-set_up-machine = lts.After-set_up tie.the-claims reads.Pre reads.Post

-- `begin` meets its contract by that of `set_up`, of the set-up's own words. Assumes nothing.
abbrev mem : Start → Lent
mem c = nine c.args.stack.now c.args.frames.now c.args.chain.now c.args.slots.now c.args.saved_stack.now c.args.saved_frames.now c.args.ready.now c.args.finalize.now c.args.setup.now plain

abbrev left_by : After-set_up-machine → Lent
left_by c = nine c.set_up-machine.new.stack c.set_up-machine.new.frames c.set_up-machine.new.chain c.set_up-machine.new.slots
    c.set_up-machine.new.saved_stack c.set_up-machine.new.saved_frames c.set_up-machine.new.ready
    c.set_up-machine.new.finalize c.set_up-machine.new.setup plain

long : (c : Start) → SetupFits c.args.given.now
long c = given-fits c.args.given.now (is_held c.args.given.now (mem c) c.requires)

pub bounds-given-13 : goal.bounds-given-13
bounds-given-13 c = let h = (long c.before.before.before.before.before.before.before.before.before.before.before.before).numbers in omega arith

pub overflow_mul-k : goal.overflow_mul-k
overflow_mul-k c = let h = (long c.before.before.before.before.before.before.before.before.before.before.before.before).functions in omega (arith, c.well_formed)

pub overflow_add-k : goal.overflow_add-k
overflow_add-k c = let h = (long c.before.before.before.before.before.before.before.before.before.before.before.before).functions in omega (arith, c.well_formed)

pub slice_bounds-set_up-end : goal.slice_bounds-set_up-end
slice_bounds-set_up-end c = let h = (long c.before.before.before.before.before.before.before.before.before.before.before.before.before.before.before.before.before.before.before.before.before).functions in omega arith

pub set_up-machine-requires : goal.set_up-machine-requires
set_up-machine-requires c =
    let ws = c.args.given.now in
    fits ws (mem c.before.before.before.before.before.before.before.before.before.before.before.before.before.before.before.before.before.before.before.before.before.before) c.requires _ (own-part ws (is_held ws (mem c.before.before.before.before.before.before.before.before.before.before.before.before.before.before.before.before.before.before.before.before.before.before) c.requires))

pub shape_of-stack : goal.shape_of-stack
shape_of-stack c = c.set_up-machine.auto.stack

pub shape_of-frames : goal.shape_of-frames
shape_of-frames c = c.set_up-machine.auto.frames

pub shape_of-chain : goal.shape_of-chain
shape_of-chain c = c.set_up-machine.auto.chain

pub shape_of-slots : goal.shape_of-slots
shape_of-slots c = c.set_up-machine.auto.slots

pub shape_of-saved_stack : goal.shape_of-saved_stack
shape_of-saved_stack c = c.set_up-machine.auto.saved_stack

pub shape_of-saved_frames : goal.shape_of-saved_frames
shape_of-saved_frames c = c.set_up-machine.auto.saved_frames

pub shape_of-ready : goal.shape_of-ready
shape_of-ready c = c.set_up-machine.auto.ready

pub shape_of-finalize : goal.shape_of-finalize
shape_of-finalize c = c.set_up-machine.auto.finalize

pub shape_of-setup : goal.shape_of-setup
shape_of-setup c = c.set_up-machine.auto.setup

pub returns : goal.returns
returns c =
    let ws = c.args.given.now in
    let same = c.set_up-machine.auto in
    begun ws (mem c.before.before.before.before.before.before.before.before.before.before.before.before.before.before.before.before.before.before.before.before.before.before.before.before.before.before.before.before.before.before.before.before.before.before.before.before.before.before.before.before.before) c.requires (left_by c.before.before.before.before.before.before.before.before.before.before.before.before.before.before.before.before.before.before.before) c.set_up-machine.result _ _
    (record {
      stack = same.stack;
      frames = same.frames;
      chain = same.chain;
      slots = same.slots;
      saved_stack = same.saved_stack;
      saved_frames = same.saved_frames;
      ready = same.ready;
      finalize = same.finalize;
      setup = same.setup;
    })
    (own-part ws (is_held ws (mem c.before.before.before.before.before.before.before.before.before.before.before.before.before.before.before.before.before.before.before.before.before.before.before.before.before.before.before.before.before.before.before.before.before.before.before.before.before.before.before.before.before) c.requires)) refl c.set_up-machine.ensures
