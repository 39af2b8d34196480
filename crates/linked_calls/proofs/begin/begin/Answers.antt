-- `begin` meets its contract: refused, or a fresh machine in words. Assumes nothing.
use mathlib.Core.Path.{◌∙◌}
use native.Mathlib.Omega.{arith}
use Rattle.memory_world.specs.Memory.{Lent}
use Rattle.memory_world.specs.Lendings.{plain}
use Rattle.outer_call.specs.State.{nine}
use Rattle.linked_calls.specs.Host.{Host, host}
use Rattle.linked_calls.proofs.Others.{Tried, accepted, fits-given, begin-refused, begin-done}
use Rattle.linked_calls.proofs.begin.begin.Lts as lts
use Rattle.linked_calls.proofs.begin.begin.Reads as reads
use Rattle.linked_calls.proofs.begin.begin.Tie as tie
use Rattle.linked_calls.proofs.begin.begin.Goals as goal

abbrev Start : Type 0
Start = lts.Start tie.the-claims reads.Pre reads.Post

abbrev After-set_up-did : Type 0
After-set_up-did = lts.After-set_up tie.the-claims reads.Pre reads.Post

abbrev After-tell-n : Type 0
After-tell-n = lts.After-tell tie.the-claims reads.Pre reads.Post

-- `begin` meets its contract: refused, or a fresh machine in words. Assumes nothing.
abbrev mem : Start → Lent
mem c = nine c.args.stack.now c.args.frames.now c.args.chain.now c.args.slots.now c.args.saved_stack.now c.args.saved_frames.now c.args.ready.now c.args.finalize.now c.args.setup.now plain

abbrev of : Start → Host
of c = host (mem c) c.args.machine.now c.args.fuel.now

abbrev left_by : After-set_up-did → Lent
left_by c = nine c.set_up-did.new.stack c.set_up-did.new.frames c.set_up-did.new.chain c.set_up-did.new.slots
    c.set_up-did.new.saved_stack c.set_up-did.new.saved_frames c.set_up-did.new.ready
    c.set_up-did.new.finalize c.set_up-did.new.setup plain

tried : (c : After-tell-n) → Tried (of c.before.before.before.before.before.before.before.before.before.before.before.before.before.before.before.before.before.before.before.before.before.before.before.before.before.before.before.before.before.before.before.before.before.before.before.before.before.before.before.before.before.before.before.before.before.before.before) c.args.given.now (left_by c.before.before.before.before.before.before.before.before.before.before.before.before.before.before.before.before.before.before.before.before.before.before) c.set_up-did.result c.tell-n.result
tried c =
    record {
      machine = c.machine_of-m.result;
      fuel = c.fuel_of-f.result;
      machine-is = c.machine_of-m.ensures;
      fuel-is = c.fuel_of-f.ensures;
      did = c.set_up-did.ensures;
      told = c.tell-n.ensures.1;
    }

pub machine_of-m-requires : goal.machine_of-m-requires
machine_of-m-requires c = c.requires.machine

pub fuel_of-f-requires : goal.fuel_of-f-requires
fuel_of-f-requires c = c.requires.fuel

pub tell-n-requires : goal.tell-n-requires
tell-n-requires c = c.requires.answer

pub shape_of-stack-then-n-ne0 : goal.shape_of-stack-then-n-ne0
shape_of-stack-then-n-ne0 c = c.set_up-did.auto.stack

pub shape_of-frames-then-n-ne0 : goal.shape_of-frames-then-n-ne0
shape_of-frames-then-n-ne0 c = c.set_up-did.auto.frames

pub shape_of-chain-then-n-ne0 : goal.shape_of-chain-then-n-ne0
shape_of-chain-then-n-ne0 c = c.set_up-did.auto.chain

pub shape_of-slots-then-n-ne0 : goal.shape_of-slots-then-n-ne0
shape_of-slots-then-n-ne0 c = c.set_up-did.auto.slots

pub shape_of-saved_stack-then-n-ne0 : goal.shape_of-saved_stack-then-n-ne0
shape_of-saved_stack-then-n-ne0 c = c.set_up-did.auto.saved_stack

pub shape_of-saved_frames-then-n-ne0 : goal.shape_of-saved_frames-then-n-ne0
shape_of-saved_frames-then-n-ne0 c = c.set_up-did.auto.saved_frames

pub shape_of-ready-then-n-ne0 : goal.shape_of-ready-then-n-ne0
shape_of-ready-then-n-ne0 c = c.set_up-did.auto.ready

pub shape_of-finalize-then-n-ne0 : goal.shape_of-finalize-then-n-ne0
shape_of-finalize-then-n-ne0 c = c.set_up-did.auto.finalize

pub shape_of-setup-then-n-ne0 : goal.shape_of-setup-then-n-ne0
shape_of-setup-then-n-ne0 c = c.set_up-did.auto.setup

pub shape_of-answer-then-n-ne0 : goal.shape_of-answer-then-n-ne0
shape_of-answer-then-n-ne0 c = c.tell-n.auto.answer

pub returns-then-n-ne0 : goal.returns-then-n-ne0
returns-then-n-ne0 c = begin-refused (of c.before.before.before.before.before.before.before.before.before.before.before.before.before.before.before.before.before.before.before.before.before.before.before.before.before.before.before.before.before.before.before.before.before.before.before.before.before.before.before.before.before.before.before.before.before.before.before.before.before.before.before) c.args.given.now c.args.answer.now (tried c.before.before.before.before) c.if-n-ne0.true _ c.tell-n.ensures.0

pub sizes-sizes-requires : goal.sizes-sizes-requires
sizes-sizes-requires c =
    let a = c.args in
    fits-given (of c.before.before.before.before.before.before.before.before.before.before.before.before.before.before.before.before.before.before.before.before.before.before.before.before.before.before.before.before.before.before.before.before.before.before.before.before.before.before.before.before.before.before.before.before.before.before.before.before.before.before.before) a.given.now a.answer.now (accepted (of c.before.before.before.before.before.before.before.before.before.before.before.before.before.before.before.before.before.before.before.before.before.before.before.before.before.before.before.before.before.before.before.before.before.before.before.before.before.before.before.before.before.before.before.before.before.before.before.before.before.before.before) a.given.now a.answer.now (tried c.before.before.before.before) c.if-n-ne0.false)

pub put_machine-requires : goal.put_machine-requires
put_machine-requires c = c.requires.machine

pub put_sizes-requires : goal.put_sizes-requires
put_sizes-requires c = let k = c.put_machine.auto.ws in let h = c.requires.machine in omega arith

pub put_fuel-requires : goal.put_fuel-requires
put_fuel-requires c = c.requires.fuel

pub shape_of-stack : goal.shape_of-stack
shape_of-stack c = c.set_up-did.auto.stack

pub shape_of-frames : goal.shape_of-frames
shape_of-frames c = c.set_up-did.auto.frames

pub shape_of-chain : goal.shape_of-chain
shape_of-chain c = c.set_up-did.auto.chain

pub shape_of-slots : goal.shape_of-slots
shape_of-slots c = c.set_up-did.auto.slots

pub shape_of-saved_stack : goal.shape_of-saved_stack
shape_of-saved_stack c = c.set_up-did.auto.saved_stack

pub shape_of-saved_frames : goal.shape_of-saved_frames
shape_of-saved_frames c = c.set_up-did.auto.saved_frames

pub shape_of-ready : goal.shape_of-ready
shape_of-ready c = c.set_up-did.auto.ready

pub shape_of-finalize : goal.shape_of-finalize
shape_of-finalize c = c.set_up-did.auto.finalize

pub shape_of-setup : goal.shape_of-setup
shape_of-setup c = c.set_up-did.auto.setup

pub shape_of-machine : goal.shape_of-machine
shape_of-machine c = c.put_sizes.auto.ws ∙ c.put_machine.auto.ws

pub shape_of-fuel : goal.shape_of-fuel
shape_of-fuel c = c.put_fuel.auto.ws

pub shape_of-answer : goal.shape_of-answer
shape_of-answer c = c.tell-n.auto.answer

pub returns : goal.returns
returns c =
    let a = c.args in
    begin-done (of c.before.before.before.before.before.before.before.before.before.before.before.before.before.before.before.before.before.before.before.before.before.before.before.before.before.before.before.before.before.before.before.before.before.before.before.before.before.before.before.before.before.before.before.before.before.before.before.before.before.before.before.before.before.before.before.before.before.before.before.before.before.before.before.before) a.given.now a.answer.now (tried c.before.before.before.before.before.before.before.before.before.before.before.before.before.before.before.before.before) c.if-n-ne0.false c.sizes-sizes.result c.sizes-sizes.ensures.words _ _ _ _
    c.put_machine.ensures c.put_sizes.ensures c.put_fuel.ensures c.tell-n.ensures.0
