-- `do_call` meets its contract: refused, or what `do_read` leaves, in words. Assumes nothing.
use mathlib.Core.Path.{◌≡◌, sym, ◌∙◌}
use mathlib.Core.Bool.{true}
use Prim.Native.Nat.{◌≤◌}
use lib.ListN.{length}
use Rattle.memory_world.specs.Memory.{Lent}
use Rattle.memory_world.specs.Lendings.{plain}
use Rattle.outer_call.specs.State.{nine}
use Rattle.memory_calls.specs.Call.{op_of}
use Rattle.linked_calls.specs.Host.{Host, host, passes_test, gave}
use Rattle.linked_calls.proofs.Hosts.{long-numbers, numbers, may_read, left_in, done, refused}
use Rattle.linked_calls.proofs.call.do_call.Lts as lts
use Rattle.linked_calls.proofs.call.do_call.Reads as reads
use Rattle.linked_calls.proofs.call.do_call.Tie as tie
use Rattle.linked_calls.proofs.call.do_call.Goals as goal

abbrev Start : Type 0
Start = lts.Start tie.the-claims reads.Pre reads.Post

abbrev Else-not-ok : Type 0
Else-not-ok = lts.Else1 tie.the-claims reads.Pre reads.Post

abbrev After-do_read-did : Type 0
After-do_read-did = lts.After-do_read tie.the-claims reads.Pre reads.Post

-- `do_call` meets its contract: refused, or what `do_read` leaves, in words. Assumes nothing.
abbrev mem : Start → Lent
mem c = nine c.args.stack.now c.args.frames.now c.args.chain.now c.args.slots.now c.args.saved_stack.now c.args.saved_frames.now c.args.ready.now c.args.finalize.now c.args.setup.now plain

abbrev of : Start → Host
of c = host (mem c) c.args.machine.now c.args.fuel.now

abbrev left_by : After-do_read-did → Lent
left_by c = nine c.do_read-did.new.stack c.do_read-did.new.frames c.do_read-did.new.chain c.do_read-did.new.slots
    c.do_read-did.new.saved_stack c.do_read-did.new.saved_frames c.do_read-did.new.ready
    c.do_read-did.new.finalize c.args.setup.now plain

sound : (c : Else-not-ok) → passes_test (of c.before.before.before.before.before.before.before.before.before.before.before.before.before.before) ≡ true
sound c = sym c.requires.known ∙ c.if-not-ok.false

long : (c : Else-not-ok) → let a = c.args in (25 ≤ length a.machine.now) × (4 ≤ length a.fuel.now)
long c = let a = c.args in long-numbers a.machine.now a.fuel.now (numbers (of c.before.before.before.before.before.before.before.before.before.before.before.before.before.before) (sound c))

pub tell-requires : goal.tell-requires
tell-requires c = c.requires.room

pub shape_of-answer-then-not-ok : goal.shape_of-answer-then-not-ok
shape_of-answer-then-not-ok c = c.tell.auto.answer

pub returns-then-not-ok : goal.returns-then-not-ok
returns-then-not-ok c =
    let a = c.args in
    refused (of c.before.before.before.before.before.before.before.before.before.before.before.before.before.before.before.before.before.before.before) (op_of a.call.now) a.answer.now _ a.ok c.if-not-ok.true (λ i. gave (of c.before.before.before.before.before.before.before.before.before.before.before.before.before.before.before.before.before.before.before) (c.tell.ensures.0 i) (c.tell.ensures.1 i))

pub machine_of-m-requires : goal.machine_of-m-requires
machine_of-m-requires c = (long c.before).0

pub sizes_of-sizes-requires : goal.sizes_of-sizes-requires
sizes_of-sizes-requires c = (long c.before.before).0

pub fuel_of-f-requires : goal.fuel_of-f-requires
fuel_of-f-requires c = (long c.before.before.before).1

pub do_read-did-requires : goal.do_read-did-requires
do_read-did-requires c =
    may_read (of c.before.before.before.before.before.before.before.before.before.before.before.before.before.before.before.before.before.before.before.before.before.before.before.before.before.before.before) (sound c.before.before.before.before.before.before.before.before.before.before.before.before.before) c.machine_of-m.result c.fuel_of-f.result c.sizes_of-sizes.result
    c.machine_of-m.ensures c.fuel_of-f.ensures c.sizes_of-sizes.ensures

pub put_machine-requires : goal.put_machine-requires
put_machine-requires c = (long c.before.before.before.before.before.before.before.before.before.before.before.before.before.before.before.before.before.before.before.before.before.before.before.before.before.before.before.before.before.before.before.before.before).0

pub put_fuel-requires : goal.put_fuel-requires
put_fuel-requires c = (long c.before.before.before.before.before.before.before.before.before.before.before.before.before.before.before.before.before.before.before.before.before.before.before.before.before.before.before.before.before.before.before.before.before.before.before.before.before).1

pub tell-requires-2 : goal.tell-requires-2
tell-requires-2 c = c.requires.room

pub shape_of-stack : goal.shape_of-stack
shape_of-stack c = c.do_read-did.auto.stack

pub shape_of-frames : goal.shape_of-frames
shape_of-frames c = c.do_read-did.auto.frames

pub shape_of-chain : goal.shape_of-chain
shape_of-chain c = c.do_read-did.auto.chain

pub shape_of-slots : goal.shape_of-slots
shape_of-slots c = c.do_read-did.auto.slots

pub shape_of-saved_stack : goal.shape_of-saved_stack
shape_of-saved_stack c = c.do_read-did.auto.saved_stack

pub shape_of-saved_frames : goal.shape_of-saved_frames
shape_of-saved_frames c = c.do_read-did.auto.saved_frames

pub shape_of-ready : goal.shape_of-ready
shape_of-ready c = c.do_read-did.auto.ready

pub shape_of-finalize : goal.shape_of-finalize
shape_of-finalize c = c.do_read-did.auto.finalize

pub shape_of-machine : goal.shape_of-machine
shape_of-machine c = c.put_machine.auto.ws

pub shape_of-fuel : goal.shape_of-fuel
shape_of-fuel c = c.put_fuel.auto.ws

pub shape_of-answer : goal.shape_of-answer
shape_of-answer c = c.tell-2.auto.answer

pub returns : goal.returns
returns c =
    let a = c.args in let r = op_of a.call.now in
    done (of c.before.before.before.before.before.before.before.before.before.before.before.before.before.before.before.before.before.before.before.before.before.before.before.before.before.before.before.before.before.before.before.before.before.before.before.before.before.before.before.before.before.before.before.before.before.before.before.before.before.before.before.before.before.before.before.before.before.before) r a.answer.now _ a.ok c.if-not-ok.false
    (left_in (of c.before.before.before.before.before.before.before.before.before.before.before.before.before.before.before.before.before.before.before.before.before.before.before.before.before.before.before.before.before.before.before.before.before.before.before.before.before.before.before.before.before.before.before.before.before.before.before.before.before.before.before.before.before.before.before.before.before.before) r a.answer.now c.machine_of-m.result c.fuel_of-f.result c.op_of-read.result (left_by c.before.before.before.before.before.before.before.before.before.before.before.before.before.before.before.before.before.before.before.before.before.before.before.before.before.before.before.before.before.before.before) c.do_read-did.result _ _ _ c.tell-2.result
    c.machine_of-m.ensures c.fuel_of-f.ensures c.op_of-read.ensures c.do_read-did.ensures
    c.put_machine.ensures c.put_fuel.ensures c.tell-2.ensures.0 c.tell-2.ensures.1)
