-- `do_run` meets its contract: 14, refused, or what `run_list` leaves, in words. Assumes nothing.
use mathlib.Core.Path.{◌≡◌, sym, ◌∙◌}
use mathlib.Core.Bool.{true}
use Prim.Native.Nat.{◌≤◌, ◌*◌, ◌/◌}
use native.Mathlib.Omega.{arith}
use lib.ListN.{length}
use Rattle.memory_world.specs.Memory.{Lent}
use Rattle.memory_world.specs.Lendings.{plain}
use Rattle.outer_call.specs.State.{nine, state}
use Rattle.outer_run.proofs.Written.{enough}
use Rattle.linked_calls.specs.Host.{Host, host, passes_test}
use Rattle.linked_calls.proofs.Hosts.{long-numbers, numbers, may_read}
use Rattle.linked_calls.proofs.Others.{run_short, run-refused, run-done}
use Rattle.linked_calls.proofs.list.do_run.Lts as lts
use Rattle.linked_calls.proofs.list.do_run.Reads as reads
use Rattle.linked_calls.proofs.list.do_run.Tie as tie
use Rattle.linked_calls.proofs.list.do_run.Goals as goal

abbrev Start : Type 0
Start = lts.Start tie.the-claims reads.Pre reads.Post

abbrev Else-answers-n : Type 0
Else-answers-n = lts.Else1 tie.the-claims reads.Pre reads.Post

abbrev Else-not-ok : Type 0
Else-not-ok = lts.Else2 tie.the-claims reads.Pre reads.Post

abbrev After-run_list-did : Type 0
After-run_list-did = lts.After-run_list tie.the-claims reads.Pre reads.Post

-- `do_run` meets its contract: 14, refused, or what `run_list` leaves, in words. Assumes nothing.
abbrev mem : Start → Lent
mem c = nine c.args.stack.now c.args.frames.now c.args.chain.now c.args.slots.now c.args.saved_stack.now c.args.saved_frames.now c.args.ready.now c.args.finalize.now c.args.setup.now plain

abbrev of : Start → Host
of c = host (mem c) c.args.machine.now c.args.fuel.now

sound : (c : Else-not-ok) → passes_test (of c.before.before.before.before.before.before.before.before.before.before.before.before.before.before.before.before) ≡ true
sound c = sym c.requires ∙ c.if-not-ok.false

long : (c : Else-not-ok) → let a = c.args in (25 ≤ length a.machine.now) × (4 ≤ length a.fuel.now)
long c = long-numbers c.args.machine.now c.args.fuel.now (numbers (of c.before.before.before.before.before.before.before.before.before.before.before.before.before.before.before.before) (sound c))

room : (c : Else-answers-n) → c.count-n.result * 8 ≤ length c.args.answers.now
room c =
    let xs = c.args.answers.now in
    let h = c.if-answers-n.false in
    enough (length xs) c.count-n.result (let z : c.count-n.result ≤ length xs / 8 = omega arith in z)

abbrev left_by : After-run_list-did → Lent
left_by c = nine c.run_list-did.new.stack c.run_list-did.new.frames c.run_list-did.new.chain c.run_list-did.new.slots
    c.run_list-did.new.saved_stack c.run_list-did.new.saved_frames c.run_list-did.new.ready
    c.run_list-did.new.finalize
    c.args.setup.now plain

pub returns-then-answers-n : goal.returns-then-answers-n
returns-then-answers-n c =
    let a = c.args in
    run_short (of c.before.before.before.before.before.before.before.before.before.before.before.before.before.before.before.before.before) a.calls.now a.answers.now c.count-n.result c.count-n.ensures c.if-answers-n.true a.ok c.requires c.short.result c.short.ensures

pub refuse_list-requires : goal.refuse_list-requires
refuse_list-requires c = room c.before.before.before

pub shape_of-answers-then-not-ok : goal.shape_of-answers-then-not-ok
shape_of-answers-then-not-ok c = c.refuse_list.auto.answers

pub returns-then-not-ok : goal.returns-then-not-ok
returns-then-not-ok c =
    let a = c.args in
    run-refused (of c.before.before.before.before.before.before.before.before.before.before.before.before.before.before.before.before.before.before.before.before.before) a.calls.now a.answers.now c.count-n.result c.count-n.ensures (room c.before.before.before.before.before.before) a.ok c.requires
    c.if-not-ok.true _ c.refuse_list.ensures

pub machine_of-m-requires : goal.machine_of-m-requires
machine_of-m-requires c = (long c.before).0

pub sizes_of-sizes-requires : goal.sizes_of-sizes-requires
sizes_of-sizes-requires c = (long c.before.before).0

pub fuel_of-f-requires : goal.fuel_of-f-requires
fuel_of-f-requires c = (long c.before.before.before).1

pub run_list-did-requires : goal.run_list-did-requires
run_list-did-requires c =
    record {
      fits =
          may_read (of c.before.before.before.before.before.before.before.before.before.before.before.before.before.before.before.before.before.before.before.before.before.before.before.before.before.before.before.before.before) (sound c.before.before.before.before.before.before.before.before.before.before.before.before.before) c.machine_of-m.result c.fuel_of-f.result c.sizes_of-sizes.result c.machine_of-m.ensures c.fuel_of-f.ensures
          c.sizes_of-sizes.ensures;
      calls = c.count-n.ensures;
      room = room c.before.before.before.before.before.before.before.before.before.before.before.before.before.before;
    }

pub put_machine-requires : goal.put_machine-requires
put_machine-requires c = (long c.before.before.before.before.before.before.before.before.before.before.before.before.before.before.before.before.before.before.before.before.before.before.before.before.before.before.before.before.before.before.before.before.before.before.before).0

pub put_fuel-requires : goal.put_fuel-requires
put_fuel-requires c = (long c.before.before.before.before.before.before.before.before.before.before.before.before.before.before.before.before.before.before.before.before.before.before.before.before.before.before.before.before.before.before.before.before.before.before.before.before.before.before.before).1

pub shape_of-stack : goal.shape_of-stack
shape_of-stack c = c.run_list-did.auto.stack

pub shape_of-frames : goal.shape_of-frames
shape_of-frames c = c.run_list-did.auto.frames

pub shape_of-chain : goal.shape_of-chain
shape_of-chain c = c.run_list-did.auto.chain

pub shape_of-slots : goal.shape_of-slots
shape_of-slots c = c.run_list-did.auto.slots

pub shape_of-saved_stack : goal.shape_of-saved_stack
shape_of-saved_stack c = c.run_list-did.auto.saved_stack

pub shape_of-saved_frames : goal.shape_of-saved_frames
shape_of-saved_frames c = c.run_list-did.auto.saved_frames

pub shape_of-ready : goal.shape_of-ready
shape_of-ready c = c.run_list-did.auto.ready

pub shape_of-finalize : goal.shape_of-finalize
shape_of-finalize c = c.run_list-did.auto.finalize

pub shape_of-machine : goal.shape_of-machine
shape_of-machine c = c.put_machine.auto.ws

pub shape_of-fuel : goal.shape_of-fuel
shape_of-fuel c = c.put_fuel.auto.ws

pub shape_of-answers : goal.shape_of-answers
shape_of-answers c = c.run_list-did.auto.answers

pub returns : goal.returns
returns c =
    let a = c.args in let r = c.run_list-did.result in
    let m = c.machine_of-m.ensures in let f = c.fuel_of-f.ensures in
    run-done (of c.before.before.before.before.before.before.before.before.before.before.before.before.before.before.before.before.before.before.before.before.before.before.before.before.before.before.before.before.before.before.before.before.before.before.before.before.before.before.before.before.before.before.before.before.before.before.before.before.before.before.before.before.before.before.before.before.before.before) a.calls.now a.answers.now c.count-n.result c.count-n.ensures (room c.before.before.before.before.before.before.before.before.before.before.before.before.before.before.before.before.before.before.before.before.before.before.before.before.before.before.before.before.before.before.before.before.before.before.before.before.before.before.before.before.before.before.before) a.ok c.requires
    c.if-not-ok.false (state (mem c.before.before.before.before.before.before.before.before.before.before.before.before.before.before.before.before.before.before.before.before.before.before.before.before.before.before.before.before.before.before.before.before.before.before.before.before.before.before.before.before.before.before.before.before.before.before.before.before.before.before.before.before.before.before.before.before.before.before) c.machine_of-m.result c.fuel_of-f.result) (state (left_by c.before.before.before.before.before.before.before.before.before.before.before.before.before.before.before.before.before.before.before.before.before.before.before.before.before.before.before.before.before) r.machine r.fuel) (λ i. state (mem c.before.before.before.before.before.before.before.before.before.before.before.before.before.before.before.before.before.before.before.before.before.before.before.before.before.before.before.before.before.before.before.before.before.before.before.before.before.before.before.before.before.before.before.before.before.before.before.before.before.before.before.before.before.before.before.before.before.before) (m i) (f i)) _ _ _
    c.run_list-did.ensures c.put_machine.ensures c.put_fuel.ensures
