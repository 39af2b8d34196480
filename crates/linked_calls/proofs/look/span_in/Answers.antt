-- `span_in` meets its contract: the part's length gives the span. Assumes nothing.
use Prim.Native.Nat.{◌-◌, ◌≤◌}
use lib.ListN.{length}
use Rattle.memory_world.specs.Memory.{Lent}
use Rattle.memory_world.specs.Lendings.{plain}
use Rattle.outer_call.specs.State.{nine}
use Rattle.linked_calls.specs.Host.{Host, host, Spans}
use Rattle.linked_calls.proofs.Hosts.{long-numbers, numbers}
use Rattle.linked_calls.proofs.Others.{may-see, spans}
use Rattle.linked_calls.proofs.look.span_in.Lts as lts
use Rattle.linked_calls.proofs.look.span_in.Reads as reads
use Rattle.linked_calls.proofs.look.span_in.Tie as tie
use Rattle.linked_calls.proofs.look.span_in.Goals as goal

abbrev Start : Type 0
Start = lts.Start tie.the-claims reads.Pre reads.Post

abbrev After-seen-part : Type 0
After-seen-part = lts.After-seen tie.the-claims reads.Pre reads.Post

-- `span_in` meets its contract: the part's length gives the span. Assumes nothing.
abbrev mem : Start → Lent
mem c = nine c.args.stack.now c.args.frames.now c.args.chain.now c.args.slots.now c.args.saved_stack.now c.args.saved_frames.now c.args.ready.now c.args.finalize.now c.args.setup.now plain

abbrev of : Start → Host
of c = host (mem c) c.args.machine.now c.args.fuel.now

wide : (c : Start) → (25 ≤ length c.args.machine.now) × (4 ≤ length c.args.fuel.now)
wide c = long-numbers c.args.machine.now c.args.fuel.now (numbers (of c) c.requires)

told : (c : After-seen-part) → let m = c.machine_of-m.result in let xs = c.seen-part.result.now in
    (length xs ≤ m.height) × Spans (of c.before.before.before.before.before.before.before.before.before.before.before.before.before.before) (record { start = m.height - length xs; end = m.height })
told c =
    spans (of c.before.before.before.before.before.before.before.before.before.before.before.before.before.before) c.requires c.machine_of-m.result c.fuel_of-f.result c.machine_of-m.ensures c.fuel_of-f.ensures c.seen-part.result.now c.seen-part.ensures

pub machine_of-m-requires : goal.machine_of-m-requires
machine_of-m-requires c = (wide c.before.before.before.before.before.before.before.before.before.before.before.before).0

pub fuel_of-f-requires : goal.fuel_of-f-requires
fuel_of-f-requires c = (wide c.before.before.before.before.before.before.before.before.before.before.before.before.before).1

pub seen-part-requires : goal.seen-part-requires
seen-part-requires c = may-see (of c.before.before.before.before.before.before.before.before.before.before.before.before.before.before) c.requires c.machine_of-m.result c.fuel_of-f.result c.machine_of-m.ensures c.fuel_of-f.ensures

pub overflow_sub-result : goal.overflow_sub-result
overflow_sub-result c = (told c.before.before).0

pub returns : goal.returns
returns c = (told c.before.before).1
