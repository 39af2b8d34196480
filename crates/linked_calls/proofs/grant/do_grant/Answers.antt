-- `do_grant` meets its contract: refused, or as `granted` says, in words. Assumes nothing.
use mathlib.Core.Path.{◌≡◌, sym, ◌∙◌}
use mathlib.Core.Bool.{true}
use Prim.Native.Nat.{◌≤◌}
use lib.ListN.{length}
use Rattle.memory_world.specs.Memory.{Lent}
use Rattle.memory_world.specs.Lendings.{plain}
use Rattle.outer_call.specs.State.{nine}
use Rattle.linked_calls.specs.Host.{Host, host, passes_test}
use Rattle.linked_calls.proofs.Hosts.{long-numbers, numbers}
use Rattle.linked_calls.proofs.Others.{grant-refused, grant-done}
use Rattle.linked_calls.proofs.grant.do_grant.Lts as lts
use Rattle.linked_calls.proofs.grant.do_grant.Reads as reads
use Rattle.linked_calls.proofs.grant.do_grant.Tie as tie
use Rattle.linked_calls.proofs.grant.do_grant.Goals as goal

abbrev Start : Type 0
Start = lts.Start tie.the-claims reads.Pre reads.Post

abbrev Else-not-ok : Type 0
Else-not-ok = lts.Else1 tie.the-claims reads.Pre reads.Post

-- `do_grant` meets its contract: refused, or as `granted` says, in words. Assumes nothing.
abbrev mem : Start → Lent
mem c = nine c.args.stack.now c.args.frames.now c.args.chain.now c.args.slots.now c.args.saved_stack.now c.args.saved_frames.now c.args.ready.now c.args.finalize.now c.args.setup.now plain

abbrev of : Start → Host
of c = host (mem c) c.args.machine.now c.args.fuel.now

sound : (c : Else-not-ok) → passes_test (of c.before.before.before.before.before.before.before.before.before.before.before.before.before) ≡ true
sound c = sym c.requires.known ∙ c.if-not-ok.false

long : (c : Else-not-ok) → let a = c.args in (25 ≤ length a.machine.now) × (4 ≤ length a.fuel.now)
long c = let a = c.args in long-numbers a.machine.now a.fuel.now (numbers (of c.before.before.before.before.before.before.before.before.before.before.before.before.before) (sound c))

pub tell-requires : goal.tell-requires
tell-requires c = c.requires.room

pub shape_of-answer-then-not-ok : goal.shape_of-answer-then-not-ok
shape_of-answer-then-not-ok c = c.tell.auto.answer

pub returns-then-not-ok : goal.returns-then-not-ok
returns-then-not-ok c =
    let a = c.args in
    grant-refused (of c.before.before.before.before.before.before.before.before.before.before.before.before.before.before.before.before.before.before) a.amount a.answer.now c.requires.room a.ok c.requires.known c.if-not-ok.true _ c.tell.result c.tell.ensures.0 c.tell.ensures.1

pub machine_of-m-requires : goal.machine_of-m-requires
machine_of-m-requires c = (long c.before).0

pub fuel_of-f-requires : goal.fuel_of-f-requires
fuel_of-f-requires c = (long c.before.before).1

pub put_fuel-requires : goal.put_fuel-requires
put_fuel-requires c = (long c.before.before.before.before.before.before).1

pub tell-requires-2 : goal.tell-requires-2
tell-requires-2 c = c.requires.room

pub shape_of-fuel : goal.shape_of-fuel
shape_of-fuel c = c.put_fuel.auto.ws

pub shape_of-answer : goal.shape_of-answer
shape_of-answer c = c.tell-2.auto.answer

pub returns : goal.returns
returns c =
    let a = c.args in
    grant-done (of c.before.before.before.before.before.before.before.before.before.before.before.before.before.before.before.before.before.before.before.before.before.before.before.before.before.before) a.amount a.answer.now c.requires.room a.ok c.requires.known
    c.if-not-ok.false
    c.machine_of-m.result c.fuel_of-f.result c.granted-did.result c.machine_of-m.ensures c.fuel_of-f.ensures
    c.granted-did.ensures _ _ c.tell-2.result c.put_fuel.ensures c.tell-2.ensures.0 c.tell-2.ensures.1
