-- `do_list` meets its contract: what is left, done to the present, is the whole done to the start. Assumes nothing.
use mathlib.Core.Path.{refl}
use Prim.Native.Nat.{◌-◌}
use native.Mathlib.Omega.{arith}
use Rattle.memory_world.specs.Lendings.{plain}
use Rattle.outer_call.specs.State.{nine}
use Rattle.outer_run.proofs.Written.{in-calls}
use Rattle.linked_calls.specs.Host.{Host, host}
use Rattle.linked_batch.proofs.Going.{going_start, going_more, going_end}
use Rattle.linked_batch.proofs.list.do_list.Lts as lts
use Rattle.linked_batch.proofs.list.do_list.Reads as reads
use Rattle.linked_batch.proofs.list.do_list.Tie as tie
use Rattle.linked_batch.proofs.list.do_list.Goals as goal

abbrev Start : Type 0
Start = lts.Start tie.the-claims reads.Pre reads.Post goal.the-invariant-loop-i goal.the-decreases-loop-i

abbrev At-loop-i : Type 0
At-loop-i = lts.At-loop tie.the-claims reads.Pre reads.Post goal.the-invariant-loop-i goal.the-decreases-loop-i

abbrev After-one : Type 0
After-one = lts.After-one tie.the-claims reads.Pre reads.Post goal.the-invariant-loop-i goal.the-decreases-loop-i

abbrev at-start : Start → Host
at-start c =
    let a = c.args in
    host (nine a.stack.now a.frames.now a.chain.now a.slots.now a.saved_stack.now a.saved_frames.now a.ready.now a.finalize.now a.setup.now plain)
    a.machine.now a.fuel.now

abbrev at-loop : At-loop-i → Host
at-loop c =
    let a = c.loop-i in
    host (nine a.stack a.frames a.chain a.slots a.saved_stack a.saved_frames a.ready a.finalize c.args.setup.now plain) a.machine a.fuel

abbrev left_by : After-one → Host
left_by c =
    let s = c.one.new in
    host (nine s.stack s.frames s.chain s.slots s.saved_stack s.saved_frames s.ready s.finalize
    c.args.setup.now plain) s.machine s.fuel

pub loop-i-init : goal.loop-i-init
loop-i-init c =
    let a = c.args in
    going_start (at-start c.before.before.before.before.before.before.before.before.before.before.before.before.before.before) a.calls.now a.answers.now a.n c.requires

pub one-requires : goal.one-requires
one-requires c =
    let t = c.loop-i-test.true in let r = c.requires.room in let k = c.loop-i.invariant.along.long in
    record { put = record { sound = c.loop-i.invariant.sound; room = omega (arith, t, r, k) }; call = in-calls c.args.calls.now c.loop-i.i c.args.n c.requires.calls t }

pub overflow_step-i : goal.overflow_step-i
overflow_step-i c = let t = c.loop-i-test.true in omega (arith, t)

pub loop-i-smaller : goal.loop-i-smaller
loop-i-smaller c = let t = c.loop-i-test.true in omega (arith, t)

pub loop-i-preserved : goal.loop-i-preserved
loop-i-preserved c =
    let a = c.args in let k = c.one.auto in
    going_more (at-start c.before.before.before.before.before.before.before.before.before.before.before.before.before.before.before.before.before.before.before.before.before.before.before.before.before.before.before.before.before.before.before.before.before.before.before.before.before.before.before.before.before.before.before.before.before.before.before.before.before.before) a.calls.now a.answers.now a.n (at-loop c.before.before.before.before.before.before.before.before.before.before.before.before.before.before.before.before.before.before.before.before.before.before.before.before.before.before.before.before.before.before.before.before.before.before.before.before) c.loop-i.answers c.loop-i.i c.loop-i.invariant c.loop-i-test.true c.requires.room
    (left_by c.before.before.before.before.before.before.before.before.before.before.before.before.before.before.before.before.before.before.before.before.before.before.before) _ c.one.ensures
    (record { stack = k.stack; frames = k.frames; chain = k.chain; slots = k.slots; saved_stack = k.saved_stack; saved_frames = k.saved_frames; ready = k.ready; finalize = k.finalize; setup = refl })
    refl k.machine k.fuel k.answers

pub returns : goal.returns
returns c =
    let a = c.args in let t = c.loop-i-test.false in
    going_end (at-start c.before.before.before.before.before.before.before.before.before.before.before.before.before.before.before.before) a.calls.now a.answers.now a.n (at-loop c.before.before) c.loop-i.answers c.loop-i.i c.loop-i.invariant (omega (arith, t))
