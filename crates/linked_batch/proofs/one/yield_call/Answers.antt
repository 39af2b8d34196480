-- `yield_call` meets its contract: a suspension done on the words, or what any call does. Assumes nothing.
use mathlib.Core.Path.{refl}
use native.Mathlib.Omega.{arith}
use Rattle.lists.specs.Parts.{splice}
use Rattle.model.specs.declared.call.Op.{Op}
use Rattle.memory_world.specs.Memory.{Lent}
use Rattle.memory_world.specs.Lendings.{plain}
use Rattle.memory_calls.specs.Answer.{answer_words}
use Rattle.outer_call.specs.State.{nine}
use Rattle.linked_calls.specs.Host.{Host, host}
use Rattle.linked_switch.specs.Went.{goes_on}
use Rattle.linked_switch.proofs.Hosts.{long, holds, leaves-fit, went-in}
use Rattle.linked_batch.proofs.Ones.{all_words, blank, switch-one, low, yield-typed}
use Rattle.linked_batch.proofs.one.yield_call.Lts as lts
use Rattle.linked_batch.proofs.one.yield_call.Reads as reads
use Rattle.linked_batch.proofs.one.yield_call.Tie as tie
use Rattle.linked_batch.proofs.one.yield_call.Goals as goal

abbrev Start : Type 0
Start = lts.Start tie.the-claims reads.Pre reads.Post

-- `yield_call` meets its contract: a suspension done on the words, or what any call does. Assumes nothing.
abbrev mem : Start → Lent
mem c =
    let a = c.args in
    nine a.stack.now a.frames.now a.chain.now a.slots.now a.saved_stack.now a.saved_frames.now a.ready.now a.finalize.now a.setup.now plain

abbrev of : Start → Host
of c = host (mem c) c.args.machine.now c.args.fuel.now

pub bounds-fuel-0 : goal.bounds-fuel-0
bounds-fuel-0 c = let h = (long (of c.before.before.before.before.before.before.before.before.before.before.before.before.before.before) c.requires.put.sound).1 in omega (arith, h)

pub may_leave-requires : goal.may_leave-requires
may_leave-requires c = leaves-fit (of c.before.before.before.before.before.before.before.before.before.before.before.before.before.before) c.requires.put.sound

pub yield_at-requires : goal.yield_at-requires
yield_at-requires c = record { held = holds (of c.before.before.before.before.before.before.before.before.before.before.before.before.before.before.before.before.before.before.before.before.before.before.before.before) c.requires.put.sound c.args.pc c.requires.narrow; leavable = c.may_leave.ensures.at _ c.in-Some.is }

pub goes_on_at-requires : goal.goes_on_at-requires
goes_on_at-requires c = c.requires.put.room

pub general_at-requires : goal.general_at-requires
general_at-requires c = c.requires.put

pub returns-in-Some : goal.returns-in-Some
returns-in-Some c =
    let a = c.args in
    let sure = c.requires.put.sound in let may = c.may_leave.ensures.at _ c.in-Some.is in
    let k = c.yield_at.auto in let s = c.yield_at.new in let w = c.ranges in
    let short = low (of c.before.before.before.before.before.before.before.before.before.before.before.before.before.before.before.before.before.before.before.before.before.before.before.before.before.before.before.before.before.before.before.before.before.before.before.before.before.before.before.before.before.before.before.before.before) sure in let op = Op.Yield a.pc a.dst a.src in
    switch-one (of c.before.before.before.before.before.before.before.before.before.before.before.before.before.before.before.before.before.before.before.before.before.before.before.before.before.before.before.before.before.before.before.before.before.before.before.before.before.before.before.before.before.before.before.before.before) sure op (yield-typed a.pc a.dst a.src c.requires.narrow (omega (arith, short, may.dst-in)) (omega (arith, short, may.src-in)))
    (all_words 3 a.pc a.dst a.src 0 0 (omega arith) w.pc.fits w.dst.fits w.src.fits (omega arith) (omega arith)) a.answers.now _ a.i _
    (went-in (of c.before.before.before.before.before.before.before.before.before.before.before.before.before.before.before.before.before.before.before.before.before.before.before.before.before.before.before.before.before.before.before.before.before.before.before.before.before.before.before.before.before.before.before.before.before) sure blank op s.stack s.frames s.chain s.slots s.saved_stack
    s.saved_frames s.machine s.fuel (splice blank 0 (answer_words goes_on))
    (record { stack = k.stack; frames = k.frames; chain = k.chain; slots = k.slots; saved_stack = k.saved_stack; saved_frames = k.saved_frames; ready = refl; finalize = refl; setup = refl })
    c.yield_at.ensures refl) c.goes_on_at.ensures

pub shape_of-stack-in-None : goal.shape_of-stack-in-None
shape_of-stack-in-None c = c.general_at.auto.stack

pub shape_of-frames-in-None : goal.shape_of-frames-in-None
shape_of-frames-in-None c = c.general_at.auto.frames

pub shape_of-chain-in-None : goal.shape_of-chain-in-None
shape_of-chain-in-None c = c.general_at.auto.chain

pub shape_of-slots-in-None : goal.shape_of-slots-in-None
shape_of-slots-in-None c = c.general_at.auto.slots

pub shape_of-saved_stack-in-None : goal.shape_of-saved_stack-in-None
shape_of-saved_stack-in-None c = c.general_at.auto.saved_stack

pub shape_of-saved_frames-in-None : goal.shape_of-saved_frames-in-None
shape_of-saved_frames-in-None c = c.general_at.auto.saved_frames

pub shape_of-ready : goal.shape_of-ready
shape_of-ready c = c.general_at.auto.ready

pub shape_of-finalize : goal.shape_of-finalize
shape_of-finalize c = c.general_at.auto.finalize

pub shape_of-machine-in-None : goal.shape_of-machine-in-None
shape_of-machine-in-None c = c.general_at.auto.machine

pub shape_of-fuel-in-None : goal.shape_of-fuel-in-None
shape_of-fuel-in-None c = c.general_at.auto.fuel

pub shape_of-answers-in-None : goal.shape_of-answers-in-None
shape_of-answers-in-None c = c.general_at.auto.answers

pub returns-in-None : goal.returns-in-None
returns-in-None c = c.general_at.ensures
