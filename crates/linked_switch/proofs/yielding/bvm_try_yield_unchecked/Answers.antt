-- `bvm_try_yield_unchecked` meets its contract: a suspension done on the words, or nothing done. Assumes nothing.
use mathlib.Core.Path.{refl, sym, ap, ◌∙◌}
use native.Mathlib.Omega.{arith}
use lib.ListN.{get_or}
use Rattle.model.specs.declared.call.Op.{Op}
use Rattle.memory_world.specs.Memory.{Lent, Beside}
use Rattle.memory_world.specs.Lendings.{lent}
use Rattle.linked_calls.specs.Host.{Host, host}
use Rattle.linked_switch.specs.Leaves.{leaves, may_leave}
use Rattle.linked_switch.proofs.Hosts.{long, holds, leaves-fit}
use Rattle.linked_switch.proofs.Switching.{not-here, done-here}
use Rattle.linked_switch.proofs.yielding.bvm_try_yield_unchecked.Lts as lts
use Rattle.linked_switch.proofs.yielding.bvm_try_yield_unchecked.Reads as reads
use Rattle.linked_switch.proofs.yielding.bvm_try_yield_unchecked.Tie as tie
use Rattle.linked_switch.proofs.yielding.bvm_try_yield_unchecked.Goals as goal

abbrev Start : Type 0
Start = lts.Start tie.the-claims reads.Pre reads.Post

-- `bvm_try_yield_unchecked` meets its contract: a suspension done on the words, or nothing done. Assumes nothing.
abbrev mem : Start → Beside → Lent
mem c = let a = c.args in lent a.stack.now a.frames.now a.chain.now a.slots.now a.saved_stack.now a.saved_frames.now

-- a machine that passes
abbrev of : Start → Host
of c = host (mem c c.requires.beside) c.args.machine.now c.args.fuel.now

pub bounds-fuel-0 : goal.bounds-fuel-0
bounds-fuel-0 c = let h = (long (of c.before.before.before.before.before.before.before.before.before.before) c.requires.sound).1 in omega (arith, h)

pub may_leave-requires : goal.may_leave-requires
may_leave-requires c = leaves-fit (of c.before.before.before.before.before.before.before.before.before.before) c.requires.sound

pub yield_at-requires : goal.yield_at-requires
yield_at-requires c = record { held = holds (of c.before.before.before.before.before.before.before.before.before.before.before.before.before.before.before.before.before.before.before) c.requires.sound c.args.pc c.ranges.pc.fits; leavable = c.may_leave.ensures.at _ c.in-Some.is }

pub returns-in-Some : goal.returns-in-Some
returns-in-Some c =
    let a = c.args in
    let k = c.yield_at.auto in
    let s = c.yield_at.new in
    done-here a.stack.now a.frames.now a.chain.now a.slots.now a.saved_stack.now a.saved_frames.now a.machine.now a.fuel.now
    s.stack s.frames s.chain s.slots s.saved_stack s.saved_frames s.machine s.fuel
    (Op.Yield a.pc a.dst a.src) (may_leave a.frames.now a.chain.now a.slots.now a.machine.now (get_or a.fuel.now 0 0) a.dst a.src)
    (sym (ap leaves c.in-Some.is) ∙ c.may_leave.ensures.told)
    (λ b. record { stack = k.stack; frames = k.frames; chain = k.chain; slots = k.slots; saved_stack = k.saved_stack; saved_frames = k.saved_frames; ready = refl; finalize = refl; setup = refl })
    c.yield_at.ensures

pub returns-in-None : goal.returns-in-None
returns-in-None c =
    let a = c.args in
    not-here (Op.Yield a.pc a.dst a.src) (may_leave a.frames.now a.chain.now a.slots.now a.machine.now (get_or a.fuel.now 0 0) a.dst a.src) (mem c.before.before.before.before.before.before.before.before.before.before.before.before)
    a.machine.now a.fuel.now (sym (ap leaves c.in-None.is) ∙ c.may_leave.ensures.told)
