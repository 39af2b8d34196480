-- `bvm_try_resume_unchecked` meets its contract: an entry done on the words, or nothing done. Assumes nothing.
use mathlib.Core.Path.{refl, sym, ap, ◌∙◌}
use native.Mathlib.Omega.{arith}
use lib.ListN.{get_or}
use Rattle.model.specs.declared.call.Op.{Op}
use Rattle.memory_world.specs.Memory.{Lent, Beside}
use Rattle.memory_world.specs.Lendings.{lent}
use Rattle.linked_calls.specs.Host.{Host, host}
use Rattle.linked_switch.specs.Enters.{enters, may_enter}
use Rattle.linked_switch.proofs.Hosts.{long, holds, enters-fit}
use Rattle.linked_switch.proofs.Switching.{not-here, done-here}
use Rattle.linked_switch.proofs.resume.bvm_try_resume_unchecked.Lts as lts
use Rattle.linked_switch.proofs.resume.bvm_try_resume_unchecked.Reads as reads
use Rattle.linked_switch.proofs.resume.bvm_try_resume_unchecked.Tie as tie
use Rattle.linked_switch.proofs.resume.bvm_try_resume_unchecked.Goals as goal

abbrev Start : Type 0
Start = lts.Start tie.the-claims reads.Pre reads.Post

-- `bvm_try_resume_unchecked` meets its contract: an entry done on the words, or nothing done. Assumes nothing.
abbrev mem : Start → Beside → Lent
mem c = let a = c.args in lent a.stack.now a.frames.now a.chain.now a.slots.now a.saved_stack.now a.saved_frames.now

-- a machine that passes
abbrev of : Start → Host
of c = host (mem c c.requires.beside) c.args.machine.now c.args.fuel.now

pub bounds-fuel-0 : goal.bounds-fuel-0
bounds-fuel-0 c = let h = (long (of c.before.before.before.before.before.before.before.before.before.before) c.requires.sound).1 in omega (arith, h)

pub may_enter-requires : goal.may_enter-requires
may_enter-requires c = enters-fit (of c.before.before.before.before.before.before.before.before.before.before) c.requires.sound

pub resume_at-requires : goal.resume_at-requires
resume_at-requires c = record { held = holds (of c.before.before.before.before.before.before.before.before.before.before.before.before.before.before.before.before.before.before.before) c.requires.sound c.args.pc c.ranges.pc.fits; enterable = c.may_enter.ensures.at _ _ c.in-Some.is }

pub returns-in-Some : goal.returns-in-Some
returns-in-Some c =
    let a = c.args in
    let k = c.resume_at.auto in
    let s = c.resume_at.new in
    done-here a.stack.now a.frames.now a.chain.now a.slots.now a.saved_stack.now a.saved_frames.now a.machine.now a.fuel.now
    s.stack s.frames s.chain s.slots s.saved_stack s.saved_frames s.machine s.fuel
    (Op.Resume a.pc a.dst a.coro a.src) (may_enter a.stack.now a.frames.now a.slots.now a.machine.now (get_or a.fuel.now 0 0) a.dst a.coro a.src)
    (sym (ap enters c.in-Some.is) ∙ c.may_enter.ensures.told)
    (λ b. record { stack = k.stack; frames = k.frames; chain = k.chain; slots = k.slots; saved_stack = k.saved_stack; saved_frames = k.saved_frames; ready = refl; finalize = refl; setup = refl })
    c.resume_at.ensures

pub returns-in-None : goal.returns-in-None
returns-in-None c =
    let a = c.args in
    not-here (Op.Resume a.pc a.dst a.coro a.src) (may_enter a.stack.now a.frames.now a.slots.now a.machine.now (get_or a.fuel.now 0 0) a.dst a.coro a.src) (mem c.before.before.before.before.before.before.before.before.before.before.before.before)
    a.machine.now a.fuel.now (sym (ap enters c.in-None.is) ∙ c.may_enter.ensures.told)
