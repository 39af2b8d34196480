-- `yield_at` meets its contract: a unit of fuel, then the suspension. Assumes nothing.
use mathlib.Core.Path.{◌≡◌}
use native.Mathlib.Omega.{arith}
use lib.ListN.{get_or}
use Rattle.model.specs.declared.call.Op.{Op}
use Rattle.memory_world.specs.Memory.{Lent, Beside}
use Rattle.memory_world.specs.Lendings.{lent}
use Rattle.coro_clean.specs.Charge.{spent}
use Rattle.machine_step.specs.Kept.{did}
use Rattle.linked_calls.specs.Words.{machine_in, sizes_in, fuel_in}
use Rattle.linked_switch.specs.Went.{goes_on}
use Rattle.linked_switch.specs.Leave.{left_in}
use Rattle.linked_switch.proofs.Resuming.{held-only, spent-in, spent-words, paid, paid-rep, paid-sound, told-as}
use Rattle.linked_switch.proofs.Yields.{left_in_lem, left-words, yield-done}
use Rattle.linked_switch.proofs.yielding.yield_at.Lts as lts
use Rattle.linked_switch.proofs.yielding.yield_at.Reads as reads
use Rattle.linked_switch.proofs.yielding.yield_at.Tie as tie
use Rattle.linked_switch.proofs.yielding.yield_at.Goals as goal

abbrev Start : Type 0
Start = lts.Start tie.the-claims reads.Pre reads.Post

-- `yield_at` meets its contract: a unit of fuel, then the suspension. Assumes nothing.
abbrev mem : Start → Beside → Lent
mem c b = lent c.args.stack.now c.args.frames.now c.args.chain.now c.args.slots.now c.args.saved_stack.now c.args.saved_frames.now b

pub overflow_sub-fuel : goal.overflow_sub-fuel
overflow_sub-fuel c = c.requires.leavable.paid

pub leave-requires : goal.leave-requires
leave-requires c =
    let e = c.requires.leavable in
    let ok = c.requires.held.ok in
    record {
      words = c.requires.held.words;
      run = record { ok = held-only c.requires.held; running = e.may.running; narrow = c.requires.held.narrow };
      sent = record { some = e.some; on-frames = ok.rep.frames.within; below = e.src-in; on-stack = ok.rep.stack.within };
      may = e.may;
      keyed = e.keyed;
      driven = e.driven;
    }

pub returns : goal.returns
returns c =
    let a = c.args in
    let ms = a.machine.now in let fs = a.fuel.now in let frames = a.frames.now in let chain = a.chain.now in
    let held = c.requires.held in let e = c.requires.leavable in let left = c.leave.ensures in
    let rich : get_or fs 0 0 ≡ 0 → ⊥ = λ z. let h = e.paid in omega (arith, h, z) in
    record {
      met = λ w b rep snd.
          let M = mem c.before.before.before.before.before.before.before.before.before.before.before.before.before.before.before.before.before.before.before.before.before.before.before.before.before.before.before.before.before.before.before.before b in
          let w₁ = paid (sizes_in ms) M (machine_in ms) (fuel_in fs) w rep snd a.pc a.dst a.dst a.src held.narrow e.some rich in
          let r₁ = paid-rep (sizes_in ms) M (machine_in ms) (fuel_in fs) w rep snd a.pc a.dst a.dst a.src held.narrow e.some rich in
          let s₁ = paid-sound (sizes_in ms) M (machine_in ms) (fuel_in fs) w rep snd a.pc a.dst a.dst a.src held.narrow e.some rich in
          told-as (sizes_in ms) _ (did (Op.Yield a.pc a.dst a.src) w) goes_on _ _ _ _ (left_in_lem frames chain ms _ held.numbers left.0) (spent-in fs held.tank)
          (yield-done (sizes_in ms) M (machine_in ms) (fuel_in fs) w rep snd a.pc a.dst a.src held.narrow e.some rich e.dst-in e.src-in _ (left_in frames chain ms)
          (left.1 w₁ (record { words = b.words; fuel = spent (fuel_in fs) }) r₁ s₁));
      numbers = left-words frames chain ms _ held.numbers left.0;
      fuel = spent-words fs held.tank held.fuelled;
    }
