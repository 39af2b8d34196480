-- `resume_at` meets the model's call: a unit of fuel, then the entry. Assumes nothing.
use mathlib.Core.Path.{◌≡◌}
use native.Mathlib.Omega.{arith}
use lib.ListN.{get_or}
use Rattle.model.specs.declared.call.Op.{Op}
use Rattle.memory_world.specs.Memory.{Lent, Beside}
use Rattle.memory_world.specs.Lendings.{lent}
use Rattle.coro_enter.specs.Enter.{grown}
use Rattle.coro_clean.specs.Charge.{spent}
use Rattle.machine_step.specs.Kept.{did}
use Rattle.linked_calls.specs.Words.{machine_in, sizes_in, fuel_in}
use Rattle.linked_switch.specs.Went.{goes_on}
use Rattle.linked_switch.specs.Words.{record_at}
use Rattle.linked_switch.proofs.Resuming.{held-only, spent-in, spent-words, grown-in, grown-words, paid, paid-rep, paid-sound, resume-done, told-as}
use Rattle.linked_switch.proofs.resume.resume_at.Lts as lts
use Rattle.linked_switch.proofs.resume.resume_at.Reads as reads
use Rattle.linked_switch.proofs.resume.resume_at.Tie as tie
use Rattle.linked_switch.proofs.resume.resume_at.Goals as goal

abbrev Start : Type 0
Start = lts.Start tie.the-claims reads.Pre reads.Post

-- `resume_at` meets the model's call: a unit of fuel, then the entry. Assumes nothing.
abbrev mem : Start → Beside → Lent
mem c b = lent c.args.stack.now c.args.frames.now c.args.chain.now c.args.slots.now c.args.saved_stack.now c.args.saved_frames.now b

pub overflow_sub-fuel : goal.overflow_sub-fuel
overflow_sub-fuel c = c.requires.enterable.paid

pub enter-requires : goal.enter-requires
enter-requires c =
    let e = c.requires.enterable in
    let ok = c.requires.held.ok in
    record {
      words = c.requires.held.words;
      entry = record { ok = held-only c.requires.held; narrow = c.requires.held.narrow; some = e.some };
      sent = record { some = e.some; on-frames = ok.rep.frames.within; below = e.src-in; on-stack = ok.rep.stack.within };
      may = e.may;
    }

pub returns : goal.returns
returns c =
    let a = c.args in
    let ms = a.machine.now in let fs = a.fuel.now in
    let k = record_at a.slots.now a.i in
    let e = c.requires.enterable in
    let entered = c.enter.ensures in
    let rich : get_or fs 0 0 ≡ 0 → ⊥ = λ z. let h = e.paid in omega (arith, h, z) in
    record {
      met = λ w b rep snd.
          let M = mem c.before.before.before.before.before.before.before.before.before.before.before.before.before.before.before.before.before.before.before.before.before.before.before.before.before.before.before.before.before.before.before.before b in
          let w₁ = paid (sizes_in ms) M (machine_in ms) (fuel_in fs) w rep snd a.pc a.dst a.c a.src c.requires.held.narrow e.some rich in
          let r₁ = paid-rep (sizes_in ms) M (machine_in ms) (fuel_in fs) w rep snd a.pc a.dst a.c a.src c.requires.held.narrow e.some rich in
          let s₁ = paid-sound (sizes_in ms) M (machine_in ms) (fuel_in fs) w rep snd a.pc a.dst a.c a.src c.requires.held.narrow e.some rich in
          told-as (sizes_in ms) _ (did (Op.Resume a.pc a.dst a.c a.src) w) goes_on _ _ _ _ (grown-in ms _ k c.requires.held.numbers entered.0) (spent-in fs c.requires.held.tank)
          (resume-done (sizes_in ms) M (machine_in ms) (fuel_in fs) w rep snd a.pc a.dst a.c a.src c.requires.held.narrow e.some rich e.dst-in e.coro-in e.src-in _
          (grown (machine_in ms) k) a.v (e.is w₁.stack w₁.frames r₁.stack r₁.frames).is
          (entered.1 w₁ (record { words = b.words; fuel = spent (fuel_in fs) }) r₁ s₁));
      numbers = grown-words ms _ k c.requires.held.numbers entered.0;
      fuel = spent-words fs c.requires.held.tank c.requires.held.fuelled;
    }
