-- `may_enter` meets its contract: each test that fails is one of the definition's, and those that are passed tell their part. Assumes nothing.
use mathlib.Core.Path.{◌≡◌, sym, ap, ◌∙◌}
use Prim.Native.Nat.{◌+◌}
use native.Mathlib.Omega.{arith}
use lib.ListN.{get_or}
use Rattle.heap.specs.Heap.{SlotFits, slots_of, coro_of, place_of}
use Rattle.std.specs.Prelude.{Ok}
use Rattle.heap.proofs.Place.{stands-words}
use Rattle.memory_tables.proofs.Doing.{gets}
use Rattle.coro_enter.proofs.Parts.{by-nothing}
use Rattle.model.specs.State.{is_resumable}
use Rattle.exec_yield.proofs.Yields.{some-active}
use Rattle.linked_calls.specs.Words.{machine_in, sizes_in}
use Rattle.linked_switch.specs.Words.{record_at}
use Rattle.linked_switch.specs.Enters.{top_in, to_enter}
use Rattle.linked_switch.proofs.Enterable.{no-frame, no_fuel, no-dst, no-coro, no_src, no_place, no-state, no_frames, no-depth, no_stack, at_slot}
use Rattle.linked_switch.proofs.enters.may_enter.Lts as lts
use Rattle.linked_switch.proofs.enters.may_enter.Reads as reads
use Rattle.linked_switch.proofs.enters.may_enter.Tie as tie
use Rattle.linked_switch.proofs.enters.may_enter.Goals as goal

abbrev After-coro_place : Type 0
After-coro_place = lts.After-coro_place tie.the-claims reads.Pre reads.Post

abbrev In-Ok : Type 0
In-Ok = lts.Past-After-known_told tie.the-claims reads.Pre reads.Post

abbrev After-is_resumable : Type 0
After-is_resumable = lts.After-is_resumable tie.the-claims reads.Pre reads.Post

-- what the word in register c names
named : (c : After-coro_place) → let a = c.args in c.coro_place.result ≡ to_enter a.stack.now a.frames.now a.slots.now a.machine.now a.c
named c =
    let a = c.args in
    c.coro_place.ensures ∙ ap (λ b. place_of (coro_of (slots_of (machine_in a.machine.now).count a.slots.now) (get_or a.stack.now (b + a.c) 0)))
    c.base_at-base.ensures

found : (c : In-Ok) → let a = c.args in Ok c.in-Ok.i ≡ to_enter a.stack.now a.frames.now a.slots.now a.machine.now a.c
found c = sym c.in-Ok.is ∙ named c.before

-- its slot lies in the slice
slot : (c : In-Ok) → SlotFits c.args.slots.now c.in-Ok.i
slot c =
    let a = c.args in
    stands-words (machine_in a.machine.now).count a.slots.now (get_or a.stack.now (top_in a.frames.now a.machine.now + a.c) 0) c.in-Ok.i (found c) c.requires.in-slots

-- what its state tells
state-of : (c : After-is_resumable) → c.is_resumable.result ≡ is_resumable (record_at c.args.slots.now c.in-Ok.i).state
state-of c = c.is_resumable.ensures ∙ ap is_resumable c.state_at-state.ensures

pub returns-then-machine-eq0 : goal.returns-then-machine-eq0
returns-then-machine-eq0 c = no-frame c.if-machine-eq0.true

pub returns-then-fuel-eq0 : goal.returns-then-fuel-eq0
returns-then-fuel-eq0 c = no_fuel c.if-fuel-eq0.true

pub returns-then-machine-base : goal.returns-then-machine-base
returns-then-machine-base c = no-dst (omega arith)

pub returns-then-wide-dst : goal.returns-then-wide-dst
returns-then-wide-dst c = no-dst (omega arith)

pub returns-then-wide-c : goal.returns-then-wide-c
returns-then-wide-c c = no-coro (omega arith)

pub returns-then-wide-src : goal.returns-then-wide-src
returns-then-wide-src c = no_src (omega arith)

pub state_at-state-requires : goal.state_at-state-requires
state_at-state-requires c = slot c.before

pub returns-then-not-is_resumable : goal.returns-then-not-is_resumable
returns-then-not-is_resumable c = no-state (found c.before.before.before.before) (sym (state-of c.before.before) ∙ c.if-not-is_resumable.true)

pub frames_at-deep-requires : goal.frames_at-deep-requires
frames_at-deep-requires c = slot c.before.before.before.before

pub returns-then-deep-eq0 : goal.returns-then-deep-eq0
returns-then-deep-eq0 c = no_frames (found c.before.before.before.before.before.before) (sym c.frames_at-deep.ensures ∙ c.if-deep-eq0.true)

pub returns-then-machine-deep : goal.returns-then-machine-deep
returns-then-machine-deep c = no-depth (found c.before.before.before.before.before.before.before.before.before) (omega arith)

pub regs_at-requires : goal.regs_at-requires
regs_at-requires c = slot c.before.before.before.before.before.before.before.before.before.before.before

pub returns-then-machine-regs_at : goal.returns-then-machine-regs_at
returns-then-machine-regs_at c = no_stack (found c.before.before.before.before.before.before.before.before.before.before.before.before.before) (omega arith)

pub returns-in_default : goal.returns-in_default
returns-in_default c = no_place (sym c.in_default.is ∙ named c.before.before)

pub returns : goal.returns
returns c =
    let ms = c.args.machine.now in let k = record_at c.args.slots.now c.in-Ok.i in
    let low = c.base_at-base.ensures in let above = c.if-machine-base.false in let in_c = c.if-wide-c.false in
    let some = some-active _ c.if-machine-eq0.false in let deep = c.requires.deep in let high = c.requires.high in
    let state = sym (state-of c.before.before.before.before.before.before.before.before.before.before.before) ∙ c.if-not-is_resumable.false in
    let n = c.frames_at-deep.ensures in let r = c.regs_at.ensures in
    let saved : k.frames ≡ 0 → ⊥ = λ z. c.if-deep-eq0.false (n ∙ z) in
    let under = c.if-machine-deep.false in let fitted = c.if-machine-regs_at.false in
    at_slot (found c.before.before.before.before.before.before.before.before.before.before.before.before.before) state saved (omega (arith, n, deep, under)) (omega (arith, r, high, fitted))
    (record {
      some = some;
      paid = some-active _ c.if-fuel-eq0.false;
      dst-in = omega (arith, low, above, c.if-wide-dst.false);
      coro-in = omega (arith, low, above, in_c);
      src-in = omega (arith, low, above, c.if-wide-src.false);
      is = gets _ _ _ _ _ (record { some = some; on-frames = c.requires.on-frames; below = omega (arith, low, above, in_c); on-stack = c.requires.on-stack }) _ low;
      may =
          record {
            found = sym c.in-Ok.is ∙ c.coro_place.ensures;
            fits = by-nothing (machine_in ms).height (machine_in ms).depth (sizes_in ms) k state saved deep high (omega (arith, n, under)) (omega (arith, r, fitted));
          };
    })
