-- `may_leave` meets its contract: each test that fails is one of the definition's, and those that are passed tell their part. Assumes nothing.
use borrow.Enum.Refused.{opened}
use mathlib.Core.Path.{◌≡◌, sym, ap, ◌∙◌}
use Prim.Native.Nat.{◌≤◌, ◌<◌}
use native.Mathlib.Omega.{arith}
use Rattle.heap.specs.Int.{next_key}
use Rattle.heap.specs.Heap.{SlotFits, slots_of, coro_of, place_of}
use Rattle.std.specs.Prelude.{Ok}
use Rattle.heap.proofs.Place.{stands-words}
use Rattle.model.specs.declared.machine.Active.{Active}
use Rattle.model.specs.declared.machine.Driver.{Driver}
use Rattle.memory_tables.specs.Layout.{base_in}
use Rattle.exec_yield.proofs.Yields.{some-active}
use Rattle.linked_calls.specs.Words.{machine_in}
use Rattle.linked_switch.specs.Words.{record_at}
use Rattle.linked_switch.specs.Leave.{innermost_in}
use Rattle.linked_switch.specs.Leaves.{by_resume, to_leave}
use Rattle.linked_switch.proofs.Leavable.{as-none, no-frame, no_fuel, none_runs, no-dst, no_src, not-resume, no-resume, no_place, closing, too_wide, too-deep, no_key, no_word, at_slot}
use Rattle.linked_switch.proofs.leaves.may_leave.Lts as lts
use Rattle.linked_switch.proofs.leaves.may_leave.Reads as reads
use Rattle.linked_switch.proofs.leaves.may_leave.Tie as tie
use Rattle.linked_switch.proofs.leaves.may_leave.Goals as goal

abbrev After-active_at-a : Type 0
After-active_at-a = lts.After-active_at tie.the-claims reads.Pre reads.Post tie.handed_clauses

abbrev After-coro_place : Type 0
After-coro_place = lts.After-coro_place tie.the-claims reads.Pre reads.Post tie.handed_clauses

abbrev In-Ok : Type 0
In-Ok = lts.Past-After-known_told2 tie.the-claims reads.Pre reads.Post tie.handed_clauses

abbrev After-base_at-base : Type 0
After-base_at-base = lts.After-base_at2 tie.the-claims reads.Pre reads.Post tie.handed_clauses

abbrev After-next_key : Type 0
After-next_key = lts.After-next_key tie.the-claims reads.Pre reads.Post tie.handed_clauses

-- what the innermost coroutine's word names
named : (c : After-coro_place) → let a = c.args in c.coro_place.result ≡ to_leave a.chain.now a.slots.now a.machine.now
named c =
    let a = c.args in
    c.coro_place.ensures ∙ ap (λ (x : Active). place_of (coro_of (slots_of (machine_in a.machine.now).count a.slots.now) x.coro)) c.active_at-a.ensures

found : (c : In-Ok) → let a = c.args in Ok c.in-Ok.slot ≡ to_leave a.chain.now a.slots.now a.machine.now
found c = sym c.in-Ok.is ∙ named c.before

-- its slot lies in the slice
slot : (c : In-Ok) → SlotFits c.args.slots.now c.in-Ok.slot
slot c =
    let a = c.args in
    stands-words (machine_in a.machine.now).count a.slots.now (innermost_in a.chain.now (machine_in a.machine.now)).coro c.in-Ok.slot (found c) c.requires.in-slots

runs : (c : After-active_at-a) → 1 ≤ (machine_in c.args.machine.now).active
runs c = some-active _ c.if-machine-eq0-2.false

-- its floor is a frame's
floored : (c : After-active_at-a) → c.active_at-a.result.floor < (machine_in c.args.machine.now).depth
floored c =
    let e = ap (λ (x : Active). x.floor) c.active_at-a.ensures in let h = c.requires.floor (runs c) in
    omega (arith, h, e)

-- where its body begins
based : (c : After-base_at-base) →
    let a = c.args in
    c.base_at-base.result ≡ base_in a.frames.now (innermost_in a.chain.now (machine_in a.machine.now)).floor
based c =
    c.base_at-base.ensures ∙ ap (λ (x : Active). base_in c.args.frames.now x.floor) c.active_at-a.ensures

next-key : (c : After-next_key) → c.next_key.result ≡ next_key (record_at c.args.slots.now c.in-Ok.slot).largest
next-key c = c.next_key.ensures ∙ ap next_key c.largest_at.ensures

-- a Resume waits for it
by-resume : (c : In-Ok) → c.active_at-a.result.driver ≡ Driver.Resume c.in-Resume.to
by-resume c = c.in-Resume.is

pub returns-then-machine-eq0 : goal.returns-then-machine-eq0
returns-then-machine-eq0 c = no-frame c.if-machine-eq0.true

pub returns-then-fuel-eq0 : goal.returns-then-fuel-eq0
returns-then-fuel-eq0 c = no_fuel c.if-fuel-eq0.true

pub returns-then-machine-eq0-2 : goal.returns-then-machine-eq0-2
returns-then-machine-eq0-2 c = none_runs c.if-machine-eq0-2.true

pub returns-then-machine-low : goal.returns-then-machine-low
returns-then-machine-low c = no-dst (omega arith)

pub returns-then-width-dst : goal.returns-then-width-dst
returns-then-width-dst c = no-dst (omega arith)

pub returns-then-width-src : goal.returns-then-width-src
returns-then-width-src c = no_src (omega arith)

pub returns-in_default : goal.returns-in_default
returns-in_default c = no-resume (ap (λ (x : Active). by_resume x.driver) (sym c.active_at-a.ensures) ∙ not-resume c.active_at-a.result.driver (opened c.in_default.in_default-own.keys2))

pub bounds-machine-3 : goal.bounds-machine-3
bounds-machine-3 c = let h = c.requires.words in omega (arith, h)

pub coro_place-requires : goal.coro_place-requires
coro_place-requires c = c.requires.in-slots

pub closing_at-requires : goal.closing_at-requires
closing_at-requires c = slot c.before

pub returns-then-closing_at : goal.returns-then-closing_at
returns-then-closing_at c = closing (found c.before.before.before) (sym c.closing_at.ensures ∙ c.if-closing_at.true)

pub base_at-base-requires : goal.base_at-base-requires
base_at-base-requires c = let f = floored c.before.before.before.before.before.before.before in let h = c.requires.on-frames in omega (arith, f, h)

pub maxregs_at-requires : goal.maxregs_at-requires
maxregs_at-requires c = slot c.before.before.before.before

pub overflow_sub-machine-3 : goal.overflow_sub-machine-3
overflow_sub-machine-3 c =
    let e = based c.before.before.before in
    let h = c.requires.base (runs c.before.before.before.before.before.before.before.before.before.before) in omega (arith, h, e)

pub returns-then-maxregs_at-machine : goal.returns-then-maxregs_at-machine
returns-then-maxregs_at-machine c = let e = based c.before.before.before.before in let n = c.maxregs_at.ensures in too_wide (found c.before.before.before.before.before.before.before) (omega (arith, e, n, c.if-maxregs_at-machine.true))

pub maxframes_at-requires : goal.maxframes_at-requires
maxframes_at-requires c = slot c.before.before.before.before.before.before.before

pub overflow_sub-machine-4 : goal.overflow_sub-machine-4
overflow_sub-machine-4 c = let f = floored c.before.before.before.before.before.before.before.before.before.before.before.before.before.before in omega (arith, f)

pub returns-then-maxframes_at-machine : goal.returns-then-maxframes_at-machine
returns-then-maxframes_at-machine c =
    let f = ap (λ (x : Active). x.floor) c.active_at-a.ensures in let n = c.maxframes_at.ensures in
    too-deep (found c.before.before.before.before.before.before.before.before.before.before.before) (omega (arith, f, n, c.if-maxframes_at-machine.true))

pub largest_at-requires : goal.largest_at-requires
largest_at-requires c = slot c.before.before.before.before.before.before.before.before.before.before.before

pub returns-in_default-coro_place : goal.returns-in_default-coro_place
returns-in_default-coro_place c = no_place (sym c.in_default-coro_place.is ∙ named c.before.before)

pub returns-in_err-largest : goal.returns-in_err-largest
returns-in_err-largest c =
    as-none c.from_residual.ensures
    (no_key (found c.before.before.before.before.before.before.before.before.before.before.before.before.before.before.before.before) (sym c.in_err-largest.was ∙ next-key c.before.before.before.before))

pub returns-in_err-key : goal.returns-in_err-key
returns-in_err-key c =
    as-none c.from_residual-in_err-key.ensures
    (no_word (found c.before.before.before.before.before.before.before.before.before.before.before.before.before.before.before.before.before.before.before) (sym c.in_ok-largest.was ∙ next-key c.before.before.before.before.before.before.before)
    (sym c.in_err-key.was ∙ c.inline_int.ensures))

pub returns : goal.returns
returns c =
    let is = c.active_at-a.ensures in
    let low = c.base_at-low.ensures in let above = c.if-machine-low.false in
    let run = runs c.before.before.before.before.before.before.before.before.before.before.before.before.before.before.before.before.before.before.before.before.before.before in let e = based c.before.before.before.before.before.before.before.before.before.before.before.before.before.before.before in let f = ap (λ (x : Active). x.floor) is in
    let wide = c.maxregs_at.ensures in let deep = c.maxframes_at.ensures in
    at_slot (found c.before.before.before.before.before.before.before.before.before.before.before.before.before.before.before.before.before.before)
    (record {
      some = some-active _ c.if-machine-eq0.false;
      paid = some-active _ c.if-fuel-eq0.false;
      dst-in = omega (arith, low, above, c.if-width-dst.false);
      src-in = omega (arith, low, above, c.if-width-src.false);
      may =
          record {
            running = run;
            floor = c.requires.floor run;
            found = found c.before.before.before.before.before.before.before.before.before.before.before.before.before.before.before.before.before.before;
            unclosed = sym c.closing_at.ensures ∙ c.if-closing_at.false;
            wide = omega (arith, e, wide, c.if-maxregs_at-machine.false);
            deep = omega (arith, f, deep, c.if-maxframes_at-machine.false);
          };
      keyed =
          record {
            next = sym c.in_ok-largest.was ∙ next-key c.before.before.before.before.before.before;
            inline = sym c.in_ok-key.was ∙ c.inline_int.ensures;
          };
      driven = ap (λ (x : Active). x.driver) (sym is) ∙ by-resume c.before.before.before.before.before.before.before.before.before.before.before.before.before.before.before.before.before.before;
    })
