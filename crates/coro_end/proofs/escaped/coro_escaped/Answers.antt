-- `coro_escaped` meets the definition: no coroutine, a close that succeeds, a failure. Assumes nothing.
use mathlib.Core.Path.{refl, sym, ◌∙◌}
use Prim.Native.Nat.{◌≤◌}
use native.Mathlib.Omega.{arith}
use Rattle.heap.specs.declared.object.CoroState.{CoroState}
use Rattle.memory_world.specs.Memory.{on_stack, on_frames}
use Rattle.memory_world.specs.Lendings.{lent}
use Rattle.coro_end.specs.Last.{end_last}
use Rattle.coro_end.proofs.Innermost.{last}
use Rattle.coro_end.proofs.Homecoming.{none-escaped, close-succeeds, fails, end_fits}
use Rattle.coro_end.proofs.escaped.coro_escaped.Goals as goal

pub returns-then-m-eq0 : goal.returns-then-m-eq0
returns-then-m-eq0 c =
    let a = c.args in
    λ w b rep rowed.
    none-escaped a.sizes (lent a.stack.now a.frames.now a.chain.now a.slots.now a.saved_stack.now a.saved_frames.now b) a.m a.fuel
    w a.value a.func a.pc rep c.if-m-eq0.true

pub closed_by-requires : goal.closed_by-requires
closed_by-requires c = c.requires.held.rep.slots.within

pub returns-then-closed_by : goal.returns-then-closed_by
returns-then-closed_by c =
    let a = c.args in
    let x = c.active_at-last.result in
    let f = c.coro_returned-did in
    let active : 1 ≤ a.m.active = omega (arith, c.if-m-eq0.false) in
    λ w b rep rowed.
    let M = lent a.stack.now a.frames.now a.chain.now a.slots.now a.saved_stack.now a.saved_frames.now b in
    let t = last a.sizes M a.m a.fuel w rep x active c.active_at-last.ensures in
    let closed = sym (c.closed_by.ensures a.sizes w (record { words = M; fuel = a.fuel }) rep) ∙ c.if-closed_by.true in
    close-succeeds a.sizes (lent f.new.stack f.new.frames f.new.chain f.new.slots f.new.saved_stack f.new.saved_frames b)
    f.result.machine f.result.fuel w a.value a.func a.pc x t closed (f.ensures w b rep rowed)

pub end_last-n-requires : goal.end_last-n-requires
end_last-n-requires c =
    let a = c.args in
    end_fits a.sizes a.m a.stack.now a.frames.now a.chain.now a.slots.now a.saved_stack.now a.saved_frames.now c.requires CoroState.Failed refl

pub returns : goal.returns
returns c =
    let a = c.args in
    let x = c.active_at-last.result in
    let f = c.end_last-n in
    let g = c.fail_to in
    let active : 1 ≤ a.m.active = omega (arith, c.if-m-eq0.false) in
    λ w b rep rowed.
    let M = lent a.stack.now a.frames.now a.chain.now a.slots.now a.saved_stack.now a.saved_frames.now b in
    let M' = lent a.stack.now a.frames.now f.new.chain f.new.slots f.new.saved_stack f.new.saved_frames b in
    let t = last a.sizes M a.m a.fuel w rep x active c.active_at-last.ensures in
    let left = sym (c.closed_by.ensures a.sizes w (record { words = M; fuel = a.fuel }) rep) ∙ c.if-closed_by.false in
    let e = f.ensures w (record { words = on_stack a.stack.now (on_frames a.frames.now b.words); fuel = a.fuel }) rep rowed in
    fails a.sizes M' g.result.machine g.result.fuel w a.value a.func a.pc x t g.result.answer left
    (g.ensures a.sizes (end_last CoroState.Failed a.value w) (record { words = M'; fuel = b.fuel }) e)
