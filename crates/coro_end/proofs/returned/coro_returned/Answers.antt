-- `coro_returned` meets the definition, whether a coroutine is active or not. Assumes nothing.
use mathlib.Core.Path.{refl}
use Prim.Native.Nat.{◌≤◌}
use native.Mathlib.Omega.{arith}
use Rattle.heap.specs.declared.object.CoroState.{CoroState}
use Rattle.memory_world.specs.Memory.{on_stack, on_frames, on_chain, on_saved}
use Rattle.memory_world.specs.Lendings.{lent}
use Rattle.coro_end.specs.Last.{end_last}
use Rattle.coro_end.proofs.Innermost.{last}
use Rattle.coro_end.proofs.Homecoming.{none-active, returned, end_fits, return_fits}
use Rattle.coro_end.proofs.returned.coro_returned.Goals as goal

pub returns-then-m-eq0 : goal.returns-then-m-eq0
returns-then-m-eq0 c =
    let a = c.args in
    λ w b rep rowed.
    none-active a.sizes (lent a.stack.now a.frames.now a.chain.now a.slots.now a.saved_stack.now a.saved_frames.now b) a.m a.fuel w
    a.value rep c.if-m-eq0.true

pub end_last-n-requires : goal.end_last-n-requires
end_last-n-requires c =
    let a = c.args in
    end_fits a.sizes a.m a.stack.now a.frames.now a.chain.now a.slots.now a.saved_stack.now a.saved_frames.now c.requires CoroState.Returned refl

pub deliver_return-requires : goal.deliver_return-requires
deliver_return-requires c =
    let a = c.args in
    let f = c.end_last-n in
    let some : 1 ≤ a.m.active = omega (arith, c.if-m-eq0.false) in
    return_fits a.sizes a.m a.stack.now a.frames.now a.chain.now a.slots.now a.saved_stack.now a.saved_frames.now c.requires
    c.active_at-last.result some c.active_at-last.ensures
    f.new.chain f.new.slots f.new.saved_stack f.new.saved_frames f.result CoroState.Returned a.value f.ensures

pub returns : goal.returns
returns c =
    let a = c.args in
    let x = c.active_at-last.result in
    let f = c.end_last-n in
    let g = c.deliver_return in
    let some : 1 ≤ a.m.active = omega (arith, c.if-m-eq0.false) in
    λ w b rep rowed.
    let t = last a.sizes (lent a.stack.now a.frames.now a.chain.now a.slots.now a.saved_stack.now a.saved_frames.now b) a.m a.fuel
    w rep x some c.active_at-last.ensures in
    let e = f.ensures w (record { words = on_stack a.stack.now (on_frames a.frames.now b.words); fuel = a.fuel }) rep rowed in
    let d =
    g.ensures a.sizes (end_last CoroState.Returned a.value w)
    (record { words = on_chain f.new.chain (on_saved f.new.saved_stack f.new.saved_frames b.words); fuel = b.fuel }) e in
    returned a.sizes (lent g.new.stack g.new.frames f.new.chain g.new.slots f.new.saved_stack f.new.saved_frames b) g.result.machine g.result.fuel w a.value x t d
