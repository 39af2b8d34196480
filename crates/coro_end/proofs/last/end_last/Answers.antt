-- `end_last` meets its definition, whether a coroutine is active or not. Assumes nothing.
use Prim.Native.Nat.{◌≤◌}
use native.Mathlib.Omega.{arith}
use Rattle.memory_world.specs.Memory.{on_chain}
use Rattle.memory_world.specs.Lendings.{plain}
use Rattle.coro_end.specs.Last.{ending}
use Rattle.coro_end.proofs.Innermost.{last, popped, none-ends-last, ends_last, finish-fits}
use Rattle.coro_end.proofs.last.end_last.Goals as goal

pub returns-then-m-eq0 : goal.returns-then-m-eq0
returns-then-m-eq0 c =
    let a = c.args in
    λ w b rep rowed. none-ends-last a.sizes (ending a.chain.now a.slots.now a.saved_stack.now a.saved_frames.now plain b) a.m b.fuel w rep
    a.s a.res c.if-m-eq0.true

pub finish_coroutine-requires : goal.finish_coroutine-requires
finish_coroutine-requires c =
    let a = c.args in
    let some : 1 ≤ a.m.active = omega (arith, c.if-m-eq0.false) in
    finish-fits a.sizes a.m a.chain.now a.slots.now a.saved_stack.now a.saved_frames.now a.s c.requires c.active_at-last.result some
    c.active_at-last.ensures c.pop_active.new.chain
    c.pop_active.ensures

pub returns : goal.returns
returns c =
    let a = c.args in
    let x = c.active_at-last.result in
    let some : 1 ≤ a.m.active = omega (arith, c.if-m-eq0.false) in
    λ w b rep rowed.
    let M = ending a.chain.now a.slots.now a.saved_stack.now a.saved_frames.now plain b in
    let t = last a.sizes M a.m b.fuel w rep x some c.active_at-last.ensures in
    let p = popped a.sizes M a.m b.fuel w rep x t c.pop_active.new.chain c.pop_active.ensures in
    let f = c.finish_coroutine in
    ends_last a.sizes (ending c.pop_active.new.chain f.new.slots f.new.saved_stack f.new.saved_frames plain b) _ b.fuel w a.s a.res x t
    (f.ensures _ (record { words = on_chain c.pop_active.new.chain b.words; fuel = b.fuel }) p rowed)
