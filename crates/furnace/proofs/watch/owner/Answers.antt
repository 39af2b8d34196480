-- `owner` meets its contract: those above do not own the frame. Assumes nothing.
use Rattle.std.proofs.Common.{◌-◌, ◌∙◌, arith}
use Rattle.furnace.proofs.Watching.{owns, owns_not}
use Rattle.furnace.proofs.watch.owner.Goals as goal

pub returns-then-floor-i : goal.returns-then-floor-i
returns-then-floor-i c =
    let a = c.args in
    let k = c.loop-k.k in
    let t = c.loop-k-test.true in
    let e = c.floor.ensures in
    let h = c.if-floor-i.true in
    c.coroutine.ensures ∙ owns a.chain.now a.n a.i k c.loop-k.invariant (k - 1) (omega arith) (omega (arith, e, h))

pub loop-k-preserved : goal.loop-k-preserved
loop-k-preserved c =
    let a = c.args in
    let k = c.loop-k.k in
    let t = c.loop-k-test.true in
    let e = c.floor.ensures in
    let h = c.if-floor-i.false in
    owns_not a.chain.now a.n a.i k c.loop-k.invariant (k - 1) (omega arith) (omega (arith, e, h))
