-- `field` meets its contract: beyond the end there is 0. Assumes nothing.
use Rattle.std.proofs.Common.{◌+◌, ◌*◌, arith}
use Rattle.furnace.proofs.Words.{beyond}
use Rattle.furnace.proofs.watch.field.Goals as goal

pub returns-then-n-i : goal.returns-then-n-i
returns-then-n-i c =
    let a = c.args in
    let t = c.if-n-i.true in
    beyond a.table.now (a.i * 6 + a.k) (omega arith)

pub returns-then-n-at : goal.returns-then-n-at
returns-then-n-at c =
    let a = c.args in
    let t = c.if-n-at.true in
    beyond a.table.now (a.i * 6 + a.k) (omega arith)
