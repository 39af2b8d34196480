-- `register` meets its contract: beyond the end there is 0. Assumes nothing.
use Rattle.std.proofs.Common.{◌+◌, arith}
use Rattle.furnace.proofs.Words.{beyond}
use Rattle.furnace.proofs.watch.register.Goals as goal

pub returns-then-n-base : goal.returns-then-n-base
returns-then-n-base c =
    let a = c.args in
    let t = c.if-n-base.true in
    beyond a.stack.now (a.base + a.r) (omega arith)

pub returns-then-n-base-2 : goal.returns-then-n-base-2
returns-then-n-base-2 c =
    let a = c.args in
    let t = c.if-n-base-2.true in
    beyond a.stack.now (a.base + a.r) (omega arith)
