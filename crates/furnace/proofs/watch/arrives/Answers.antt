-- `arrives` meets its contract. Assumes nothing.
use Rattle.furnace.proofs.Watching.{arrives-whole, arrives-none}
use Rattle.furnace.proofs.watch.arrives.Goals as goal

pub returns-then-n-eq0 : goal.returns-then-n-eq0
returns-then-n-eq0 c =
    let a = c.args in
    arrives-whole a.n a.sent c.if-n-eq0.true

pub returns-else-n-eq0 : goal.returns-else-n-eq0
returns-else-n-eq0 c =
    let a = c.args in
    arrives-none a.n a.sent c.if-n-eq0.false
