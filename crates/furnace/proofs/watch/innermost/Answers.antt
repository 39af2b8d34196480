-- `innermost` meets its contract. Assumes nothing.
use Rattle.std.proofs.Common.{◌∙◌}
use Rattle.furnace.proofs.Words.{none_runs, one-runs}
use Rattle.furnace.proofs.watch.innermost.Goals as goal

pub returns-then-n-eq0 : goal.returns-then-n-eq0
returns-then-n-eq0 c = none_runs c.args.chain.now c.args.n c.if-n-eq0.true

pub returns : goal.returns
returns c = c.coroutine.ensures ∙ one-runs c.args.chain.now c.args.n c.if-n-eq0.false
