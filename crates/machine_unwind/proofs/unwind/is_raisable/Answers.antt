-- `is_raisable` meets its contract, by the number. Assumes nothing.
use Rattle.machine_unwind.proofs.Raising.{raises-word, raises-none, raises-some}
use Rattle.machine_unwind.proofs.unwind.is_raisable.Goals as goal

pub returns-then-n-eq17 : goal.returns-then-n-eq17
returns-then-n-eq17 c = raises-word c.args.fault c.number-n.result c.number-n.ensures c.if-n-eq17.true

pub returns-then-n-eq0 : goal.returns-then-n-eq0
returns-then-n-eq0 c = raises-none c.args.fault c.number-n.result c.number-n.ensures c.if-n-eq0.true

pub returns : goal.returns
returns c = raises-some c.args.fault c.number-n.result c.number-n.ensures c.if-n-eq17.false c.if-n-eq0.false
