-- `copied` meets its contract, by its test. Assumes nothing.
use Rattle.coro_create.proofs.Parts.{copied_all, copied_none}
use Rattle.coro_create.proofs.create.copied.Goals as goal

pub returns-then-n-regs : goal.returns-then-n-regs
returns-then-n-regs c = copied_all c.args.n c.args.regs c.if-n-regs.true

pub returns-else-n-regs : goal.returns-else-n-regs
returns-else-n-regs c = copied_none c.args.n c.args.regs c.if-n-regs.false
