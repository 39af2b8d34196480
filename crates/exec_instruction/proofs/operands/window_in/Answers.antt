-- `window_in` meets its contract. Assumes nothing.
use Rattle.exec_instruction.proofs.Passing.{under-below, under-above}
use Rattle.exec_instruction.proofs.operands.window_in.Goals as goal

pub returns-then-base-height : goal.returns-then-base-height
returns-then-base-height c = let a = c.args in λ w k. under-below w a.base a.height k a.dst a.argc c.if-base-height.true

pub returns : goal.returns
returns c = let a = c.args in λ w k. under-above w a.base a.height k a.dst a.argc c.if-base-height.false
