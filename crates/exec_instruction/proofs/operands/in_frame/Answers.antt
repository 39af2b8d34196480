-- `in_frame` meets its contract. Assumes nothing.
use Rattle.exec_instruction.proofs.Passing.{frame_below, frame-above}
use Rattle.exec_instruction.proofs.operands.in_frame.Goals as goal

pub returns-then-base-height : goal.returns-then-base-height
returns-then-base-height c = let a = c.args in λ w k. frame_below w a.base a.height k a.r c.if-base-height.true

pub returns : goal.returns
returns c = let a = c.args in λ w k. frame-above w a.base a.height k a.r c.if-base-height.false
