-- `in_four` meets its contract. Assumes nothing.
use Rattle.exec_instruction.proofs.Passing.{and_at}
use Rattle.exec_instruction.proofs.operands.in_four.Goals as goal

pub returns : goal.returns
returns c = λ w k. and_at c.both.ensures (c.in_frame.ensures w k) (c.in_three.ensures w k)
