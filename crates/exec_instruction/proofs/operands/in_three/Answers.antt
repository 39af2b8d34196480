-- `in_three` meets its contract. Assumes nothing.
use Rattle.exec_instruction.proofs.Passing.{and_at}
use Rattle.exec_instruction.proofs.operands.in_three.Goals as goal

pub returns : goal.returns
returns c = λ w k. and_at c.both.ensures (c.in_frame.ensures w k) (c.in_two.ensures w k)
