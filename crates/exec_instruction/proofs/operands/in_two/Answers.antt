-- `in_two` meets its contract. Assumes nothing.
use mathlib.Core.Path.{refl}
use Rattle.exec_instruction.proofs.Passing.{and_at}
use Rattle.exec_instruction.proofs.operands.in_two.Goals as goal

pub returns : goal.returns
returns c = λ w k. and_at c.both-2.ensures (c.in_frame.ensures w k) (and_at c.both.ensures (c.in_frame-2.ensures w k) refl)
