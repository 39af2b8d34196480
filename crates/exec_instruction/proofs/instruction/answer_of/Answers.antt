-- `answer_of` meets the definition, by the step. Assumes nothing.
use mathlib.Core.Path.{refl, sym, ◌∙◌}
use Rattle.exec_instruction.proofs.Gated.{unpaid-as, fault-as, stepped-as}
use Rattle.exec_instruction.proofs.instruction.answer_of.Goals as goal

pub returns-then-number-eq10 : goal.returns-then-number-eq10
returns-then-number-eq10 c = unpaid-as c.args.taken c.args.step c.in-Fault.f c.in-Fault.is (sym c.number.ensures ∙ c.if-number-eq10.true)

pub returns-in-Next : goal.returns-in-Next
returns-in-Next c = stepped-as c.args.taken c.args.step _ c.in-Next.is refl

pub returns-in-Frame : goal.returns-in-Frame
returns-in-Frame c = stepped-as c.args.taken c.args.step _ c.in-Frame.is refl

pub returns-else-number-eq10 : goal.returns-else-number-eq10
returns-else-number-eq10 c = fault-as c.args.taken c.args.step c.in-Fault.f c.in-Fault.is (λ e. c.if-number-eq10.false (c.number.ensures ∙ e))

pub returns-in-Unwind : goal.returns-in-Unwind
returns-in-Unwind c = stepped-as c.args.taken c.args.step _ c.in-Unwind.is refl
