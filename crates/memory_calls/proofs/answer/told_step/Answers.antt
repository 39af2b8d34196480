-- `told_step` meets its contract, by the step. Assumes nothing.
use mathlib.Core.Path.{sym, ap}
use mathlib.Core.List.{List, [], ◌∷◌}
use mathlib.Core.Option.{some}
use Prim.Native.Nat.{ℕ}
use Rattle.model.specs.Answer.{step_number, step_word}
use Rattle.model.specs.declared.exec.Step.{Step}
use Rattle.memory_calls.specs.Answer.{step_code}
use Rattle.memory_calls.proofs.answer.told_step.Goals as goal

-- `told_step` meets its contract, by the step. Assumes nothing.
abbrev three : Step → List ℕ
three s = step_number s ∷ step_word s ∷ step_code (some s) ∷ []

pub returns-in-Next : goal.returns-in-Next
returns-in-Next c = sym (ap three c.in-Next.is)

pub returns-in-Frame : goal.returns-in-Frame
returns-in-Frame c = sym (ap three c.in-Frame.is)

pub returns-in-Fault : goal.returns-in-Fault
returns-in-Fault c = rw (c.number.ensures, c.word.ensures) (sym (ap three c.in-Fault.is))

pub returns-in-Unwind : goal.returns-in-Unwind
returns-in-Unwind c = rw (c.number-in-Unwind.ensures, c.word-in-Unwind.ensures) (sym (ap three c.in-Unwind.is))
