-- What a call leaves and answers: what the statements below speak of.
use Rattle.std.specs.Prelude.{ℕ, ◌≡◌, true}
use Rattle.model.specs.World.{World, After, after}
use Rattle.model.specs.Answer.{number_of}
use Rattle.model.specs.Call.{Operation, Do, typed}
use Rattle.model.specs.Step.{step}
use Rattle.model.specs.declared.call.Op.{Op}
use Rattle.model.specs.declared.call.Answer.{Answer}

abbrev pub does : World → Operation → After Answer
does w o = after (step w (Do o)).world (step w (Do o)).answer

-- 0 if accepted
abbrev pub number : World → Operation → ℕ
number w o = number_of (step w (Do o)).answer

-- a call whose operands their types can hold
abbrev pub operation : (o : Op) → typed o ≡ true → Operation
operation o t = record { op = o; within = t }
