-- What each call of 01 leaves and answers.
use Rattle.std.specs.Prelude.{ℕ, ◌≡◌, refl, true, List, [], ◌∷◌}
use Rattle.lists.specs.Pick.{pick}
use Rattle.heap.specs.declared.fault.Fault.{Fault}
use Rattle.model.specs.Lists.{each, each_first, each-rest}
use Rattle.model.specs.Program.{setup_ok}
use Rattle.model.specs.World.{World, After, fresh}
use Rattle.model.specs.Machine.{unwind}
use Rattle.model.specs.Gate.{refused, instruction, on_frame, on_host}
use Rattle.model.specs.Added.{accepted, grant, registers}
use Rattle.model.specs.Sound.{sound}
use Rattle.model.specs.Call.{Call, SetUp, Do, typed, as_call}
use Rattle.model.specs.Calls.{Row, Instruction, OnFrame, OnHost, Unwinds, Grants, Looks, Other, table}
use Rattle.model.specs.declared.call.Op.{Op}
use Rattle.model.specs.declared.call.Answer.{Answer}

-- what a call leaves and answers, and the words that a look sees
pub record Out : Type 0 where
  pub world : World
  pub answer : Answer
  pub seen : List ℕ

abbrev pub out : After Answer → List ℕ → Out
out a seen = record { world = a.world; answer = a.answer; seen = seen }

abbrev pub told : After Answer → Out
told a = out a []

-- what a row means
abbrev pub doing : Row → World → Out
doing (Instruction pc operands arm) w = told (instruction pc (operands w) arm w)
doing (OnFrame operands body) w = told (on_frame (operands w) body w)
doing (OnHost operands body) w = told (on_host (operands w) body w)
doing (Unwinds f pc) w = told (unwind f pc w)
doing (Grants n) w = told (grant n w)
doing Looks w = out (accepted w) (registers w)
doing (Other body) w = told (body w)

-- a call on a sound machine
unfoldable pub call : Op → World → Out
call o w = doing (table o) w

-- 01: "Each tests 11 first": an operation for the machine, a set-up for the numbers that it is given
unfoldable pub tested : World → Op → Out
tested w o = pick (sound w) (call o w) (told (refused w Fault.Unsound))

unfoldable pub step : World → Call → Out
step w (SetUp s) = told (pick (setup_ok s) (accepted (fresh s)) (refused w Fault.Unsound))
step w (Do o) = tested w o.op

-- the world after a list of calls
abbrev pub run : World → List Call → World
run w [] = w
run w (c ∷ cs) = run (step w c).world cs

-- the answers of a list of calls
abbrev pub answers : World → List Call → List Answer
answers w [] = []
answers w (c ∷ cs) = (step w c).answer ∷ answers (step w c).world cs

-- operations as calls
abbrev pub calls : (os : List Op) → each typed os ≡ true → List Call
calls [] h = []
calls (o ∷ os) h = as_call o (each_first typed o os h) ∷ calls os (each-rest typed o os h)

-- the world after them, in short
abbrev pub run_ops : World → List Op → World
run_ops w [] = w
run_ops w (o ∷ os) = run_ops (tested w o).world os

pub run-calls : (w : World) (os : List Op) (h : each typed os ≡ true) → run w (calls os h) ≡ run_ops w os
unfolding step
run-calls w [] h = refl
run-calls w (o ∷ os) h = run-calls (tested w o).world os (each-rest typed o os h)
