-- Soundness is kept: the statement. Every call leaves a sound machine sound, an accepted set-up gives one, and so no call of
-- a list answers 11 for the machine's sake.
use Rattle.std.specs.Prelude.{◌≡◌, Bool, true, false, List, [], ◌∷◌, map, eqb}
use Rattle.heap.specs.declared.fault.Fault.{Fault}
use Rattle.model.specs.Program.{Setup, setup_ok}
use Rattle.model.specs.World.{World, fresh}
use Rattle.model.specs.Sound.{sound}
use Rattle.model.specs.Answer.{number_of}
use Rattle.model.specs.Machine.{raisable}
use Rattle.model.specs.Call.{Operation, Call, SetUp, Do}
use Rattle.model.specs.Calls.{Row, Instruction, OnFrame, OnHost, Unwinds, Grants, Looks, Other, table}
use Rattle.model.specs.Step.{call, step, run}
use Rattle.model.specs.declared.call.Answer.{Answer}

-- only an unwind can be given what it does not take
abbrev pub raises : Row → Bool
raises (Instruction pc operands arm) = true
raises (OnFrame operands body) = true
raises (OnHost operands body) = true
raises (Unwinds f pc) = raisable f
raises (Grants n) = true
raises Looks = true
raises (Other body) = true

-- 01: 11, "set-up .. breaks the rules below, or `unwind` gets no such fault": what a call can be refused for by itself
abbrev pub well_put : Call → Bool
well_put (SetUp s) = setup_ok s
well_put (Do o) = raises (table o.op)

-- a run of calls that are not tested for 11
abbrev pub run_untested : World → List Operation → World
run_untested w [] = w
run_untested w (o ∷ os) = run_untested (call o.op w).world os

pub record SoundnessKept : Type 0 where
  -- every call leaves a sound machine sound
  pub kept : (w : World) (o : Operation) → sound w ≡ true → sound (step w (Do o)).world ≡ true
  -- an accepted set-up gives a sound machine
  pub begun : (s : Setup) → setup_ok s ≡ true → sound (fresh s) ≡ true
  -- after every list of calls, set-ups among them, the machine is sound
  pub lasts : (s : Setup) (cs : List Call) → setup_ok s ≡ true → sound (run (fresh s) cs) ≡ true
  -- a call after such a list answers 11 exactly if it is a set-up with bad numbers, or an unwind with no such fault
  pub answers : (s : Setup) (cs : List Call) (c : Call) → setup_ok s ≡ true → eqb (number_of (step (run (fresh s) cs) c).answer) 11 ≡ true → well_put c ≡ false
  pub refused : (s : Setup) (cs : List Call) (c : Call) → setup_ok s ≡ true → well_put c ≡ false → (step (run (fresh s) cs) c).answer ≡ Answer.Refused Fault.Unsound
  -- so one test is enough: from a sound machine the calls do the same without it
  pub once : (w : World) (os : List Operation) → sound w ≡ true → run w (map Do os) ≡ run_untested w os
