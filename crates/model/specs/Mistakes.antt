-- 01: "Mistakes to keep out", each as a run that would come out otherwise.
use Rattle.std.specs.Prelude.{◌^◌, ◌-◌, ◌≡◌, refl, true, List, [], ◌∷◌, ◌++◌}
use Rattle.heap.specs.declared.heap.ResultKind.{ResultKind}
use Rattle.model.specs.World.{World}
use Rattle.model.specs.Step.{tested}
use Rattle.model.specs.Compute.{computed}
use Rattle.model.specs.Example.{c, d, holding, reached, number, look}
use Rattle.model.specs.Examples.{integer}
use Rattle.model.specs.Sound.{sound}
use Rattle.model.specs.Runs.{caller, body, begun, yielded}
use Rattle.model.specs.declared.machine.Cont.{Cont}
use Rattle.model.specs.declared.call.Op.{Op}

-- ---- "Charging a saved size twice."

-- entered by the host it yields from its second frame, of one register, and yields there again
abbrev pub grown : List Op
grown = holding 1 0 ++ (Op.StopRun ∷ Op.HostEntry c 0 ∷ Op.FunctionCall 7 0 Cont.Discard ∷ Op.Yield 8 0 0 ∷ [])

abbrev pub again : List Op
again = grown ++ (Op.HostEntry c 0 ∷ Op.Yield 9 0 0 ∷ [])

-- ---- "Writing `has` before `val`."

abbrev pub same_register : List Op
same_register =
    holding 3 1
    ++ (Op.MakeIterator c ∷ Op.PutWord 1 d ∷ Op.IterNext 2 2 1 2 0 ∷ Op.PutWord 0 7 ∷ Op.Yield 8 1 0 ∷ [])

-- ---- "Storing pc before Yield's 5 or 7."

-- no coroutine runs; and one whose largest key is 2^63 - 1
abbrev pub outside : List Op
outside = holding 1 1

abbrev pub last_key : List Op
last_key = holding 1 1 ++ (Op.Resume 2 1 0 1 ∷ (integer 1 (2 ^ 63 - 1) ++ (Op.YieldKv 7 0 0 1 ∷ Op.Resume 3 1 0 1 ∷ [])))

abbrev pub after_yield : List Op → World
after_yield cs = (tested (reached cs) (Op.Yield 99 0 0)).world

-- ---- what they do

-- one word and one frame beyond creation's: 8 + 32 bytes, once
pub grows : (reached grown).used ≡ 240
unfolding computed
grows = refl

pub charged-once : (reached again).used ≡ 240
unfolding computed
charged-once = refl

pub has_last : look same_register ≡ c ∷ d ∷ 1 ∷ 0 ∷ 0 ∷ 0 ∷ []
unfolding computed
has_last = refl

pub five : number outside (Op.Yield 99 0 0) ≡ 5
unfolding computed
five = refl

pub pc-after-five : (after_yield outside).frames ≡ caller 0 ∷ []
unfolding computed
pc-after-five = refl

pub seven : number last_key (Op.Yield 99 0 0) ≡ 7
unfolding computed
seven = refl

pub pc-after-seven : (after_yield last_key).frames ≡ body 8 2 ∷ caller 3 ∷ []
unfolding computed
pc-after-seven = refl

-- ---- 01: "Sound", after runs that an engine without its upkeep would leave unsound

-- two coroutines in rows 0 and 1, of which the second returns
abbrev pub second_ends : List Op
second_ends = holding 3 1 ++ (Op.CoroNew 2 1 1 0 ∷ Op.Resume 3 2 1 2 ∷ Op.Finish ResultKind.None 0 ∷ [])

abbrev pub task_twice : List Op
task_twice = holding 3 1 ++ (Op.SpawnTask c ∷ Op.SpawnTask c ∷ [])

pub record StaysSound : Type 0 where
  -- "one row per unfinished coroutine": a row is given back at an end
  pub ended : sound (reached second_ends) ≡ true
  -- "active floors rise, each at a Coro frame"
  pub floor : sound (reached begun) ≡ true
  -- "each not twice in one queue"
  pub queued : sound (reached task_twice) ≡ true
  -- "the first Coro at base 0": saved bases are lowered
  pub lowered : sound (reached yielded) ≡ true

pub stays-sound : StaysSound
unfolding computed
stays-sound = record { ended = refl; floor = refl; queued = refl; lowered = refl }
