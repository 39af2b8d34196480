-- Short runs, by computation: what a resume, a yield, a loop, a close and a cleanup do.
use Rattle.std.specs.Prelude.{ℕ, ◌≡◌, refl, true, false, List, [], ◌∷◌, ◌++◌, pos, Some, None, Ok}
use Rattle.heap.specs.Word.{nil, int_word}
use Rattle.heap.specs.declared.fault.Fault.{Fault}
use Rattle.heap.specs.declared.object.CoroState.{CoroState}
use Rattle.model.specs.Object.{Object}
use Rattle.model.specs.Heap.{object}
use Rattle.model.specs.Coro.{coro_state}
use Rattle.model.specs.Step.{tested}
use Rattle.model.specs.Compute.{computed}
use Rattle.model.specs.Example.{c, d, holding, reached, look}
use Rattle.model.specs.declared.machine.Cont.{Cont}
use Rattle.model.specs.declared.machine.Driver.{Driver}
use Rattle.model.specs.declared.machine.Frame.{Frame}
use Rattle.heap.specs.declared.heap.ResultKind.{ResultKind}
use Rattle.model.specs.declared.call.Op.{Op}
use Rattle.model.specs.declared.call.Answer.{Answer}

-- the caller, and the body of the coroutine above it
abbrev pub caller : ℕ → Frame
caller pc = record { func = 1; pc = pc; base = 0; closure = nil; cont = Cont.Entry }

abbrev pub body : ℕ → ℕ → Frame
body pc base = record { func = 1; pc = pc; base = base; closure = nil; cont = Cont.Coro }

-- ---- 1. A caller of two registers resumes a new coroutine: its two registers stand above the caller's.

abbrev pub begun : List Op
begun = holding 1 1 ++ (Op.Resume 2 1 0 1 ∷ [])

pub record Begun : Type 0 where
  pub stack : (reached begun).stack ≡ c ∷ 0 ∷ 0 ∷ 0 ∷ []
  pub frames : (reached begun).frames ≡ body 0 2 ∷ caller 2 ∷ []
  pub chain : (reached begun).chain ≡ record { coro = c; floor = 1; driver = Driver.Resume 1 } ∷ []

pub run-begun : Begun
unfolding computed
run-begun = record { stack = refl; frames = refl; chain = refl }

-- ---- 2. It yields 7 at pc 8 and waits at its register 1: the caller has 7 in its register 1, and steps to pc 3.

abbrev pub yielded : List Op
yielded = begun ++ (Op.PutWord 0 7 ∷ Op.Yield 8 1 0 ∷ [])

pub record Yielded : Type 0 where
  pub stack : (reached yielded).stack ≡ c ∷ 7 ∷ []
  pub frames : (reached yielded).frames ≡ caller 3 ∷ []
  pub chain : (reached yielded).chain ≡ []

pub run-yielded : Yielded
unfolding computed
run-yielded = record { stack = refl; frames = refl; chain = refl }

-- ---- 3. The caller calls a function of two registers, which resumes it with 5: it stands four words up, its 7 still in
-- register 0, the sent 5 in register 1, and goes on at pc 9.

abbrev pub resumed : List Op
resumed = yielded ++ (Op.FunctionCall 4 1 Cont.Discard ∷ Op.PutWord 0 c ∷ Op.PutWord 1 5 ∷ Op.Resume 6 0 0 1 ∷ [])

pub record Resumed : Type 0 where
  pub stack : (reached resumed).stack ≡ c ∷ 7 ∷ c ∷ 5 ∷ 7 ∷ 5 ∷ []
  pub frames : (reached resumed).frames ≡ body 9 4 ∷ record { func = 1; pc = 6; base = 2; closure = nil; cont = Cont.Discard } ∷ caller 4 ∷ []

pub run-resumed : Resumed
unfolding computed
run-resumed = record { stack = refl; frames = refl }

-- ---- 4. A loop over a coroutine: iter_next with `has` 2, the iterator in 1, `val` 3, the source in 0. It yields 7 once and
-- returns: `has` is 1 with the value 7, then 0.

abbrev pub looping : List Op
looping =
    holding 3 1
    ++ (Op.MakeIterator c ∷ Op.PutWord 1 d ∷ Op.IterNext 2 2 1 3 0 ∷ Op.PutWord 0 7 ∷ Op.Yield 8 1 0 ∷ [])

abbrev pub looped : List Op
looped = looping ++ (Op.IterNext 2 2 1 3 0 ∷ Op.Finish ResultKind.None 0 ∷ [])

pub record Looped : Type 0 where
  pub first : look looping ≡ c ∷ d ∷ 1 ∷ 7 ∷ 0 ∷ 0 ∷ []
  pub key : object (reached looping) d ≡ Object.Iter c false (Some (int_word (pos 0)))
  pub last : look looped ≡ c ∷ d ∷ 0 ∷ 7 ∷ 0 ∷ 0 ∷ []
  pub done : object (reached looped) d ≡ Object.Iter c true (Some (int_word (pos 0)))

pub run-looped : Looped
unfolding computed
run-looped = record { first = refl; key = refl; last = refl; done = refl }

-- ---- 5. It is handed over, and the next instruction's charge closes it: nothing is sent, nil is thrown where it yielded, and
-- as nobody catches it the cleanup is over and the caller goes on where it was, at the pc of the instruction that did nothing yet.

abbrev pub handed : List Op
handed = yielded ++ (Op.HandOver c ∷ [])

abbrev pub cleaned : List Op
cleaned = handed ++ (Op.CoroCurrent 9 1 ∷ Op.Unwind (Fault.Throw nil) None ∷ [])

pub record Cleaned : Type 0 where
  pub starts : (tested (reached handed) (Op.CoroCurrent 9 1)).answer ≡ Answer.Cleanup 1
  pub ends : (tested (reached (handed ++ (Op.CoroCurrent 9 1 ∷ []))) (Op.Unwind (Fault.Throw nil) None)).answer ≡ Answer.Stopped
  pub stack : (reached cleaned).stack ≡ c ∷ 7 ∷ []
  pub frames : (reached cleaned).frames ≡ caller 9 ∷ []
  pub state : coro_state (reached cleaned) c ≡ Ok CoroState.Returned

pub run-cleaned : Cleaned
unfolding computed
run-cleaned = record { starts = refl; ends = refl; stack = refl; frames = refl; state = refl }
