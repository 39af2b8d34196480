-- The promise is not empty: these are splits of lists of calls in which every premise of demand 3 holds, by computation; what the calls
-- answer; and one split as literal lists.
use Rattle.std.specs.Prelude.{ℕ, suc, ◌-◌, ◌≡◌, Bool, true, false, List, [], ◌∷◌, ◌++◌, map, take, drop, get_or, None, Ok}
use Rattle.model.specs.Program.{setup_ok}
use Rattle.model.specs.World.{World, fresh}
use Rattle.model.specs.Frames.{top_pc}
use Rattle.model.specs.Answer.{number_of}
use Rattle.model.specs.Call.{Call, SetUp}
use Rattle.model.specs.Coro.{coro_state}
use Rattle.model.specs.Step.{run, answers}
use Rattle.heap.specs.declared.object.CoroState.{CoroState}
use Rattle.model.specs.declared.machine.Cont.{Cont}
use Rattle.model.specs.declared.machine.Frame.{Frame}
use Rattle.model.specs.declared.machine.Fuel.{Fuel}
use Rattle.claims_model.specs.Engine.{Turn, turn_call, turn_fuel}
use Rattle.claims_model.specs.Premises.{premises}
use Rattle.claims_model.specs.Steps.{steps}
use Rattle.claims_model.specs.Story.{wide, f, c, d, story, part, past, with_refused_set_up}

-- the numbers that the calls answer, made after others
abbrev pub numbers_of : List Call → List Call → List ℕ
numbers_of before ks = map number_of (answers (run (fresh wide) before) ks)

abbrev pub numbers : ℕ → List ℕ
numbers n = numbers_of (past n) (part n)

abbrev pub nth : List Call → ℕ → Call
nth ks i = get_or ks i (SetUp wide)

-- the calls between two positions
abbrev pub between : List Call → ℕ → ℕ → List (Turn Call)
between ks i j = map turn_call (take (j - suc i) (drop (suc i) ks))

-- another fuel record; and the calls of `with_refused_set_up` between 13 and 23, and then that record
abbrev pub other : Fuel
other = record { fuel = 500; bank = None; ready = false }

abbrev pub waiting : List (Turn Call)
waiting = between with_refused_set_up 13 23 ++ (turn_fuel other ∷ [])

-- the world before call i
abbrev pub world_before : List Call → List Call → ℕ → World
world_before before ks i = run (fresh wide) (before ++ take i ks)

-- of the calls ks, made after others, calls i, j and l are a suspension of v, its next entry, and its next yield, await or return
abbrev pub meets_in : List Call → List Call → ℕ → ℕ → ℕ → ℕ → Bool
meets_in before ks i j l v = premises steps v (world_before before ks i) (nth ks i) (between ks i j) (nth ks j) (between ks j l) (nth ks l)

abbrev pub part_meets : ℕ → ℕ → ℕ → ℕ → ℕ → Bool
part_meets n i j l v = meets_in (past n) (part n) i j l v

abbrev pub frame : ℕ → ℕ → ℕ → ℕ → Cont → Frame
frame func pc base closure cont = record { func = func; pc = pc; base = base; closure = closure; cont = cont }

pub record Witness : Type 0 where
  pub accepted : setup_ok wide ≡ true
  pub deep-meets : part_meets 0 6 20 22 c ≡ true
  pub nested-inner : part_meets 1 8 15 17 d ≡ true
  pub nested-outer : part_meets 1 9 13 18 c ≡ true
  pub loop-awaits : part_meets 2 8 9 10 c ≡ true
  pub loop-resumed : part_meets 2 10 11 12 c ≡ true
  pub loop-turns : part_meets 2 12 13 14 c ≡ true
  pub loop-ends : part_meets 2 14 15 16 c ≡ true
  pub host-meets : part_meets 3 5 7 9 c ≡ true
  pub ignoring-meets : part_meets 4 5 7 9 c ≡ true
  pub awaiting-meets : part_meets 5 9 10 11 c ≡ true
  pub cleaning-meets : part_meets 6 5 7 8 c ≡ true
  pub operand-meets : part_meets 7 5 7 8 c ≡ true
  pub catching-meets : part_meets 8 5 7 9 c ≡ true
  pub through-meets : part_meets 9 5 7 10 c ≡ true
  pub twice_meets : part_meets 10 13 22 25 c ≡ true
  pub held-meets : meets_in (past 10) with_refused_set_up 13 23 26 c ≡ true
  pub refuelled-meets : premises steps c (world_before (past 10) with_refused_set_up 13) (nth with_refused_set_up 13) waiting (nth with_refused_set_up 23) (between with_refused_set_up 23 26) (nth with_refused_set_up 26) ≡ true
  pub stopped-meets : part_meets 11 5 7 8 c ≡ true
  pub yielding-meets : part_meets 12 5 7 9 c ≡ true
  pub pair-first : part_meets 13 6 11 12 c ≡ true
  pub pair-second : part_meets 13 10 13 14 d ≡ true
  -- what the calls answer
  pub deep-numbers : numbers 0 ≡ 0 ∷ 0 ∷ 0 ∷ 0 ∷ 0 ∷ 0 ∷ 0 ∷ 0 ∷ 0 ∷ 0 ∷ 0 ∷ 0 ∷ 0 ∷ 4 ∷ 0 ∷ 0 ∷ 0 ∷ 0 ∷ 0 ∷ 0 ∷ 0 ∷ 0 ∷ 0 ∷ []
  pub nested-numbers : numbers 1 ≡ 0 ∷ 0 ∷ 0 ∷ 0 ∷ 0 ∷ 0 ∷ 0 ∷ 0 ∷ 0 ∷ 0 ∷ 0 ∷ 0 ∷ 0 ∷ 0 ∷ 0 ∷ 0 ∷ 0 ∷ 0 ∷ 0 ∷ []
  pub loop-numbers : numbers 2 ≡ 0 ∷ 0 ∷ 0 ∷ 0 ∷ 0 ∷ 0 ∷ 0 ∷ 0 ∷ 0 ∷ 0 ∷ 2 ∷ 0 ∷ 0 ∷ 0 ∷ 0 ∷ 0 ∷ 0 ∷ []
  pub host-numbers : numbers 3 ≡ 0 ∷ 0 ∷ 0 ∷ 0 ∷ 0 ∷ 0 ∷ 0 ∷ 0 ∷ 0 ∷ 0 ∷ []
  pub ignoring-numbers : numbers 4 ≡ 0 ∷ 0 ∷ 0 ∷ 0 ∷ 0 ∷ 0 ∷ 0 ∷ 17 ∷ 0 ∷ 6 ∷ []
  pub awaiting-numbers : numbers 5 ≡ 0 ∷ 0 ∷ 0 ∷ 0 ∷ 0 ∷ 0 ∷ 0 ∷ 17 ∷ 0 ∷ 0 ∷ 0 ∷ 6 ∷ []
  pub cleaning-numbers : numbers 6 ≡ 0 ∷ 0 ∷ 0 ∷ 0 ∷ 0 ∷ 0 ∷ 0 ∷ 17 ∷ 0 ∷ []
  pub operand-numbers : numbers 7 ≡ 0 ∷ 0 ∷ 0 ∷ 0 ∷ 0 ∷ 0 ∷ 0 ∷ 17 ∷ 0 ∷ []
  pub catching-numbers : numbers 8 ≡ 0 ∷ 0 ∷ 0 ∷ 0 ∷ 0 ∷ 0 ∷ 0 ∷ 17 ∷ 0 ∷ 0 ∷ []
  pub through-numbers : numbers 9 ≡ 0 ∷ 0 ∷ 0 ∷ 0 ∷ 0 ∷ 0 ∷ 0 ∷ 17 ∷ 0 ∷ 0 ∷ 0 ∷ []
  pub held-numbers : numbers_of (past 10) with_refused_set_up ≡ 0 ∷ 12 ∷ 0 ∷ 0 ∷ 15 ∷ 0 ∷ 0 ∷ 0 ∷ 0 ∷ 0 ∷ 0 ∷ 0 ∷ 0 ∷ 0 ∷ 11 ∷ 0 ∷ 0 ∷ 13 ∷ 0 ∷ 0 ∷ 0 ∷ 0 ∷ 0 ∷ 0 ∷ 0 ∷ 0 ∷ 0 ∷ []
  pub stopped-numbers : numbers 11 ≡ 0 ∷ 0 ∷ 0 ∷ 0 ∷ 0 ∷ 0 ∷ 0 ∷ 0 ∷ 0 ∷ []
  pub yielding-numbers : numbers 12 ≡ 0 ∷ 0 ∷ 0 ∷ 0 ∷ 0 ∷ 0 ∷ 0 ∷ 17 ∷ 0 ∷ 0 ∷ []
  pub pair-numbers : numbers 13 ≡ 0 ∷ 0 ∷ 0 ∷ 0 ∷ 0 ∷ 0 ∷ 0 ∷ 0 ∷ 0 ∷ 0 ∷ 0 ∷ 0 ∷ 0 ∷ 0 ∷ 0 ∷ []
  -- one split as lists, `held`: what the suspending call finds of c, from base 4 up ..
  pub found-stack : (world_before (past 10) with_refused_set_up 13).stack ≡ c ∷ f ∷ 66 ∷ 0 ∷ 11 ∷ 0 ∷ 0 ∷ 0 ∷ 0 ∷ 22 ∷ 33 ∷ 0 ∷ []
  pub found-frames : (world_before (past 10) with_refused_set_up 13).frames ≡ frame 1 0 8 0 (Cont.Dyn 2) ∷ frame 0 5 4 f Cont.Coro ∷ frame 0 2 0 0 Cont.Entry ∷ []
  -- .. and what the entering call leaves: the same from base 12 up, moved by 8, with 44 in the callee's register 3, and its pc stepped
  pub back-stack : (world_before (past 10) with_refused_set_up 24).stack ≡ c ∷ 22 ∷ 66 ∷ 0 ∷ 0 ∷ 0 ∷ 0 ∷ 0 ∷ c ∷ 0 ∷ 44 ∷ f ∷ 11 ∷ 0 ∷ 0 ∷ 0 ∷ 0 ∷ 22 ∷ 33 ∷ 44 ∷ []
  pub back-frames : (world_before (past 10) with_refused_set_up 24).frames
      ≡ frame 1 8 16 0 (Cont.Dyn 2) ∷ frame 0 5 12 f Cont.Coro ∷ frame 0 15 8 0 Cont.Discard ∷ frame 0 5 4 0 Cont.Discard ∷ frame 0 5 0 0 Cont.Entry ∷ []
  -- and at its return: the caller's words and frames, with 77 in register 1, and the pc stepped
  pub left-stack : (world_before (past 10) with_refused_set_up 27).stack ≡ c ∷ 22 ∷ 66 ∷ 0 ∷ 0 ∷ 0 ∷ 0 ∷ 0 ∷ c ∷ 77 ∷ 44 ∷ f ∷ []
  pub left-frames : (world_before (past 10) with_refused_set_up 27).frames ≡ frame 0 16 8 0 Cont.Discard ∷ frame 0 5 4 0 Cont.Discard ∷ frame 0 5 0 0 Cont.Entry ∷ []
  -- the pc 2^32 - 1 steps to 0
  pub wraps : top_pc (run (fresh wide) (take 21 (part 0))).frames ≡ 0
  -- in part 9 the inner coroutine fails, and the outer one returns
  pub inner-fails : coro_state (run (fresh wide) (past 10)) d ≡ Ok CoroState.Failed
  pub outer-returns : coro_state (run (fresh wide) (past 10)) c ≡ Ok CoroState.Returned
  -- `has` = `val` ends as 1
  pub has-is-one : (run (fresh wide) (past 2 ++ take 15 (part 2))).stack ≡ c ∷ d ∷ 1 ∷ 7 ∷ []
