-- How a wrong engine is made of `step`: it leaves another world, or answers another number, at calls of one kind, or at entries, or where
-- somebody leaves; or another thing is seen of it.
use Rattle.std.specs.Prelude.{ℕ, Bool, false, ◌&&◌, List, [], ◌∷◌, length, eqb, ltb}
use Rattle.std.proofs.Math.Option.{Option, none, some}
use Rattle.lists.specs.Pick.{pick}
use Rattle.heap.specs.declared.object.CoroState.{CoroState}
use Rattle.model.specs.Object.{Core}
use Rattle.model.specs.World.{World, with_fuel}
use Rattle.model.specs.Heap.{change_coro}
use Rattle.model.specs.Answer.{number_of}
use Rattle.model.specs.Call.{Call}
use Rattle.model.specs.Step.{step}
use Rattle.model.specs.declared.machine.Active.{Active}
use Rattle.model.specs.declared.call.Op.{Op}
use Rattle.claims_model.specs.Engine.{View, Engine, seen_created, state_is}
use Rattle.claims_model.specs.Steps.{view_of, model_op, model_asks, looks}

-- ---- what is altered

-- the world that it leaves, and the number that it answers
abbrev pub altered_by : (World → Call → World) → (World → Call → ℕ) → Engine
altered_by f g = record { State = World; Call = Call; op = model_op; asks = model_asks; view = view_of; next = f; refuel = λ w x. with_fuel x w; number = g; look = looks }

-- it leaves another world than `step` does; it answers otherwise
abbrev pub leaving : (World → Call → World) → Engine
leaving f = altered_by f (λ w k. number_of (step w k).answer)

abbrev pub answering : (World → Option Op → ℕ → ℕ) → Engine
answering f = altered_by (λ w k. (step w k).world) (λ w k. f w (model_op k) (number_of (step w k).answer))

-- another thing is seen
abbrev pub seeing : (View → View) → Engine
seeing f = record { State = World; Call = Call; op = model_op; asks = model_asks; view = λ w. f (view_of w); next = λ w k. (step w k).world; refuel = λ w x. with_fuel x w; number = λ w k. number_of (step w k).answer; look = looks }

-- ---- calls of one kind

-- the calls in the order of 01's table
abbrev pub place : Option Op → ℕ
place (some (Op.CoroNew pc dst f argc)) = 0
place (some (Op.CoroNewIndirect pc dst callee argc)) = 1
place (some (Op.Spawn pc dst callee argc)) = 2
place (some (Op.Yield pc dst src)) = 3
place (some (Op.YieldKv pc dst src key)) = 4
place (some (Op.Await pc dst src)) = 5
place (some (Op.Resume pc dst c src)) = 6
place (some (Op.ResumeThrow pc dst c src)) = 7
place (some (Op.CoroClose pc dst c src)) = 8
place (some (Op.CoroStatus pc dst c)) = 9
place (some (Op.CoroCurrent pc dst)) = 10
place (some (Op.CoroKey pc dst c)) = 11
place (some (Op.CoroResult pc dst c)) = 12
place (some (Op.IterNext pc has iter val src)) = 13
place (some (Op.Finish kind x)) = 14
place (some (Op.Unwind f pc)) = 15
place (some (Op.SpawnTask x)) = 16
place (some (Op.HostCall f)) = 17
place (some (Op.HostEntry c x)) = 18
place (some (Op.FunctionCall pc f cont)) = 19
place (some (Op.PutWord r x)) = 20
place (some (Op.MakeIterator x)) = 21
place (some Op.TakeOutcome) = 22
place (some (Op.HandOver x)) = 23
place (some (Op.Grant n)) = 24
place (some Op.StopRun) = 25
place (some Op.Look) = 26
place none = 27

abbrev pub spawn : ℕ
spawn = 2

abbrev pub yield : ℕ
yield = 3

abbrev pub yield_kv : ℕ
yield_kv = 4

abbrev pub await : ℕ
await = 5

abbrev pub resume : ℕ
resume = 6

abbrev pub resume_throw : ℕ
resume_throw = 7

abbrev pub coro_close : ℕ
coro_close = 8

abbrev pub coro_status : ℕ
coro_status = 9

abbrev pub coro_current : ℕ
coro_current = 10

abbrev pub coro_key : ℕ
coro_key = 11

abbrev pub coro_result : ℕ
coro_result = 12

abbrev pub finish : ℕ
finish = 14

abbrev pub unwind : ℕ
unwind = 15

abbrev pub host_call : ℕ
host_call = 17

abbrev pub function_call : ℕ
function_call = 19

abbrev pub put_word : ℕ
put_word = 20

abbrev pub grant : ℕ
grant = 24

abbrev pub look : ℕ
look = 26

abbrev pub set_up : ℕ
set_up = 27

abbrev pub is_a : ℕ → Option Op → Bool
is_a n k = eqb (place k) n

-- such a call leaves f of what it found and of what `step` leaves
abbrev pub leaving_at : ℕ → (World → World → World) → Engine
leaving_at n f = leaving (λ w k. let z = (step w k).world in pick (is_a n (model_op k)) (f w z) z)

-- such a call is answered m, and done; it is answered m, and not done
abbrev pub answering_at : ℕ → ℕ → Engine
answering_at n m = answering (λ w k a. pick (is_a n k) m a)

abbrev pub refusing : ℕ → ℕ → Engine
refusing n m = altered_by (λ w k. pick (is_a n (model_op k)) w (step w k).world) (λ w k. pick (is_a n (model_op k)) m (number_of (step w k).answer))

-- whatever `step` answers n is answered m
abbrev pub answering_for : ℕ → ℕ → Engine
answering_for n m = answering (λ w k a. pick (eqb a n) m a)

-- ---- entries, and where somebody leaves

-- the chain gets longer; shorter
abbrev pub entering : (World → World → World) → Engine
entering f = leaving (λ w k. let z = (step w k).world in pick (ltb (length w.chain) (length z.chain)) (f w z) z)

abbrev pub exiting : (World → World → World) → Engine
exiting f = leaving (λ w k. let z = (step w k).world in pick (ltb (length z.chain) (length w.chain)) (f w z) z)

-- who is entered has not begun
abbrev pub begins : World → List Active → Bool
begins w [] = false
begins w (a ∷ chain) = state_is (view_of w) seen_created a.coro

abbrev pub beginning : (World → World → World) → Engine
beginning f = entering (λ w z. pick (begins w z.chain) (f w z) z)

-- a coroutine's state, and nothing else of it
abbrev pub with_state : CoroState → Core → Core
with_state s k = record { state = s; regs = k.regs; frames = k.frames; waiting = k.waiting }

abbrev pub making : ℕ → CoroState → World → World
making c s z = change_coro c (with_state s) (λ r. r) z
