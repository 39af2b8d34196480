-- An engine, and what is seen of it. All that is claimed here is claimed of an engine, whatever it is made of: it cites types and
-- list functions, and no definition of the machine (what a call announces, Says.antt says in words of its own).
use Rattle.std.specs.Prelude.{ℕ, Bool, false, ◌||◌, List, [], ◌∷◌, eqb, Option as RustOption}
use Rattle.std.proofs.Math.Option.{Option, none, some}
use Rattle.heap.specs.declared.object.CoroState.{CoroState}
use Rattle.model.specs.declared.program.Handler.{Handler}
use Rattle.model.specs.declared.machine.Frame.{Frame}
use Rattle.model.specs.declared.machine.Active.{Active}
use Rattle.model.specs.declared.machine.Fuel.{Fuel}
use Rattle.model.specs.declared.call.Op.{Op}

-- what is seen of a coroutine
pub record Seen : Type 0 where
  pub state : CoroState
  -- the words and frames that it has saved: of one that has not begun, what it begins with
  pub words : List ℕ
  pub frames : List Frame
  -- the register of the top one of them that waits for a word
  pub waits : ℕ
  -- the most that it has saved so far
  pub most_words : ℕ
  pub most_frames : ℕ
  -- whether it is being closed, and by which word
  pub closing : Bool
  pub signal : ℕ
  -- what it returned
  pub result : ℕ

-- what a set-up asks for, and only a set-up changes
pub record Rules : Type 0 where
  -- limits: the most frames, and the most words of the stack (a machine's own fields of these names count what is in use)
  pub depth : ℕ
  pub height : ℕ
  -- how many functions there are, and the registers and handlers of each
  pub functions : ℕ
  pub registers : ℕ → ℕ
  pub handlers : ℕ → List Handler
  -- the most bytes, and what a frame, an integer object and an error object cost
  pub memory : ℕ
  pub frame_cost : ℕ
  pub int_cost : ℕ
  pub error_cost : ℕ

-- what is seen of a machine
pub record View : Type 0 where
  -- from the bottom up
  pub stack : List ℕ
  -- from the top down; so are the running coroutines
  pub frames : List Frame
  pub chain : List Active
  -- the coroutine that a word names
  pub coro : ℕ → Option Seen
  -- whether a word names an iterator that is done
  pub done : ℕ → Bool
  -- the coroutines that wait for a cleanup
  pub queue : List ℕ
  pub fuel : Fuel
  pub rules : Rules
  -- the word that the next object gets, and whether there is no slot for it
  pub fresh : ℕ
  pub full : Bool
  -- the integer that a word stands for, as 64 bits
  pub integer : ℕ → RustOption ℕ
  -- the bytes in use
  pub used : ℕ

pub record Engine : Type 1 where
  pub State : Type 0
  pub Call : Type 0
  -- a call is one of 01's operations, or a set-up
  pub op : Call → Option Op
  -- what a set-up asks for
  pub asks : Call → Option Rules
  pub view : State → View
  pub next : State → Call → State
  -- with another fuel record
  pub refuel : State → Fuel → State
  -- 01: the number that it answers
  pub number : State → Call → ℕ
  -- the words that a look hands back
  pub look : State → List ℕ

-- a turn of the host: a call, or another fuel record, which the next call then finds. 01: "The fuel record stays with the host"
pub data Turn (A : Type 0) : Type 0 where
  turn_call : A → Turn A
  turn_fuel : Fuel → Turn A

abbrev pub run_turns : (e : Engine) → e.State → List (Turn e.Call) → e.State
run_turns e s [] = s
run_turns e s (turn_call k ∷ ts) = run_turns e (e.next s k) ts
run_turns e s (turn_fuel f ∷ ts) = run_turns e (e.refuel s f) ts

-- ---- states

-- 01: "State codes"
abbrev pub code : CoroState → ℕ
code CoroState.Created = 0
code CoroState.Running = 1
code CoroState.Yielded = 2
code CoroState.Awaiting = 3
code CoroState.Returned = 4
code CoroState.Failed = 5

abbrev pub seen_created : CoroState → Bool
seen_created s = eqb (code s) 0

abbrev pub seen_running : CoroState → Bool
seen_running s = eqb (code s) 1

abbrev pub seen_awaiting : CoroState → Bool
seen_awaiting s = eqb (code s) 3

-- Yielded or Awaiting
abbrev pub seen_suspended : CoroState → Bool
seen_suspended s = eqb (code s) 2 || eqb (code s) 3

abbrev pub seen_returned : CoroState → Bool
seen_returned s = eqb (code s) 4

-- the coroutine is there, and passes a test
abbrev pub seen_in : (Seen → Bool) → Option Seen → Bool
seen_in p none = false
seen_in p (some x) = p x

abbrev pub state_is : View → (CoroState → Bool) → ℕ → Bool
state_is v p c = seen_in (λ x. p x.state) (v.coro c)
