-- machine.rs: unwind, one frame after the other. A turn is the definition's search of the top frame alone: where that goes on to the
-- frame below, the turn answers Resume, which no search does.
use Rattle.std.specs.Prelude.{◌≡◌, Bool, true, false, List, [], ◌∷◌, ℕ, Option, Result, None}
use Rattle.heap.specs.declared.fault.Fault.{Fault}
use Rattle.model.specs.World.{World, After, after}
use Rattle.model.specs.Frames.{is_coro, top_func, top_pc, pop_to}
use Rattle.model.specs.Machine.{stop_or, escape, search_as, handler_of, search, raised_to}
use Rattle.model.specs.declared.call.Answer.{Answer}
use Rattle.model.specs.declared.program.Handler.{Handler}
use Rattle.model.specs.declared.machine.Charge.{Charge}
use Rattle.model.specs.declared.machine.Cont.{Cont}
use Rattle.model.specs.declared.machine.Frame.{Frame}
use Rattle.memory_world.specs.Contract.{Kind}
use Rattle.machine_unwind.specs.declared.turn.Origin.{Origin}

abbrev pub is_spent : Charge → Bool
is_spent (Charge.Done n) = false
is_spent Charge.Spent = true
is_spent (Charge.Close n) = false

-- on to the frame below
abbrev pub on : World → After Answer
on w = after w Answer.Resume

abbrev pub goes_on : Answer → Bool
goes_on Answer.Accepted = false
goes_on (Answer.Word v) = false
goes_on (Answer.Refused f) = false
goes_on (Answer.Stepped s n) = false
goes_on (Answer.Cleanup n) = false
goes_on (Answer.Unpaid n) = false
goes_on (Answer.Exit v) = false
goes_on Answer.Resume = true
goes_on Answer.Caught = false
goes_on Answer.Stopped = false
goes_on (Answer.Took o) = false

-- ---- the top frame

abbrev pub handler_on : List Frame → World → Option Handler
handler_on [] w = None
handler_on (x ∷ xs) w = handler_of x w

abbrev pub handler_in : World → Option Handler
handler_in w = handler_on w.frames w

-- what a frame that is no body answers, and an escaped coroutine, whatever the world
abbrev pub Passes : Cont → ℕ → Answer → Type 0
Passes k value r = (w : World) (f pc : ℕ) → escape k value f pc on w ≡ after w r

abbrev pub Halts : Bool → Answer → Type 0
Halts stops r = (w : World) → stop_or on w stops ≡ after w r

-- a word, raised at pc of function f, leaves the frame
abbrev pub leave_on : List Frame → ℕ → ℕ → ℕ → World → After Answer
leave_on [] value f pc w = on w
leave_on (x ∷ xs) value f pc w = escape x.cont value f pc on (pop_to x xs w)

unfoldable pub leave : ℕ → ℕ → ℕ → World → After Answer
leave value f pc w = leave_on w.frames value f pc w

-- ---- one frame, and all

abbrev pub turn_on : List Frame → ℕ → ℕ → ℕ → World → After Answer
turn_on [] value f pc w = on w
turn_on (x ∷ xs) value f pc w = search_as (handler_of x w) x xs value f pc on w

unfoldable pub turn : ℕ → ℕ → ℕ → World → After Answer
turn value f pc w = turn_on w.frames value f pc w

unfoldable pub search_from : ℕ → ℕ → ℕ → World → After Answer
search_from value f pc w = search w.frames value f pc w

-- ---- what is raised, and where

abbrev pub origin_of : World → Origin
origin_of w = record { func = top_func w.frames; pc = top_pc w.frames }

-- of the worlds whose top frame is there
abbrev pub if_at : Origin → Kind
if_at at w X = at ≡ origin_of w → X

unfoldable pub thrown : Fault → World → After (Result ℕ Fault)
thrown f w = raised_to after f w
