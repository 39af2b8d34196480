-- What a suspending call finds of a coroutine, what an entry adds to it, and what a coroutine gives its driver.
use Prim.Native.Nat.{ℕ, ◌+◌}
use mathlib.Core.Bool.{Bool}
use mathlib.Core.List.{List, [], map}
use mathlib.Core.Option.{Option, none, some}
use lib.ListN.{drop, set}
use Rattle.lists.specs.Pick.{pick}
use Rattle.heap.specs.Word.{nil}
use Rattle.heap.specs.declared.object.CoroState.{CoroState}
use Rattle.model.specs.State.{is_awaiting}
use Rattle.model.specs.Object.{Core, Rest, Coroutine, Absent, Is}
use Rattle.model.specs.World.{World}
use Rattle.model.specs.Frames.{on_top, set_pc, step_pc, lower, above, top_base, put_at}
use Rattle.model.specs.Heap.{coro, to_dyn}
use Rattle.model.specs.Sound.{marked}
use Rattle.model.specs.Call.{Call, SetUp, Do}
use Rattle.model.specs.declared.machine.Driver.{Driver}
use Rattle.model.specs.declared.machine.Frame.{Frame}
use Rattle.std.specs.Prelude.{Result, Ok, Err}
use Rattle.heap.specs.declared.fault.Fault.{Fault}
use Rattle.claims_model.specs.Engine.{Seen}
use Rattle.claims_model.specs.Says.{Sent, nothing, gets, closes}
use Rattle.claims_model.specs.Steps.{seen_of}
use Rattle.claims_model.proofs.Entry.{enters, suspends, neither, Act, at, by_host, finishes, unwinds, other, act, pc_of}

-- the core of the coroutine that a word names, and by which word it is being closed; a word that names none counts as one not begun
pub record Seat : Type 0 where
  pub state : CoroState
  pub regs : List ℕ
  pub frames : List Frame
  pub waiting : ℕ
  -- the word by which it is being closed, if it is
  pub closing : Option ℕ
  -- what is seen of it
  pub seen : Option Seen

abbrev pub closing_of : Rest → Option ℕ
closing_of r = pick r.closing (some r.signal) none

abbrev pub seat : Core → Rest → Seat
seat k r = record { state = k.state; regs = k.regs; frames = k.frames; waiting = k.waiting; closing = closing_of r; seen = seen_of (Is k r) }

abbrev pub core_in : Coroutine → Seat
core_in Absent = record { state = CoroState.Created; regs = []; frames = []; waiting = 0; closing = none; seen = none }
core_in (Is k r) = seat k r

abbrev pub core_at : World → ℕ → Seat
core_at w c = core_in (coro w c)

-- ---- suspended

-- seen as x; m closes it, before, and a yield ends that
abbrev pub held_as : Option Seen → Option ℕ → CoroState → ℕ → ℕ → ℕ → List Frame → List ℕ → Seat
held_as x m state dst floor base frames stack = record { state = state; regs = drop base stack; frames = map (lower base) (above floor frames); waiting = dst; closing = pick (is_awaiting state) m none; seen = x }

-- ---- running

-- 01: "A suspended coroutine then gets the sent word in its waiting register, and its pc steps by 1, wrapping at 2^32"
abbrev pub words_with : Sent → Seat → List ℕ
words_with nothing s = s.regs
words_with (gets v) s = set s.regs (top_base s.frames + s.waiting) v
words_with (closes v) s = s.regs

abbrev pub frames_with : Sent → Seat → List Frame
frames_with nothing s = s.frames
frames_with (gets v) s = on_top step_pc s.frames
frames_with (closes v) s = s.frames

-- the frames of the world w from which the call k is made, with k's pc
abbrev pub calling : World → Call → List Frame
calling w k = on_top (set_pc (pc_of w k)) w.frames

-- ---- left

-- what a coroutine gives its driver
pub data Event : Type 0 where
  Yields : ℕ → Event
  Awaits : ℕ → Event
  -- a yield while closing
  Ignores : Event
  Returns : ℕ → Event

abbrev pub made_word : Result ℕ Fault → ℕ
made_word (Ok v) = v
made_word (Err f) = nil

-- of a suspension in a state, closing or not, with its payload
abbrev pub event_as : Bool → CoroState → ℕ → Event
event_as closing s v = pick (is_awaiting s) (Awaits v) (pick closing Ignores (Yields v))

abbrev pub event_by : Act → World → ℕ → Event
event_by (at pc ok (suspends state dst v)) w c = event_as (marked (λ r. r.closing) (coro w c)) state v
event_by (at pc ok (enters u d x may)) w c = Returns nil
event_by (at pc ok neither) w c = Returns nil
event_by (by_host u x) w c = Returns nil
event_by (finishes kind v) w c = Returns (made_word (to_dyn kind v w).answer)
event_by unwinds w c = Returns nil
event_by other w c = Returns nil

-- what c gives in the call k at w: the payload; the result as a dynamic word; nil where a closing ends it
abbrev pub event_of : World → Call → ℕ → Event
event_of w (SetUp s) c = Returns nil
event_of w (Do o) c = event_by (act w o.op) w c

pub record Mem : Type 0 where
  pub stack : List ℕ
  pub frames : List Frame

abbrev pub mem : List ℕ → List Frame → Mem
mem stack frames = record { stack = stack; frames = frames }

abbrev pub put : ℕ → ℕ → Mem → Mem
put r v m = mem (put_at m.frames r v m.stack) m.frames

-- a word into a register of the top frame, and a step of its pc
abbrev pub send : ℕ → ℕ → Mem → Mem
send r v m = mem (put_at m.frames r v m.stack) (on_top step_pc m.frames)

-- 01: "what `deliver` writes to registers the entering call named and to the calling frame's pc"
abbrev pub deliver_to : Driver → Event → Mem → Mem
deliver_to (Driver.Resume r) (Yields v) m = send r v m
deliver_to (Driver.Resume r) (Awaits v) m = send r v m
deliver_to (Driver.Resume r) Ignores m = m
deliver_to (Driver.Resume r) (Returns v) m = send r v m
deliver_to (Driver.Iter has val iter) (Yields v) m = send has 1 (put val v m)
deliver_to (Driver.Iter has val iter) (Awaits v) m = m
deliver_to (Driver.Iter has val iter) Ignores m = m
deliver_to (Driver.Iter has val iter) (Returns v) m = send has 0 m
deliver_to Driver.Host e m = m
deliver_to Driver.Finalize e m = m
