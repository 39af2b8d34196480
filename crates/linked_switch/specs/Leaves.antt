-- 01's gate, fuel in hand, and what coro_suspend and its delivery test: a Yield that nothing refuses, to a Resume.
use Rattle.std.specs.Prelude.{◌≡◌, Bool, true, false, not, List, [], ◌∷◌, ℕ, ◌+◌, ◌-◌, ◌*◌, ◌≤◌, ◌<◌, length, leb, Option, Result, Some, None, Ok, Err}
use Rattle.heap.specs.Coding.{of_bits}
use Rattle.heap.specs.Slot.{width}
use Rattle.heap.specs.Int.{inline_of, next_key}
use Rattle.heap.specs.Heap.{slots_of, coro_of, place_of}
use Rattle.heap.specs.declared.fault.Fault.{Fault}
use Rattle.heap.specs.declared.value.Word.{Word}
use Rattle.heap.specs.declared.object.CoroObj.{CoroObj}
use Rattle.model.specs.declared.machine.Driver.{Driver}
use Rattle.memory_tables.specs.Layout.{base_in}
use Rattle.linked_calls.specs.Words.{machine_in}
use Rattle.linked_switch.specs.Words.{record_at, all}
use Rattle.linked_switch.specs.Enters.{top_in, in_top}
use Rattle.linked_switch.specs.Leave.{innermost_in, May, Keyed}
use Rattle.linked_switch.specs.declared.leaves.Sleeper.{Sleeper}

-- words enough for the numbers; the innermost coroutine has a frame, which begins on the stack
pub record LeavesFits (frames chain slots ms : List ℕ) : Type 0 where
  pub words : 25 ≤ length ms
  pub on-frames : (machine_in ms).depth * 6 ≤ length frames
  pub on_chain : (machine_in ms).active * 6 ≤ length chain
  pub in-slots : (machine_in ms).count * width ≤ length slots
  pub floor : 1 ≤ (machine_in ms).active → (innermost_in chain (machine_in ms)).floor < (machine_in ms).depth
  pub base : 1 ≤ (machine_in ms).active → base_in frames (innermost_in chain (machine_in ms)).floor ≤ (machine_in ms).height

-- ---- the tests, on the words

-- the key after the largest so far is an integer, and has a word of its own
abbrev pub has_word : Option Word → Bool
has_word (Some w) = true
has_word None = false

abbrev pub key_fits : Option ℕ → Bool
key_fits (Some n) = has_word (inline_of (of_bits 63 n))
key_fits None = false

-- its driver
abbrev pub by_resume : Driver → Bool
by_resume (Driver.Resume r) = true
by_resume (Driver.Iter has val iter) = false
by_resume Driver.Host = false
by_resume Driver.Finalize = false

-- of the innermost coroutine, by its record
abbrev pub exit_tests : List ℕ → List ℕ → CoroObj → List ℕ → List Bool
exit_tests frames chain c ms =
    let m = machine_in ms in
    let floor = (innermost_in chain m).floor in
    -- it is not being closed
    not c.closing
    -- no more words and frames than it had saved before: no charge
    ∷ leb (m.height - base_in frames floor) c.maxregs ∷ leb (m.depth - floor) c.maxframes
    ∷ key_fits (next_key c.largest) ∷ []

-- what the innermost coroutine's word names
abbrev pub to_leave : List ℕ → List ℕ → List ℕ → Result ℕ Fault
to_leave chain slots ms = place_of (coro_of (slots_of (machine_in ms).count slots) (innermost_in chain (machine_in ms)).coro)

-- where it names a coroutine
abbrev pub leaves_in : List ℕ → List ℕ → List ℕ → List ℕ → Result ℕ Fault → Bool
leaves_in frames chain slots ms (Err f) = false
leaves_in frames chain slots ms (Ok i) = all (exit_tests frames chain (record_at slots i) ms)

abbrev pub leave_tests : List ℕ → List ℕ → List ℕ → List ℕ → ℕ → ℕ → ℕ → List Bool
leave_tests frames chain slots ms fuel dst src =
    -- 12: a frame stands; the charge takes a unit of fuel that is there; 5: a coroutine runs
    leb 1 (machine_in ms).depth ∷ leb 1 fuel ∷ leb 1 (machine_in ms).active
    -- 13: the registers lie in the frame
    ∷ in_top frames ms dst ∷ in_top frames ms src
    -- it is driven by a Resume
    ∷ by_resume (innermost_in chain (machine_in ms)).driver
    -- coro_suspend refuses nothing
    ∷ leaves_in frames chain slots ms (to_leave chain slots ms) ∷ []

unfoldable pub may_leave : List ℕ → List ℕ → List ℕ → List ℕ → ℕ → ℕ → ℕ → Bool
may_leave frames chain slots ms fuel dst src = all (leave_tests frames chain slots ms fuel dst src)

-- ---- what the tests tell

pub record Leavable (frames chain slots ms : List ℕ) (fuel dst src i to key largest : ℕ) : Type 0 where
  pub some : 1 ≤ (machine_in ms).depth
  pub paid : 1 ≤ fuel
  pub dst-in : top_in frames ms + dst < (machine_in ms).height
  pub src-in : top_in frames ms + src < (machine_in ms).height
  pub may : May frames chain slots (machine_in ms) i
  pub keyed : Keyed slots i key largest
  pub driven : (innermost_in chain (machine_in ms)).driver ≡ Driver.Resume to

abbrev pub leaves : Option Sleeper → Bool
leaves (Some s) = true
leaves None = false

pub record Leaving (frames chain slots ms : List ℕ) (fuel dst src : ℕ) (r : Option Sleeper) : Type 0 where
  pub at : (s : Sleeper) → r ≡ Some s → Leavable frames chain slots ms fuel dst src s.slot s.to s.key s.largest
  -- it says so exactly if the tests are passed
  pub told : leaves r ≡ may_leave frames chain slots ms fuel dst src
