-- coro.rs: coro_suspend of a Yield, of the innermost coroutine, in slot i, that nothing refuses.
use Rattle.std.specs.Prelude.{◌≡◌, false, List, ℕ, ◌+◌, ◌-◌, ◌*◌, ◌≤◌, ◌<◌, length, Result, Some}
use Rattle.heap.specs.Coding.{of_bits}
use Rattle.heap.specs.Int.{inline_of, next_key}
use Rattle.heap.specs.Heap.{slots_of, coro_of, place_of}
use Rattle.heap.specs.declared.fault.Fault.{Fault}
use Rattle.heap.specs.declared.object.CoroState.{CoroState}
use Rattle.model.specs.World.{World, After}
use Rattle.model.specs.Coro.{coro_suspend}
use Rattle.model.specs.declared.coro.Event.{Event}
use Rattle.model.specs.declared.machine.Active.{Active}
use Rattle.model.specs.declared.machine.Driver.{Driver}
use Rattle.memory_tables.specs.Layout.{active_in, base_in}
use Rattle.memory_tables.specs.Does.{RegFits}
use Rattle.memory_world.specs.Lendings.{lent}
use Rattle.memory_world.specs.Contract.{Ok, only}
use Rattle.memory_world.specs.declared.machine.Machine.{Machine}
use Rattle.coro_suspend.specs.Suspend.{LeaveFit, shrunk}
use Rattle.exec_yield.specs.Suspend.{RunFits}
use Rattle.linked_calls.specs.Words.{machine_in, sizes_in}
use Rattle.linked_switch.specs.Words.{record_at}

-- the innermost active coroutine
abbrev pub innermost_in : List ℕ → Machine → Active
innermost_in chain m = active_in chain (m.active - 1)

pub record MoveOutFits (stack frames saved_stack saved_frames ms : List ℕ) (row floor base : ℕ) : Type 0 where
  pub words : 25 ≤ length ms
  pub fits : LeaveFit stack frames saved_stack saved_frames (machine_in ms) (sizes_in ms) row floor base

-- it stands in slot i, is not being closed, and was saved with as many registers and frames before
pub record May (frames chain slots : List ℕ) (m : Machine) (i : ℕ) : Type 0 where
  pub running : 1 ≤ m.active
  pub floor : (innermost_in chain m).floor < m.depth
  pub found : Result.Ok i ≡ place_of (coro_of (slots_of m.count slots) (innermost_in chain m).coro)
  pub unclosed : (record_at slots i).closing ≡ false
  pub wide : m.height - base_in frames (innermost_in chain m).floor ≤ (record_at slots i).maxregs
  pub deep : m.depth - (innermost_in chain m).floor ≤ (record_at slots i).maxframes

pub record LeaveAtFits (stack frames chain slots saved_stack saved_frames ms : List ℕ) (i floor base : ℕ) : Type 0 where
  pub words : 25 ≤ length ms
  pub ok : Ok (sizes_in ms) (lent stack frames chain slots saved_stack saved_frames) (only (machine_in ms))
  pub may : May frames chain slots (machine_in ms) i
  pub at-floor : floor ≡ (innermost_in chain (machine_in ms)).floor
  pub at_base : base ≡ base_in frames (innermost_in chain (machine_in ms)).floor

abbrev pub suspends_by : ℕ → ℕ → ℕ → ℕ → World → After (Result (Driver × Event) Fault)
suspends_by dst payload key largest w = coro_suspend CoroState.Yielded dst payload (Some (key, largest)) w

-- what its driver is told
abbrev pub told_to : Driver → ℕ → ℕ → Result (Driver × Event) Fault
told_to d payload key = Result.Ok (d, Event.Yielded payload key)

-- the numbers after
abbrev pub shrunk_to : List ℕ → ℕ → ℕ → Machine
shrunk_to ms base floor = shrunk (machine_in ms) base floor (machine_in ms).used

-- the key after the largest so far: an integer that has a word of its own
pub record Keyed (slots : List ℕ) (i key largest : ℕ) : Type 0 where
  pub next : Some largest ≡ next_key (record_at slots i).largest
  pub inline : Some (record { 0 = key }) ≡ inline_of (of_bits 63 largest)

-- .. driven by a Resume, whose register is `to`
pub record LeaveFits (stack frames chain slots saved_stack saved_frames ms : List ℕ) (pc src i to key largest : ℕ) : Type 0 where
  pub words : 25 ≤ length ms
  pub run : RunFits (sizes_in ms) stack frames chain slots saved_stack saved_frames (machine_in ms) pc
  pub sent : RegFits stack frames (machine_in ms).height (machine_in ms).depth src
  pub may : May frames chain slots (machine_in ms) i
  pub keyed : Keyed slots i key largest
  pub driven : (innermost_in chain (machine_in ms)).driver ≡ Driver.Resume to

-- the numbers after, by the innermost coroutine's floor
abbrev pub left_in : List ℕ → List ℕ → List ℕ → Machine
left_in frames chain ms = let a = innermost_in chain (machine_in ms) in shrunk_to ms (base_in frames a.floor) a.floor
