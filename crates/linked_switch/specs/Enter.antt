-- coro.rs: coro_enter, of a coroutine in slot i that nothing refuses.
use Rattle.std.specs.Prelude.{◌≡◌, List, ℕ, ◌+◌, ◌*◌, ◌≤◌, length, Result}
use Rattle.heap.specs.Heap.{SlotFits, slots_of, coro_of, place_of}
use Rattle.heap.specs.declared.fault.Fault.{Fault}
use Rattle.model.specs.declared.coro.Entered.{Entered}
use Rattle.model.specs.World.{World, After, and_then}
use Rattle.model.specs.Frames.{reg, store_pc, on_top, step_pc}
use Rattle.model.specs.Exec.{arrive}
use Rattle.model.specs.declared.exec.Step.{Step}
use Rattle.model.specs.Coro.{coro_enter}
use Rattle.model.specs.declared.machine.Driver.{Driver}
use Rattle.memory_tables.specs.Does.{FramesDo, RegFits, Puts}
use Rattle.memory_world.specs.Lendings.{lent}
use Rattle.memory_world.specs.Contract.{Ok, only}
use Rattle.memory_world.specs.declared.machine.Machine.{Machine}
use Rattle.memory_world.specs.declared.machine.Sizes.{Sizes}
use Rattle.coro_enter.specs.Enter.{refusal_of, MoveFits}
use Rattle.coro_enter.specs.Entry.{EntryFits}
use Rattle.linked_calls.specs.Words.{machine_in, sizes_in}
use Rattle.linked_switch.specs.Words.{record_at}

abbrev pub enters_by : ℕ → ℕ → World → After (Result Entered Fault)
enters_by v dst w = coro_enter v (Driver.Resume dst) w

pub record MoveInFits (stack frames slots saved_stack saved_frames ms : List ℕ) (i : ℕ) : Type 0 where
  pub words : 25 ≤ length ms
  pub slot : SlotFits slots i
  pub fits : MoveFits stack frames saved_stack saved_frames (machine_in ms).height (machine_in ms).depth (sizes_in ms) (record_at slots i)

-- it stands there under the word v
pub record May (slots : List ℕ) (m : Machine) (sizes : Sizes) (v i : ℕ) : Type 0 where
  pub found : Result.Ok i ≡ place_of (coro_of (slots_of m.count slots) v)
  pub fits : Result.Ok tt ≡ refusal_of m.height m.depth sizes (record_at slots i)

pub record EnterAtFits (stack frames chain slots saved_stack saved_frames ms : List ℕ) (v i : ℕ) : Type 0 where
  pub words : 25 ≤ length ms
  pub ok : Ok (sizes_in ms) (lent stack frames chain slots saved_stack saved_frames) (only (machine_in ms))
  pub may : May slots (machine_in ms) (sizes_in ms) v i

-- coro.rs: coro_send
pub record Sends (stack frames stack' frames' : List ℕ) (height depth r v : ℕ) : Type 0 where
  pub put : Puts stack frames stack' height depth r v
  pub stepped : FramesDo (on_top step_pc) frames frames' depth depth

-- coro.rs: exec, Resume of the coroutine whose word is v
abbrev pub resumes_by : ℕ → ℕ → ℕ → ℕ → World → After Step
resumes_by pc dst src v w = and_then (coro_enter v (Driver.Resume dst) (store_pc pc w)) (arrive (reg w src))

pub record EnterFits (stack frames chain slots saved_stack saved_frames ms : List ℕ) (pc src v i : ℕ) : Type 0 where
  pub words : 25 ≤ length ms
  pub entry : EntryFits (sizes_in ms) stack frames chain slots saved_stack saved_frames (machine_in ms) pc
  pub sent : RegFits stack frames (machine_in ms).height (machine_in ms).depth src
  pub may : May slots (machine_in ms) (sizes_in ms) v i
