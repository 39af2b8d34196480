-- coro.rs: exec, a suspension and its delivery, on the lent words.
use Rattle.std.specs.Prelude.{◌≡◌, true, List, ℕ, ◌^◌, ◌≤◌, ◌<◌, Result}
use Rattle.heap.specs.declared.fault.Fault.{Fault}
use Rattle.heap.specs.declared.object.CoroState.{CoroState}
use Rattle.model.specs.State.{is_suspended}
use Rattle.model.specs.declared.coro.Event.{Event}
use Rattle.model.specs.declared.exec.Step.{Step}
use Rattle.model.specs.declared.machine.Driver.{Driver}
use Rattle.memory_world.specs.Lendings.{lent}
use Rattle.memory_world.specs.Contract.{Ok, only}
use Rattle.memory_world.specs.declared.machine.Machine.{Machine}
use Rattle.memory_world.specs.declared.machine.Sizes.{Sizes}
use Rattle.coro_end.specs.Deliver.{DriverFits}

-- the driver's frame goes on, or the fault is raised there
abbrev pub stepped_by : Result Unit Fault → Step
stepped_by (Result.Ok u) = Step.Frame
stepped_by (Result.Err f) = Step.Unwind f

-- the driver of what was suspended waits in the top frame
pub record DeliverFits (stack frames slots : List ℕ) (m : Machine) (a : Result (Driver × Event) Fault) : Type 0 where
  pub drives : (d : Driver) (e : Event) → a ≡ Result.Ok (d, e) → DriverFits stack frames slots m d

-- a sound world in which a coroutine runs, and a pc of 32 bits
pub record RunFits (sizes : Sizes) (stack frames chain slots saved_stack saved_frames : List ℕ) (m : Machine) (pc : ℕ) : Type 0 where
  pub ok : Ok sizes (lent stack frames chain slots saved_stack saved_frames) (only m)
  pub running : 1 ≤ m.active
  pub narrow : pc < 2 ^ 32

-- .. and a state to be suspended in
pub record SuspendFits (sizes : Sizes) (stack frames chain slots saved_stack saved_frames : List ℕ) (m : Machine) (pc : ℕ) (s : CoroState) : Type 0 where
  pub run : RunFits sizes stack frames chain slots saved_stack saved_frames m pc
  pub state : is_suspended s ≡ true
