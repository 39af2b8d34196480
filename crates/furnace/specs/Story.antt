-- The story: a furnace line with two zones, a sensor and a recipe, as a list of calls.
use Rattle.std.specs.Prelude.{ℕ, ◌+◌, false, List, [], ◌∷◌, ◌++◌, None}
use Rattle.heap.specs.Word.{nil}
use Rattle.heap.specs.declared.fault.Fault.{Fault}
use Rattle.heap.specs.declared.heap.ResultKind.{ResultKind}
use Rattle.model.specs.Program.{Func, Setup}
use Rattle.model.specs.Example.{plain}
use Rattle.model.specs.declared.machine.Cont.{Cont}
use Rattle.model.specs.declared.call.Op.{Op}
use Rattle.model.specs.declared.machine.Fuel.{Fuel}
use Rattle.memory_world.specs.declared.machine.Machine.{Machine}

-- ---- the set-up: function 0 is the line, 1 heats a zone, 2 is a sensor, 3 a trim, 4 a survey, 5 a recipe with a cleanup block

abbrev pub heat : Func
heat = record { regs = 6; params = 1; handlers = [] }

abbrev pub recipe : Func
recipe = record { regs = 4; params = 1; handlers = record { start = 0; end = 100; target = 200; catch = 3 } ∷ [] }

abbrev pub furnace : Setup
furnace =
    record {
      limits = record { depth = 8; stack = 40; rows = 4; slots = 16; memory = 65536 };
      costs = record { frame = 32; coro = 104; object = 160; int = 56; error = 56; iter = 112 };
      hook = None;
      functions = plain 8 ∷ heat ∷ plain 3 ∷ plain 3 ∷ plain 4 ∷ recipe ∷ [];
    }

-- the numbers and the fuel before it, which it does not read
abbrev pub blank : Machine
blank =
    record {
      height = 0;
      depth = 0;
      active = 0;
      count = 0;
      ready = 0;
      finalize = 0;
      finalizing = false;
      outcome = record { 0 = 0; 1 = 0; 2 = 0; 3 = 0 };
      used = 0;
      seq = 0;
    }

abbrev pub empty : Fuel
empty = record { fuel = 0; bank = None; ready = false }

-- the words of what is made, in the slots after the six functions; the last is the iterator over the sensor
abbrev pub zone1 : ℕ
zone1 = 0x1_0000_0000_0006

abbrev pub zone2 : ℕ
zone2 = 0x1_0000_0000_0007

abbrev pub dropped : ℕ
dropped = 0x1_0000_0000_0008

abbrev pub sensor : ℕ
sensor = 0x1_0000_0000_0009

abbrev pub readings : ℕ
readings = 0x1_0000_0000_000A

-- a small integer as a word
abbrev pub int : ℕ → ℕ
int n = 0xFFFE_0000_0000_0000 + n

abbrev pub returns : ℕ → Op
returns n = Op.Finish ResultKind.Dyn (int n)

-- ---- the calls, scene by scene

-- The line makes coroutines of zone 1 (820 degrees), zone 2 (640) and the recipe (910). Each starts and sleeps: zone 1 after a reading of 815;
-- zone 2 has drawn 633 from a sensor of its own, which sleeps too, and awaits inside a function that it called; the recipe has opened a valve by 55.
abbrev pub heating : List Op
heating =
    Op.Grant 23 ∷ Op.HostCall 0
    ∷ Op.PutWord 1 (int 820) ∷ Op.CoroNew 1 0 1 1 ∷ Op.PutWord 2 (int 640) ∷ Op.CoroNew 2 1 1 1 ∷ Op.PutWord 3 (int 910) ∷ Op.CoroNew 3 2 5 1
    ∷ Op.Resume 4 3 0 4 ∷ Op.PutWord 1 (int 815) ∷ Op.Yield 1 2 1
    ∷ Op.Resume 5 4 1 4 ∷ Op.CoroNew 1 4 2 0 ∷ Op.MakeIterator sensor ∷ Op.PutWord 3 readings ∷ Op.IterNext 2 5 3 1 4 ∷ Op.PutWord 0 (int 633) ∷ Op.Yield 1 2 0
    ∷ Op.FunctionCall 3 3 (Cont.Dyn 2) ∷ Op.PutWord 0 (int 7) ∷ Op.PutWord 1 (int 3) ∷ Op.Await 1 2 0
    ∷ Op.Resume 6 5 2 4 ∷ Op.PutWord 1 (int 55) ∷ Op.Yield 20 2 1 ∷ []

-- The line calls a survey, which wakes zone 2; zone 2 returns from its function, draws from the sensor again, and wakes zone 1 itself.
abbrev pub surveying : List Op
surveying =
    Op.FunctionCall 7 4 (Cont.Dyn 6) ∷ Op.PutWord 0 zone2 ∷ Op.PutWord 2 (int 9) ∷ Op.Resume 1 1 0 2
    ∷ returns 635 ∷ Op.IterNext 5 5 3 1 4 ∷ Op.PutWord 0 (int 636) ∷ Op.Yield 2 2 0
    ∷ Op.PutWord 5 zone1 ∷ Op.Resume 6 2 5 0 ∷ Op.PutWord 1 (int 819) ∷ Op.Yield 2 2 1 ∷ Op.Yield 7 2 1 ∷ []

-- The survey drops the recipe, which banks the fuel; the charge of its next instruction starts the cleanup, whose block shuts the valve.
abbrev pub dropping : List Op
dropping =
    Op.HandOver dropped ∷ Op.CoroStatus 2 3 0 ∷ Op.Unwind (Fault.Throw nil) None ∷ Op.PutWord 1 (int 0) ∷ returns 0
    ∷ Op.CoroStatus 2 3 0 ∷ returns 1 ∷ []

-- The line wakes zone 1, which runs away until the fuel is used up (10); the host stops the run.
abbrev pub racing : List Op
racing = Op.Resume 8 3 0 4 ∷ Op.CoroCurrent 3 4 ∷ Op.CoroCurrent 3 4 ∷ Op.CoroCurrent 3 4 ∷ Op.CoroCurrent 3 4 ∷ Op.StopRun ∷ []

-- The host wakes those who slept through it, the sensor and zone 2, from an empty stack, and takes the outcome of each.
abbrev pub waking : List Op
waking =
    Op.Grant 10 ∷ Op.HostEntry sensor (int 650) ∷ returns 637 ∷ Op.TakeOutcome ∷ Op.HostEntry zone2 (int 660) ∷ returns 640 ∷ Op.TakeOutcome ∷ []

abbrev pub story : List Op
story = heating ++ (surveying ++ (dropping ++ (racing ++ waking)))
