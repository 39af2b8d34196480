-- A small set-up and short lists of calls from it, which the statements by computation begin with.
use Rattle.std.specs.Prelude.{ℕ, List, [], ◌∷◌, set, Option, Some, None}
use Rattle.heap.specs.Table.{slot}
use Rattle.heap.specs.declared.fault.Fault.{Fault}
use Rattle.model.specs.Program.{Setup}
use Rattle.model.specs.Object.{Object}
use Rattle.model.specs.World.{World, fresh, with_slots}
use Rattle.model.specs.Call.{SetUp}
use Rattle.model.specs.Step.{step, run_ops}
use Rattle.model.specs.Example.{plain, catching}
use Rattle.model.specs.declared.machine.Cont.{Cont}
use Rattle.heap.specs.declared.heap.ResultKind.{ResultKind}
use Rattle.model.specs.declared.call.Op.{Op}

-- ---- a set-up: three functions of 1, 2 and 6 registers, and one of 2 registers that catches

abbrev pub small : ℕ → ℕ → ℕ → Option ℕ → Setup
small rows slots memory hook =
    record {
      limits = record { depth = 4; stack = 10; rows = rows; slots = slots; memory = memory };
      costs = record { frame = 32; coro = 104; object = 160; int = 56; error = 56; iter = 112 };
      hook = hook;
      functions = plain 1 ∷ plain 2 ∷ plain 6 ∷ catching ∷ [];
    }

-- two rows, eight slots, memory enough, no hook
abbrev pub usual : Setup
usual = small 2 8 4096 None

-- the words of function 0, and of the first two objects made
abbrev pub f0 : ℕ
f0 = 0x1_0000_0000_0000

abbrev pub c : ℕ
c = 0x1_0000_0000_0004

abbrev pub d : ℕ
d = 0x1_0000_0000_0005

-- ---- calls from a set-up

-- the world after them
abbrev pub reached : Setup → List Op → World
reached s os = run_ops (step (fresh s) (SetUp s)).world os

-- a run of the function of six registers, with n units of fuel
abbrev pub begun : ℕ → List Op → List Op
begun n os = Op.Grant n ∷ Op.HostCall 2 ∷ os

-- .. that holds a new coroutine of function f in register 0
abbrev pub holding : ℕ → List Op → List Op
holding f os = begun 100 (Op.CoroNew 1 0 f 0 ∷ os)

-- .. which has been resumed and runs
abbrev pub running : ℕ → List Op → List Op
running f os = holding f (Op.Resume 2 1 0 2 ∷ os)

-- .. and has yielded
abbrev pub yielded : ℕ → List Op → List Op
yielded f os = running f (Op.Yield 8 0 0 ∷ os)

-- .. and is closed with the word 9, which it catches
abbrev pub ignoring : List Op → List Op
ignoring os = yielded 3 (Op.PutWord 2 9 ∷ Op.CoroClose 3 1 0 2 ∷ Op.Unwind (Fault.Throw 9) None ∷ os)

-- .. in a loop: the iterator in register 1, `has` 2, `val` 3
abbrev pub looping : List Op → List Op
looping os = holding 1 (Op.MakeIterator c ∷ Op.PutWord 1 d ∷ Op.IterNext 2 2 1 3 0 ∷ os)

-- .. it runs and holds its own word in register 0
abbrev pub itself : List Op
itself = running 1 (Op.CoroCurrent 3 0 ∷ [])

-- .. it waits with more words than fit above the caller's, and the caller holds it in register 0
abbrev pub tall : List Op
tall = running 1 (Op.FunctionCall 5 1 Cont.Discard ∷ Op.Yield 8 0 0 ∷ Op.FunctionCall 6 0 Cont.Discard ∷ Op.PutWord 0 c ∷ [])

-- .. it was given n as its key, and goes on
abbrev pub given_key : ℕ → List Op
given_key n = running 1 (Op.FunctionCall 5 0 (Cont.Dyn 1) ∷ Op.Finish ResultKind.I64 n ∷ Op.YieldKv 7 0 0 1 ∷ Op.Resume 3 1 0 2 ∷ [])

-- ---- machines: with a hook, with little memory, with few slots, with a function wider than the stack, with a set-up that is refused

abbrev pub hooked : ℕ → List Op → World
hooked f os = reached (small 2 8 4096 (Some f)) os

abbrev pub little_memory : ℕ → List Op → World
little_memory memory os = reached (small 2 8 memory None) os

abbrev pub few_slots : ℕ → List Op → World
few_slots slots os = reached (small 2 slots 4096 None) os

abbrev pub wide : Setup
wide =
    record {
      limits = record { depth = 4; stack = 10; rows = 2; slots = 8; memory = 4096 };
      costs = record { frame = 32; coro = 104; object = 160; int = 56; error = 56; iter = 112 };
      hook = None;
      functions = plain 1 ∷ plain 20 ∷ [];
    }

abbrev pub run : List Op → World
run os = reached usual os

-- register 0 holds a function; a function object that names none (no run makes one, but the machine is sound)
abbrev pub holding_function : List Op
holding_function = begun 100 (Op.PutWord 0 f0 ∷ [])

abbrev pub nameless : World → World
nameless w = with_slots (set w.slots 0 (slot 0 (Object.Func 9))) w

-- a coroutine stands one frame deeper than ever; a call is to come back as a dynamic word; a coroutine is suspended
abbrev pub deeper : List Op
deeper = running 1 (Op.FunctionCall 5 0 Cont.Discard ∷ [])

abbrev pub converting : List Op
converting = begun 100 (Op.FunctionCall 1 0 (Cont.Dyn 0) ∷ [])

abbrev pub closed : List Op
closed = yielded 1 (Op.CoroClose 3 1 0 2 ∷ [])

abbrev pub throws_nil : Op
throws_nil = Op.Unwind (Fault.Throw 0) None
