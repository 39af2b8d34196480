-- A set-up for examples, and runs of it.
use Rattle.std.specs.Prelude.{ℕ, List, [], ◌∷◌, None}
use Rattle.model.specs.Program.{Func, Setup}
use Rattle.model.specs.World.{World, fresh}
use Rattle.model.specs.Answer.{number_of}
use Rattle.model.specs.Call.{SetUp}
use Rattle.model.specs.Step.{tested, step, run_ops}
use Rattle.model.specs.declared.call.Op.{Op}

-- ---- a set-up

-- a function of n registers
abbrev pub plain : ℕ → Func
plain n = record { regs = n; params = 0; handlers = [] }

-- a function of two registers that catches what is thrown at a pc below 100: on at 50, with the word in register 1
abbrev pub catching : Func
catching = record { regs = 2; params = 0; handlers = record { start = 0; end = 100; target = 50; catch = 1 } ∷ [] }

abbrev pub example : Setup
example =
    record {
      limits = record { depth = 4; stack = 10; rows = 4; slots = 16; memory = 4096 };
      costs = record { frame = 32; coro = 104; object = 160; int = 56; error = 56; iter = 112 };
      hook = None;
      functions = plain 1 ∷ plain 2 ∷ plain 4 ∷ plain 6 ∷ plain 7 ∷ catching ∷ [];
    }

-- functions 0 to 5 are the objects of slots 0 to 5, so these are the words of the first two that are made
abbrev pub c : ℕ
c = 0x1_0000_0000_0006

abbrev pub d : ℕ
d = 0x1_0000_0000_0007

-- ---- runs of it

-- a run of function f, with the first coroutine, of function g, in its register 0
abbrev pub holding : ℕ → ℕ → List Op
holding f g = Op.Grant 1000 ∷ Op.HostCall f ∷ Op.CoroNew 1 0 g 0 ∷ []

-- from an accepted set-up
abbrev pub reached : List Op → World
reached os = run_ops (step (fresh example) (SetUp example)).world os

-- the number that a call answers after others
abbrev pub number : List Op → Op → ℕ
number os o = number_of (tested (reached os) o).answer

-- the registers of the top frame
abbrev pub look : List Op → List ℕ
look os = (tested (reached os) Op.Look).seen
