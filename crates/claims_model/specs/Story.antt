-- A list of calls with all that a switch can meet. Each part of it is made from a set-up, after which the first word made
-- is again c.
use Rattle.std.specs.Prelude.{ℕ, ◌-◌, ◌^◌, ◌≡◌, refl, true, List, [], ◌∷◌, ◌++◌, take, drop, get_or, Some, None}
use Rattle.heap.specs.Word.{nil}
use Rattle.heap.specs.declared.fault.Fault.{Fault}
use Rattle.model.specs.Program.{Setup}
use Rattle.model.specs.Lists.{each, each_first, each-rest}
use Rattle.model.specs.Call.{Call, SetUp, typed}
use Rattle.model.specs.Step.{calls}
use Rattle.model.specs.Example.{plain}
use Rattle.model.specs.declared.machine.Cont.{Cont}
use Rattle.heap.specs.declared.heap.ResultKind.{ResultKind}
use Rattle.model.specs.declared.call.Op.{Op}

-- two functions of four registers; the second catches what is thrown at a pc below 100: on at 50, with the word in register 1
abbrev pub wide : Setup
wide =
    record {
      limits = record { depth = 6; stack = 40; rows = 4; slots = 16; memory = 65536 };
      costs = record { frame = 32; coro = 104; object = 160; int = 56; error = 56; iter = 112 };
      hook = Some 0;
      functions = plain 4 ∷ record { regs = 4; params = 0; handlers = record { start = 0; end = 100; target = 50; catch = 1 } ∷ [] } ∷ [];
    }

-- one that is refused: no depth
abbrev pub bad : Setup
bad = record { limits = record { depth = 0; stack = 40; rows = 4; slots = 16; memory = 65536 }; costs = wide.costs; hook = None; functions = wide.functions }

-- function 0 as a word
abbrev pub f : ℕ
f = 0x1_0000_0000_0000

-- the first two words made: functions are the objects of slots 0 and 1
abbrev pub c : ℕ
c = 0x1_0000_0000_0002

abbrev pub d : ℕ
d = 0x1_0000_0000_0003

-- a run of function 0, which resumes a Created coroutine of function n
abbrev pub begin : ℕ → List Op
begin n = Op.Grant 1000 ∷ Op.HostCall 0 ∷ Op.CoroNew 1 0 n 0 ∷ Op.Resume 2 1 0 2 ∷ []

abbrev pub finish_none : Op
finish_none = Op.Finish ResultKind.None 0

abbrev pub returns : ℕ → Op
returns v = Op.Finish ResultKind.Dyn v

abbrev pub throws : ℕ → Op
throws v = Op.Unwind (Fault.Throw v) None

abbrev pub deeper : Op
deeper = Op.FunctionCall 5 0 Cont.Discard

-- 0. It yields at pc 2^32 - 1; a resume from six frames is refused (4); resumed from two frames, with 9, it returns.
abbrev pub deep : List Op
deep =
    begin 0
    ++ (Op.PutWord 0 7 ∷ Op.Yield (2 ^ 32 - 1) 3 0 ∷ deeper ∷ deeper ∷ deeper ∷ deeper ∷ deeper ∷ Op.PutWord 0 c ∷ Op.Resume 6 1 0 2
    ∷ finish_none ∷ finish_none ∷ finish_none ∷ finish_none ∷ Op.PutWord 0 c ∷ Op.PutWord 2 9 ∷ Op.Resume 8 1 0 2 ∷ Op.PutWord 0 5 ∷ returns 77 ∷ [])

-- 1. c resumes d, which yields; c yields; c is resumed from a deeper frame, and resumes d; d returns, then c.
abbrev pub nested : List Op
nested =
    begin 0
    ++ (Op.CoroNew 1 0 0 0 ∷ Op.Resume 2 1 0 2 ∷ Op.PutWord 0 11 ∷ Op.Yield 9 3 0 ∷ Op.Yield 10 3 1 ∷ deeper ∷ Op.PutWord 0 c ∷ Op.PutWord 2 33
    ∷ Op.Resume 5 1 0 2 ∷ Op.PutWord 2 44 ∷ Op.Resume 6 1 0 2 ∷ Op.PutWord 1 1 ∷ returns 55 ∷ returns 66 ∷ [])

-- 2. A loop with `has` and `val` in one register: an await in it (2), a plain resume, two more turns, and the end.
abbrev pub turn : ℕ → Op
turn pc = Op.IterNext pc 2 1 2 0

abbrev pub loop : List Op
loop =
    Op.Grant 1000 ∷ Op.HostCall 0 ∷ Op.CoroNew 1 0 0 0 ∷ Op.MakeIterator c ∷ Op.PutWord 1 d
    ∷ turn 2 ∷ Op.PutWord 0 7 ∷ Op.Yield 8 3 0 ∷ turn 9 ∷ Op.Await 10 3 0 ∷ Op.Resume 11 3 0 2 ∷ Op.Yield 12 3 0
    ∷ turn 13 ∷ Op.Yield 14 3 0 ∷ turn 15 ∷ finish_none ∷ []

-- 3. The run ends, and the host enters c.
abbrev pub host : List Op
host = begin 0 ++ (Op.Yield 8 3 0 ∷ finish_none ∷ Op.HostEntry c 5 ∷ Op.PutWord 0 1 ∷ Op.Yield 9 3 0 ∷ [])

-- it yields, is closed with 9, and catches that
abbrev pub closed : List Op
closed = begin 1 ++ (Op.Yield 8 3 0 ∷ Op.PutWord 2 9 ∷ Op.CoroClose 3 1 0 2 ∷ throws 9 ∷ [])

-- 4. It ignores the close: it yields (6).
abbrev pub ignoring : List Op
ignoring = closed ++ (Op.Yield 60 3 0 ∷ [])

-- 5. It awaits inside the close; a plain resume later, it yields (6).
abbrev pub awaiting : List Op
awaiting = closed ++ (Op.Await 60 3 0 ∷ Op.Resume 4 1 0 2 ∷ Op.Yield 61 3 0 ∷ [])

-- 6. It is handed over, and the charge of another instruction starts its cleanup (17), which it does not catch.
abbrev pub cleaning : List Op
cleaning = begin 0 ++ (Op.Yield 8 3 0 ∷ Op.HandOver c ∷ Op.CoroCurrent 9 1 ∷ throws nil ∷ [])

-- 7. The same, where the instruction is a resume of that very coroutine: the charge enters it, and it returns.
abbrev pub operand : List Op
operand = begin 0 ++ (Op.Yield 8 3 0 ∷ Op.HandOver c ∷ Op.Resume 9 1 0 2 ∷ returns 5 ∷ [])

-- 8. A word is thrown into it (17); it catches that, and returns.
abbrev pub catching : List Op
catching = begin 1 ++ (Op.Yield 8 3 0 ∷ Op.PutWord 2 9 ∷ Op.ResumeThrow 3 1 0 2 ∷ throws 9 ∷ returns 12 ∷ [])

-- 9. It is closed with 9, and resumes a coroutine of its own, in which 9 is thrown: that one fails, and it returns.
abbrev pub through : List Op
through =
    begin 0
    ++ (Op.Yield 8 3 0 ∷ Op.PutWord 2 9 ∷ Op.CoroClose 3 1 0 2 ∷ Op.CoroNew 1 0 0 0 ∷ Op.Resume 6 1 0 2 ∷ throws 9 ∷ [])

-- 10. c, of a closure, calls function 1 and yields there, with a key: two frames are held. Two frames and a spawned coroutine later it is
-- resumed, with 44; the callee returns to it, and it returns. On the way 12, 15 and 13 are given.
abbrev pub twice : List Op
twice =
    Op.CoroCurrent 0 0 ∷ Op.Grant 1000 ∷ Op.HostCall 0 ∷ Op.HostCall 0 ∷ Op.PutWord 1 f ∷ Op.CoroNewIndirect 1 0 1 0 ∷ Op.PutWord 2 66 ∷ Op.Resume 2 1 0 2
    ∷ Op.PutWord 0 11 ∷ Op.FunctionCall 5 1 (Cont.Dyn 2) ∷ Op.PutWord 1 22 ∷ Op.PutWord 2 33 ∷ Op.YieldKv 7 3 1 2
    ∷ deeper ∷ deeper ∷ Op.PutWord 9 0 ∷ Op.PutWord 3 f ∷ Op.Spawn 12 1 3 0 ∷ finish_none ∷ Op.PutWord 0 c ∷ Op.PutWord 2 44 ∷ Op.Resume 15 1 0 2
    ∷ Op.PutWord 0 55 ∷ returns 6 ∷ returns 77 ∷ []

-- 11. The run is stopped while c is suspended; the host enters it, and it returns to the host.
abbrev pub stopped : List Op
stopped = begin 0 ++ (Op.Yield 8 3 0 ∷ Op.StopRun ∷ Op.HostEntry c 5 ∷ returns 9 ∷ [])

-- 12. It yields in its cleanup, having caught that: no error.
abbrev pub yielding : List Op
yielding = begin 1 ++ (Op.Yield 8 3 0 ∷ Op.HandOver c ∷ Op.CoroCurrent 9 1 ∷ throws nil ∷ Op.Yield 60 3 0 ∷ [])

-- 13. c is suspended with 7 in its first register, and d with 8, at the same pc: what they hold differs in that word alone. c is resumed, then d.
abbrev pub pair : List Op
pair =
    begin 0
    ++ (Op.PutWord 0 7 ∷ Op.Yield 8 3 1 ∷ Op.CoroNew 9 3 0 0 ∷ Op.Resume 10 1 3 2 ∷ Op.PutWord 0 8 ∷ Op.Yield 8 3 1 ∷ Op.Resume 11 1 0 2 ∷ returns 5
    ∷ Op.Resume 12 1 3 2 ∷ returns 6 ∷ [])

-- ---- the list, and its splits

abbrev pub parts : List (List Op)
parts = deep ∷ nested ∷ loop ∷ host ∷ ignoring ∷ awaiting ∷ cleaning ∷ operand ∷ catching ∷ through ∷ twice ∷ stopped ∷ yielding ∷ pair ∷ []

pub parts_typed : each (each typed) parts ≡ true
unfolding typed
parts_typed = refl

-- each part as calls, from a set-up on
abbrev pub blocks : (ps : List (List Op)) → each (each typed) ps ≡ true → List (List Call)
blocks [] h = []
blocks (p ∷ ps) h = (SetUp wide ∷ calls p (each_first (each typed) p ps h)) ∷ blocks ps (each-rest (each typed) p ps h)

abbrev pub joined : List (List Call) → List Call
joined [] = []
joined (p ∷ ps) = p ++ joined ps

-- THE LIST
abbrev pub story : List Call
story = joined (blocks parts parts_typed)

-- part n, and all before it
abbrev pub part : ℕ → List Call
part n = get_or (blocks parts parts_typed) n []

abbrev pub past : ℕ → List Call
past n = joined (take n (blocks parts parts_typed))

-- part 10, with a set-up that is refused while c is suspended
abbrev pub with_refused_set_up : List Call
with_refused_set_up = take 14 (part 10) ++ (SetUp bad ∷ drop 14 (part 10))
