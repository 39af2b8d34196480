-- A call in six words: its code, its operands in the order of `Op`, then 0. One table says which call a code is; words are a call if they
-- are those that the call is written in.
use Rattle.std.specs.Prelude.{Bool, not, ◌&&◌, ◌||◌, List, [], ◌∷◌, ℕ, length, get_or, eqb, ltb, Result, Ok, Err}
use Rattle.lists.specs.Pick.{pick}
use Rattle.heap.specs.Fault.{number_of, word_of}
use Rattle.heap.specs.declared.fault.Fault.{Fault}
use Rattle.model.specs.declared.call.Op.{Op}
use Rattle.memory_tables.specs.Layout.{cont_code, cont_reg, cont_of}
use Rattle.memory_calls.specs.Codes.{as_pc, as_reg, as_argc, fault_of, kind_code, kind_of, opt_code, opt_word, opt_of, same}
use Rattle.memory_calls.specs.declared.call.Gate.{Gate}

-- the calls from code 0 on, of five operands
abbrev pub table : ℕ → ℕ → ℕ → ℕ → ℕ → List Op
table a b c d e =
    Op.CoroNew (as_pc a) (as_reg b) (as_pc c) (as_argc d)
    ∷ Op.CoroNewIndirect (as_pc a) (as_reg b) (as_reg c) (as_argc d)
    ∷ Op.Spawn (as_pc a) (as_reg b) (as_reg c) (as_argc d)
    ∷ Op.Yield (as_pc a) (as_reg b) (as_reg c)
    ∷ Op.YieldKv (as_pc a) (as_reg b) (as_reg c) (as_reg d)
    ∷ Op.Await (as_pc a) (as_reg b) (as_reg c)
    ∷ Op.Resume (as_pc a) (as_reg b) (as_reg c) (as_reg d)
    ∷ Op.ResumeThrow (as_pc a) (as_reg b) (as_reg c) (as_reg d)
    ∷ Op.CoroClose (as_pc a) (as_reg b) (as_reg c) (as_reg d)
    ∷ Op.CoroStatus (as_pc a) (as_reg b) (as_reg c)
    ∷ Op.CoroCurrent (as_pc a) (as_reg b)
    ∷ Op.CoroKey (as_pc a) (as_reg b) (as_reg c)
    ∷ Op.CoroResult (as_pc a) (as_reg b) (as_reg c)
    ∷ Op.IterNext (as_pc a) (as_reg b) (as_reg c) (as_reg d) (as_reg e)
    ∷ Op.Finish (kind_of a) b
    ∷ Op.Unwind (fault_of a b) (opt_of c d)
    ∷ Op.SpawnTask a
    ∷ Op.HostCall (as_pc a)
    ∷ Op.HostEntry a b
    ∷ Op.FunctionCall (as_pc a) (as_pc b) (cont_of c d)
    ∷ Op.PutWord (as_reg a) b
    ∷ Op.MakeIterator a
    ∷ Op.TakeOutcome
    ∷ Op.HandOver a
    ∷ Op.Grant a
    ∷ Op.StopRun
    ∷ []

-- the last code is look's
abbrev pub op_by : ℕ → ℕ → ℕ → ℕ → ℕ → ℕ → Op
op_by n a b c d e = get_or (table a b c d e) n Op.Look

abbrev pub op_in : List ℕ → Op
op_in ws = op_by (get_or ws 0 0) (get_or ws 1 0) (get_or ws 2 0) (get_or ws 3 0) (get_or ws 4 0) (get_or ws 5 0)

abbrev pub six : ℕ → ℕ → ℕ → ℕ → ℕ → ℕ → List ℕ
six n a b c d e = n ∷ a ∷ b ∷ c ∷ d ∷ e ∷ []

abbrev pub op_words : Op → List ℕ
op_words (Op.CoroNew pc dst f argc) = six 0 pc dst f argc 0
op_words (Op.CoroNewIndirect pc dst callee argc) = six 1 pc dst callee argc 0
op_words (Op.Spawn pc dst callee argc) = six 2 pc dst callee argc 0
op_words (Op.Yield pc dst src) = six 3 pc dst src 0 0
op_words (Op.YieldKv pc dst src key) = six 4 pc dst src key 0
op_words (Op.Await pc dst src) = six 5 pc dst src 0 0
op_words (Op.Resume pc dst c src) = six 6 pc dst c src 0
op_words (Op.ResumeThrow pc dst c src) = six 7 pc dst c src 0
op_words (Op.CoroClose pc dst c src) = six 8 pc dst c src 0
op_words (Op.CoroStatus pc dst c) = six 9 pc dst c 0 0
op_words (Op.CoroCurrent pc dst) = six 10 pc dst 0 0 0
op_words (Op.CoroKey pc dst c) = six 11 pc dst c 0 0
op_words (Op.CoroResult pc dst c) = six 12 pc dst c 0 0
op_words (Op.IterNext pc has iter val src) = six 13 pc has iter val src
op_words (Op.Finish kind v) = six 14 (kind_code kind) v 0 0 0
op_words (Op.Unwind f pc) = six 15 (number_of f) (word_of f) (opt_code pc) (opt_word pc) 0
op_words (Op.SpawnTask v) = six 16 v 0 0 0 0
op_words (Op.HostCall f) = six 17 f 0 0 0 0
op_words (Op.HostEntry c v) = six 18 c v 0 0 0
op_words (Op.FunctionCall pc f k) = six 19 pc f (cont_code k) (cont_reg k) 0
op_words (Op.PutWord r v) = six 20 r v 0 0 0
op_words (Op.MakeIterator v) = six 21 v 0 0 0 0
op_words Op.TakeOutcome = six 22 0 0 0 0 0
op_words (Op.HandOver v) = six 23 v 0 0 0 0
op_words (Op.Grant n) = six 24 n 0 0 0 0
op_words Op.StopRun = six 25 0 0 0 0 0
op_words Op.Look = six 26 0 0 0 0 0

-- ---- words that are no call, of which the code still names one

-- 01: "`unwind` takes a fault 1 to 10, or 17 with its word (else 11)"
abbrev pub no_fault : ℕ → Bool
no_fault a = eqb a 0 || ltb 10 a && not (eqb a 17)

-- which test stands before that of the operands: an instruction, a function call and a put word need a frame; a host call and a host entry
-- need that none stands; an unwind needs its fault
abbrev pub gate_by : ℕ → ℕ → Gate
gate_by n a =
    pick (ltb n 14 || eqb n 19 || eqb n 20) Gate.Frame
    (pick (eqb n 17 || eqb n 18) Gate.Host
    (pick (eqb n 15 && no_fault a) Gate.NoFault Gate.Operand))

abbrev pub gate_in : List ℕ → Gate
gate_in ws = pick (eqb (length ws) 6) (gate_by (get_or ws 0 0) (get_or ws 1 0)) Gate.Operand

-- 01: "Each tests 11 first, then 12 or 15, then 13 or 16", by whether no frame stands
abbrev pub refusal : Gate → Bool → Fault
refusal Gate.NoFault none = Fault.Unsound
refusal Gate.Frame none = pick none Fault.NoFrame Fault.BadOperand
refusal Gate.Host none = pick none Fault.BadOperand Fault.Busy
refusal Gate.Operand none = Fault.BadOperand

-- the call that the words are, or the test that refuses them
abbrev pub op_of : List ℕ → Result Op Gate
op_of ws = pick (same (op_words (op_in ws)) ws) (Ok (op_in ws)) (Err (gate_in ws))
