-- program.rs: the functions of a program. 01: "Closing list", the set-up and its ranges.
use Rattle.std.specs.Prelude.{ℕ, ◌^◌, Bool, true, ◌&&◌, List, [], ◌∷◌, length, get_or, take, ltb, leb, Option, Some, None}
use Rattle.lists.specs.Pick.{pick}
use Rattle.model.specs.Lists.{each}
use Rattle.model.specs.declared.program.Handler.{Handler}
use Rattle.model.specs.declared.program.Function.{Function}
use Rattle.model.specs.declared.program.Limits.{Limits}
use Rattle.model.specs.declared.program.Costs.{Costs}

pub record Func : Type 0 where
  pub regs : ℕ
  pub params : ℕ
  pub handlers : List Handler

-- program.rs: FuncInfo, in its form by value, with eight handlers and a count. So their number is a test of the set-up, and handlers after
-- the count are padding.
abbrev pub func_of : Function → Func
func_of f = record { regs = f.regs; params = f.params; handlers = take f.count f.handlers }

pub record Setup : Type 0 where
  pub limits : Limits
  pub costs : Costs
  pub hook : Option ℕ
  pub functions : List Func

abbrev pub no_func : Func
no_func = record { regs = 0; params = 0; handlers = [] }

-- program.rs: func
abbrev pub func : Setup → ℕ → Func
func s f = get_or s.functions f no_func

abbrev pub is_function : Setup → ℕ → Bool
is_function s f = ltb f (length s.functions)

-- 01: "the first in program order with start ≤ pc < end"
abbrev pub covers : ℕ → Handler → Bool
covers pc h = leb h.start pc && ltb pc h.end

abbrev pub first_of : ℕ → List Handler → Option Handler
first_of pc [] = None
first_of pc (h ∷ hs) = pick (covers pc h) (Some h) (first_of pc hs)

-- ---- 01: "Closing list"

-- a ≤ n ≤ b
abbrev pub between : ℕ → ℕ → ℕ → Bool
between a b n = leb a n && leb n b

-- "Depth 1-128, stack 1-1,024 words, rows 1-64, slots 1-4,096 .. Memory limit: any 64-bit number."
abbrev pub limits_ok : Limits → Bool
limits_ok l = between 1 128 l.depth && between 1 1024 l.stack && between 1 64 l.rows && between 1 4096 l.slots && ltb l.memory (2 ^ 64)

-- "Costs 0-65,536."
abbrev pub costs_ok : Costs → Bool
costs_ok c =
    leb c.frame 65536 && leb c.coro 65536 && leb c.object 65536 && leb c.int 65536 && leb c.error 65536 && leb c.iter 65536

-- "each with a catch register of its own frame"; a pc has 32 bits
abbrev pub handler_ok : ℕ → Handler → Bool
handler_ok regs h = ltb h.catch regs && ltb h.start (2 ^ 32) && ltb h.end (2 ^ 32) && ltb h.target (2 ^ 32)

-- "registers 0-256, parameters at most registers. Every function has at most eight handlers"
abbrev pub function_ok : Func → Bool
function_ok f = leb f.regs 256 && leb f.params f.regs && leb (length f.handlers) 8 && each (handler_ok f.regs) f.handlers

-- "Hook: none, or a function with a register."
abbrev pub hook_ok : Setup → Option ℕ → Bool
hook_ok s None = true
hook_ok s (Some f) = is_function s f && ltb 0 (func s f).regs

-- "slots .. not fewer than the functions, functions 1-32"
unfoldable pub setup_ok : Setup → Bool
setup_ok s =
    limits_ok s.limits && costs_ok s.costs && between 1 32 (length s.functions) && leb (length s.functions) s.limits.slots
    && each function_ok s.functions && hook_ok s s.hook
