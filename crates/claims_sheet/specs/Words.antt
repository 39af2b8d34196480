-- The sheet's own words: what a call finds in a world. None of them is the machine's.
use Rattle.std.specs.Prelude.{ℕ, ◌+◌, ◌-◌, ◌/◌, ◌%◌, ◌^◌, min, Bool, false, not, ◌&&◌, ◌||◌, List, [], ◌∷◌, map, length, get_or, take, drop, eqb, ltb, leb}
use Rattle.lists.specs.Pick.{pick}
use Rattle.heap.specs.Table.{slot}
use Rattle.heap.specs.declared.object.CoroState.{CoroState}
use Rattle.model.specs.Lists.{among}
use Rattle.model.specs.Program.{Func}
use Rattle.model.specs.Object.{Core, Rest, Object}
use Rattle.model.specs.World.{World}
use Rattle.model.specs.declared.machine.Frame.{Frame}

-- ---- registers of the top frame

abbrev pub base : List Frame → ℕ
base [] = 0
base (f ∷ fs) = f.base

abbrev pub word : World → ℕ → ℕ
word w r = get_or w.stack (base w.frames + r) 0

-- "Every register operand must lie between the top frame's base and the stack's end"
abbrev pub lies : World → ℕ → Bool
lies w r = ltb (base w.frames + r) (length w.stack)

-- argc words after register dst
abbrev pub arguments : World → ℕ → ℕ → List ℕ
arguments w dst argc = take argc (drop (base w.frames + dst + 1) w.stack)

-- ---- objects

-- "References are 2^48 up to 2^49 - 1: slot in bits 0-31, tag in bits 32-47. A lookup needs a filled slot with an equal tag."
abbrev pub is_reference : ℕ → Bool
is_reference v = leb (2 ^ 48) v && ltb v (2 ^ 49)

-- the object that a word finds, or Empty
abbrev pub found : World → ℕ → Object
found w v =
    let s = get_or w.slots (v % 2 ^ 32) (slot 0 Object.Empty) in
    pick (is_reference v && eqb s.tag (v / 2 ^ 32 % 2 ^ 16)) s.object Object.Empty

abbrev pub kind : Object → ℕ
kind Object.Empty = 0
kind (Object.Func f) = 1
kind (Object.Int n) = 2
kind (Object.Iter s d k) = 3
kind (Object.Error e f p v) = 4
kind (Object.Coro k r) = 5

abbrev pub is_nothing : Object → Bool
is_nothing o = eqb (kind o) 0

abbrev pub is_coroutine : Object → Bool
is_coroutine o = eqb (kind o) 5

-- 1: "nil or a dead reference"
abbrev pub dead : World → ℕ → Bool
dead w v = is_nothing (found w v) && (eqb v 0 || is_reference v)

-- 2: "wrong kind of object or word"
abbrev pub no_coroutine : World → ℕ → Bool
no_coroutine w v = not (is_coroutine (found w v))

-- a function object's function, an iterator's mark, an integer object's bits
abbrev pub function_of : Object → ℕ
function_of Object.Empty = 0
function_of (Object.Func f) = f
function_of (Object.Int n) = 0
function_of (Object.Iter s d k) = 0
function_of (Object.Error e f p v) = 0
function_of (Object.Coro k r) = 0

abbrev pub is_done : Object → Bool
is_done Object.Empty = false
is_done (Object.Func f) = false
is_done (Object.Int n) = false
is_done (Object.Iter s d k) = d
is_done (Object.Error e f p v) = false
is_done (Object.Coro k r) = false

abbrev pub no_core : Core
no_core = record { state = CoroState.Failed; regs = []; frames = []; waiting = 0 }

abbrev pub no_rest : Rest
no_rest = record { closing = false; finalized = false; task = false; seq = 0; row = 0; maxregs = 0; maxframes = 0; payload = 0; key = 0; largest = 0; result = 0; signal = 0 }

-- what a coroutine has saved, and the rest of it
abbrev pub core_of : Object → Core
core_of Object.Empty = no_core
core_of (Object.Func f) = no_core
core_of (Object.Int n) = no_core
core_of (Object.Iter s d k) = no_core
core_of (Object.Error e f p v) = no_core
core_of (Object.Coro k r) = k

abbrev pub rest_of : Object → Rest
rest_of Object.Empty = no_rest
rest_of (Object.Func f) = no_rest
rest_of (Object.Int n) = no_rest
rest_of (Object.Iter s d k) = no_rest
rest_of (Object.Error e f p v) = no_rest
rest_of (Object.Coro k r) = r

-- ---- states

-- "Created 0, Running 1, Yielded 2, Awaiting 3, Returned 4, Failed 5"
abbrev pub code : CoroState → ℕ
code CoroState.Created = 0
code CoroState.Running = 1
code CoroState.Yielded = 2
code CoroState.Awaiting = 3
code CoroState.Returned = 4
code CoroState.Failed = 5

-- the coroutine that v finds is in one of these states
abbrev pub is_in : List CoroState → CoroState → Bool
is_in ss s = among (code s) (map code ss)

abbrev pub state : World → ℕ → CoroState
state w v = (core_of (found w v)).state

abbrev pub resumable : CoroState → Bool
resumable s = is_in (CoroState.Created ∷ CoroState.Yielded ∷ CoroState.Awaiting ∷ []) s

abbrev pub suspended : CoroState → Bool
suspended s = is_in (CoroState.Yielded ∷ CoroState.Awaiting ∷ []) s

-- 4: "frames plus saved frames above the depth limit, or stack plus saved registers above the stack limit"
abbrev pub too_high : World → ℕ → Bool
too_high w v =
    let k = core_of (found w v) in
    ltb w.setup.limits.depth (length w.frames + length k.frames) || ltb w.setup.limits.stack (length w.stack + length k.regs)

-- ---- memory

-- 9; memory sums stop at 2^64 - 1 (DIFFERENCES 32)
abbrev pub used_with : World → ℕ → ℕ
used_with w bytes = min (w.used + bytes) (2 ^ 64 - 1)

abbrev pub lacks_memory : World → ℕ → Bool
lacks_memory w bytes = not (leb (used_with w bytes) w.setup.limits.memory)

-- 14: "every slot taken"
abbrev pub no_slot : World → Bool
no_slot w = leb w.setup.limits.slots (length w.slots)
