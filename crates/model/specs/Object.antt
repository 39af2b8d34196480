-- heap.rs: Object and CoroObj, as values. A coroutine is its core, which an entry empties and a suspension fills, and the rest, which
-- stays with it while it runs.
use Rattle.std.specs.Prelude.{ℕ, Bool, true, false, List, Option}
use Rattle.heap.specs.declared.object.CoroState.{CoroState}
use Rattle.model.specs.declared.machine.Frame.{Frame}

pub record Core : Type 0 where
  pub state : CoroState
  -- the saved registers
  pub regs : List ℕ
  -- the saved frames, top first, with bases from 0
  pub frames : List Frame
  -- resume_dst: the register that receives the sent word
  pub waiting : ℕ

pub record Rest : Type 0 where
  pub closing : Bool
  -- handed over for a cleanup once, never again
  pub finalized : Bool
  pub task : Bool
  -- its number in the order of creation
  pub seq : ℕ
  -- where its registers and frames are saved, while it is unfinished
  pub row : ℕ
  -- the largest saved sizes so far: the capacities of the Rust's two Vecs
  pub maxregs : ℕ
  pub maxframes : ℕ
  pub payload : ℕ
  pub key : ℕ
  -- max_key: the largest integer key so far, as 64 bits
  pub largest : ℕ
  pub result : ℕ
  pub signal : ℕ

pub data Object : Type 0 where
  -- an empty slot
  Empty : Object
  -- a function value, by its number
  Func : ℕ → Object
  -- an integer that is not inline, as 64 bits
  Int : ℕ → Object
  -- an iterator over a coroutine: source, done, key
  Iter : ℕ → Bool → Option ℕ → Object
  -- an error: 01's number, function, pc, payload
  Error : ℕ → ℕ → ℕ → ℕ → Object
  Coro : Core → Rest → Object

abbrev pub is_filled : Object → Bool
is_filled Empty = false
is_filled (Func f) = true
is_filled (Int n) = true
is_filled (Iter s d k) = true
is_filled (Error e f p v) = true
is_filled (Coro k r) = true

-- Option<&CoroObj>
pub data Coroutine : Type 0 where
  Absent : Coroutine
  Is : Core → Rest → Coroutine

abbrev pub as_coro : Object → Coroutine
as_coro Empty = Absent
as_coro (Func f) = Absent
as_coro (Int n) = Absent
as_coro (Iter s d k) = Absent
as_coro (Error e f p v) = Absent
as_coro (Coro k r) = Is k r

-- an iterator that is done
abbrev pub is_done : Object → Bool
is_done Empty = false
is_done (Func f) = false
is_done (Int n) = false
is_done (Iter s d k) = d
is_done (Error e f p v) = false
is_done (Coro k r) = false

-- ---- the rest with one field replaced

abbrev pub with_closing : Bool → Rest → Rest
with_closing x r = record { closing = x; finalized = r.finalized; task = r.task; seq = r.seq; row = r.row; maxregs = r.maxregs; maxframes = r.maxframes; payload = r.payload; key = r.key; largest = r.largest; result = r.result; signal = r.signal }

abbrev pub with_finalized : Bool → Rest → Rest
with_finalized x r = record { closing = r.closing; finalized = x; task = r.task; seq = r.seq; row = r.row; maxregs = r.maxregs; maxframes = r.maxframes; payload = r.payload; key = r.key; largest = r.largest; result = r.result; signal = r.signal }

abbrev pub with_task : Bool → Rest → Rest
with_task x r = record { closing = r.closing; finalized = r.finalized; task = x; seq = r.seq; row = r.row; maxregs = r.maxregs; maxframes = r.maxframes; payload = r.payload; key = r.key; largest = r.largest; result = r.result; signal = r.signal }

abbrev pub with_row : ℕ → Rest → Rest
with_row x r = record { closing = r.closing; finalized = r.finalized; task = r.task; seq = r.seq; row = x; maxregs = r.maxregs; maxframes = r.maxframes; payload = r.payload; key = r.key; largest = r.largest; result = r.result; signal = r.signal }

abbrev pub with_maxregs : ℕ → Rest → Rest
with_maxregs x r = record { closing = r.closing; finalized = r.finalized; task = r.task; seq = r.seq; row = r.row; maxregs = x; maxframes = r.maxframes; payload = r.payload; key = r.key; largest = r.largest; result = r.result; signal = r.signal }

abbrev pub with_maxframes : ℕ → Rest → Rest
with_maxframes x r = record { closing = r.closing; finalized = r.finalized; task = r.task; seq = r.seq; row = r.row; maxregs = r.maxregs; maxframes = x; payload = r.payload; key = r.key; largest = r.largest; result = r.result; signal = r.signal }

abbrev pub with_payload : ℕ → Rest → Rest
with_payload x r = record { closing = r.closing; finalized = r.finalized; task = r.task; seq = r.seq; row = r.row; maxregs = r.maxregs; maxframes = r.maxframes; payload = x; key = r.key; largest = r.largest; result = r.result; signal = r.signal }

abbrev pub with_key : ℕ → Rest → Rest
with_key x r = record { closing = r.closing; finalized = r.finalized; task = r.task; seq = r.seq; row = r.row; maxregs = r.maxregs; maxframes = r.maxframes; payload = r.payload; key = x; largest = r.largest; result = r.result; signal = r.signal }

abbrev pub with_largest : ℕ → Rest → Rest
with_largest x r = record { closing = r.closing; finalized = r.finalized; task = r.task; seq = r.seq; row = r.row; maxregs = r.maxregs; maxframes = r.maxframes; payload = r.payload; key = r.key; largest = x; result = r.result; signal = r.signal }

abbrev pub with_result : ℕ → Rest → Rest
with_result x r = record { closing = r.closing; finalized = r.finalized; task = r.task; seq = r.seq; row = r.row; maxregs = r.maxregs; maxframes = r.maxframes; payload = r.payload; key = r.key; largest = r.largest; result = x; signal = r.signal }

abbrev pub with_signal : ℕ → Rest → Rest
with_signal x r = record { closing = r.closing; finalized = r.finalized; task = r.task; seq = r.seq; row = r.row; maxregs = r.maxregs; maxframes = r.maxframes; payload = r.payload; key = r.key; largest = r.largest; result = r.result; signal = x }
