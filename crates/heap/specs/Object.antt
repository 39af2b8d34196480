-- heap.rs: Object. 01: State codes.
use Rattle.std.specs.Prelude.{ℕ, max, Bool, true, false, eqb, Option, Some, None}
use Rattle.lists.specs.Pick.{pick}
use Rattle.heap.specs.declared.object.CoroState.{CoroState}
use Rattle.heap.specs.declared.object.CoroState.TheVariants as S
use Rattle.heap.specs.declared.object.CoroObj.{CoroObj}
use Rattle.heap.specs.declared.object.Object.{Object}
use Rattle.heap.specs.declared.object.Object.TheVariants as O

-- 01: "Created 0, Running 1, Yielded 2, Awaiting 3, Returned 4, Failed 5"
abbrev pub code_of : CoroState → ℕ
code_of S.Created = 0
code_of S.Running = 1
code_of S.Yielded = 2
code_of S.Awaiting = 3
code_of S.Returned = 4
code_of S.Failed = 5

abbrev pub state_of : ℕ → CoroState
state_of n =
    pick (eqb n 0) S.Created
    (pick (eqb n 1) S.Running
    (pick (eqb n 2) S.Yielded
    (pick (eqb n 3) S.Awaiting
    (pick (eqb n 4) S.Returned
    S.Failed))))

abbrev pub is_filled : Object → Bool
is_filled O.Empty = false
is_filled (O.Func f) = true
is_filled (O.Int n) = true
is_filled (O.Iter s d k) = true
is_filled (O.Error e f p w) = true
is_filled (O.Coro c) = true

-- the integer of an integer object
abbrev pub int_of : Object → Option ℕ
int_of O.Empty = None
int_of (O.Func f) = None
int_of (O.Int n) = Some n
int_of (O.Iter s d k) = None
int_of (O.Error e f p w) = None
int_of (O.Coro c) = None

-- an iterator that is done
abbrev pub is_done : Object → Bool
is_done O.Empty = false
is_done (O.Func f) = false
is_done (O.Int n) = false
is_done (O.Iter s d k) = d
is_done (O.Error e f p w) = false
is_done (O.Coro c) = false

-- ---- a coroutine with some fields replaced

-- its three marks, and its signal
abbrev pub flagged : Bool → Bool → Bool → ℕ → CoroObj → CoroObj
flagged x y z v c =
    record {
      state = c.state;
      closing = x;
      finalized = y;
      task = z;
      seq = c.seq;
      row = c.row;
      regs = c.regs;
      frames = c.frames;
      maxregs = c.maxregs;
      maxframes = c.maxframes;
      waiting = c.waiting;
      payload = c.payload;
      key = c.key;
      largest = c.largest;
      result = c.result;
      signal = v;
    }

-- coro.rs: co.closing = true, co.signal = signal
abbrev pub as_closing : ℕ → CoroObj → CoroObj
as_closing v c = flagged true c.finalized c.task v c

-- co.task = true
abbrev pub as_task : CoroObj → CoroObj
as_task c = flagged c.closing c.finalized true c.signal c

-- co.finalized = true
abbrev pub as_finalized : CoroObj → CoroObj
as_finalized c = flagged c.closing true c.task c.signal c

-- coro.rs: coro_enter. It runs, and nothing is saved. 01: "the coroutine's largest saved sizes so far": what was saved is such a size.
abbrev pub as_entered : CoroObj → CoroObj
as_entered c =
    record {
      state = CoroState.Running;
      closing = c.closing;
      finalized = c.finalized;
      task = c.task;
      seq = c.seq;
      row = c.row;
      regs = 0;
      frames = 0;
      maxregs = max c.maxregs c.regs;
      maxframes = max c.maxframes c.frames;
      waiting = c.waiting;
      payload = c.payload;
      key = c.key;
      largest = c.largest;
      result = c.result;
      signal = c.signal;
    }

-- coro.rs: coro_suspend of a Yield, where it saves no more than before and closes nothing
abbrev pub as_yielded : ℕ → ℕ → ℕ → ℕ → ℕ → ℕ → CoroObj → CoroObj
as_yielded regs frames waiting payload key largest c =
    record {
      state = CoroState.Yielded;
      closing = c.closing;
      finalized = c.finalized;
      task = c.task;
      seq = c.seq;
      row = c.row;
      regs = regs;
      frames = frames;
      maxregs = c.maxregs;
      maxframes = c.maxframes;
      waiting = waiting;
      payload = payload;
      key = key;
      largest = largest;
      result = c.result;
      signal = c.signal;
    }
