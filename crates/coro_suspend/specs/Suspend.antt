-- coro.rs: the parts of coro_suspend, by the coroutine's record.
use Rattle.std.specs.Prelude.{◌≡◌, Bool, true, false, not, ◌&&◌, List, ℕ, ◌+◌, ◌-◌, ◌*◌, ◌≤◌, ◌<◌, max, length, Option, Result, Some, None}
use Rattle.lists.specs.Pick.{pick}
use Rattle.heap.specs.Word.{nil}
use Rattle.heap.specs.Heap.{slots_of, coro_of}
use Rattle.heap.specs.declared.object.CoroObj.{CoroObj}
use Rattle.heap.specs.declared.object.CoroState.{CoroState}
use Rattle.model.specs.State.{is_awaiting, is_suspended}
use Rattle.model.specs.declared.coro.Event.{Event}
use Rattle.model.specs.declared.machine.Active.{Active}
use Rattle.memory_tables.specs.Layout.{active_in}
use Rattle.memory_tables.specs.Does.{LeavesStack, LeavesFrames, LeaveFits}
use Rattle.memory_world.specs.Lendings.{lent}
use Rattle.memory_world.specs.Contract.{Ok, only}
use Rattle.memory_world.specs.declared.machine.Machine.{Machine}
use Rattle.memory_world.specs.declared.machine.Sizes.{Sizes}

-- coro.rs: coro_suspend, grow: the bytes of registers and frames beyond the largest saved sizes so far
abbrev pub growth_of : Sizes → CoroObj → ℕ → ℕ → ℕ
growth_of sizes c regs frames = (regs - c.maxregs) * 8 + (frames - c.maxframes) * sizes.costs.frame

-- the key and the largest integer key after: those of the yield, or as they were
abbrev pub key_of : Option (ℕ × ℕ) → ℕ → ℕ
key_of None k = k
key_of (Some (key, largest)) k = key

abbrev pub largest_of : Option (ℕ × ℕ) → ℕ → ℕ
largest_of None n = n
largest_of (Some (key, largest)) n = largest

-- it yields while it is being closed
abbrev pub ignores : CoroState → Bool → Bool
ignores s closing = not (is_awaiting s) && closing

-- the record of a suspended coroutine, with so many registers and frames saved
abbrev pub suspended : CoroState → ℕ → ℕ → ℕ → ℕ → Option (ℕ × ℕ) → CoroObj → CoroObj
suspended s regs frames dst payload keys c =
    record {
      state = s;
      closing = pick (ignores s c.closing) false c.closing;
      finalized = c.finalized;
      task = c.task;
      seq = c.seq;
      row = c.row;
      regs = regs;
      frames = frames;
      maxregs = max c.maxregs regs;
      maxframes = max c.maxframes frames;
      waiting = dst;
      payload = payload;
      key = key_of keys c.key;
      largest = largest_of keys c.largest;
      result = c.result;
      signal = pick (ignores s c.closing) nil c.signal;
    }

-- what its driver is told
abbrev pub event_as : CoroState → ℕ → Bool → ℕ → Event
event_as s payload closing key = pick (is_awaiting s) (Event.Awaiting payload) (pick closing Event.CloseIgnored (Event.Yielded payload key))

-- the numbers after: what lies below the body, and the bytes charged
abbrev pub shrunk : Machine → ℕ → ℕ → ℕ → Machine
shrunk m base floor used =
    record {
      height = base;
      depth = floor;
      active = m.active - 1;
      count = m.count;
      ready = m.ready;
      finalize = m.finalize;
      finalizing = m.finalizing;
      outcome = m.outcome;
      used = used;
      seq = m.seq;
    }

-- ---- the words from the body's base up go to its row

-- they lie in the slices, and no base above the floor is lower than `base`
pub record LeaveFit (stack frames saved_stack saved_frames : List ℕ) (m : Machine) (sizes : Sizes) (row floor base : ℕ) : Type 0 where
  pub under : base ≤ m.height
  pub on-stack : m.height ≤ length stack
  pub in-saved : row * sizes.width + (m.height - base) ≤ length saved_stack
  pub deep : sizes.depth * 6 ≤ length frames
  pub leaving : LeaveFits frames saved_frames m.depth floor base (row * (sizes.depth * 6))

-- registers from `base` up, frames from `floor` up
pub record MovedOut (stack frames saved_stack saved_frames stack' frames' saved_stack' saved_frames' : List ℕ) (m : Machine) (sizes : Sizes) (row floor base : ℕ) : Type 0 where
  pub on-stack : LeavesStack stack saved_stack stack' saved_stack' m.height base (row * sizes.width)
  pub on-frames : LeavesFrames frames saved_frames frames' saved_frames' m.depth floor base (row * (sizes.depth * 6))

-- ---- what a suspension asks

-- a sound world, the innermost active coroutine a with frames above its floor, and its record c in slot i
pub record Found (sizes : Sizes) (stack frames chain slots saved_stack saved_frames : List ℕ) (m : Machine) (s : CoroState) (a : Active) (i : ℕ) (c : CoroObj) : Type 0 where
  pub ok : Ok sizes (lent stack frames chain slots saved_stack saved_frames) (only m)
  pub state : is_suspended s ≡ true
  pub some : 1 ≤ m.active
  pub top : a ≡ active_in chain (m.active - 1)
  pub floor : a.floor < m.depth
  pub coro : Result.Ok (i, c) ≡ coro_of (slots_of m.count slots) a.coro

-- a sound world, and a state in which a coroutine is suspended
pub record SuspendFits (sizes : Sizes) (stack frames chain slots saved_stack saved_frames : List ℕ) (m : Machine) (s : CoroState) : Type 0 where
  pub ok : Ok sizes (lent stack frames chain slots saved_stack saved_frames) (only m)
  pub state : is_suspended s ≡ true
