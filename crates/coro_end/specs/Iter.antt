-- heap.rs: get, of an iterator, in the lower crate's slots.
use Rattle.std.specs.Prelude.{List, ℕ, Bool, Option, Some, None}
use Rattle.heap.specs.Object.{is_filled}
use Rattle.heap.specs.Table.{Slot, slot_at, get}
use Rattle.heap.specs.declared.object.Object.{Object}
use Rattle.heap.specs.declared.object.Object.TheVariants as O
use Rattle.coro_end.specs.declared.iter.Iterator.{Iterator}

-- an iterator and its slot
abbrev pub iterator : ℕ → ℕ → Bool → Option ℕ → Iterator
iterator i s d k = record { slot = i; src = s; done = d; key = k }

-- the object of slot i, if it is an iterator
abbrev pub as_iter : ℕ → Object → Option Iterator
as_iter i O.Empty = None
as_iter i (O.Func f) = None
as_iter i (O.Int n) = None
as_iter i (O.Iter s d k) = Some (iterator i s d k)
as_iter i (O.Error e f p w) = None
as_iter i (O.Coro c) = None

-- the iterator at a place
abbrev pub iter_by : List (Slot Object) → Option ℕ → Option Iterator
iter_by xs None = None
iter_by xs (Some i) = as_iter i (slot_at O.Empty is_filled xs i).object

-- the iterator that a word names
abbrev pub iter_of : List (Slot Object) → ℕ → Option Iterator
iter_of xs v = iter_by xs (get O.Empty is_filled xs v)
