-- heap.rs: get, of a function and of an iterator, by a word.
use Rattle.std.specs.Prelude.{Bool, false, List, ℕ, Option, Result, Some, None, Ok, Err}
use Rattle.heap.specs.Word.{class_of}
use Rattle.heap.specs.Object.{is_filled, is_done}
use Rattle.heap.specs.Table.{Slot, slot_at, get, not_a}
use Rattle.heap.specs.declared.fault.Fault.TheVariants as F
use Rattle.heap.specs.declared.object.Object.{Object}
use Rattle.heap.specs.declared.object.Object.TheVariants as O
use Rattle.heap.specs.declared.fault.Fault.{Fault}

-- coro.rs: indirect, the function that an object is; coll: not_a
abbrev pub as_callee : Object → Result ℕ Fault
as_callee O.Empty = Err F.TypeError
as_callee (O.Func f) = Ok f
as_callee (O.Int n) = Err F.TypeError
as_callee (O.Iter s d k) = Err F.TypeError
as_callee (O.Error e f p w) = Err F.TypeError
as_callee (O.Coro c) = Err F.TypeError

abbrev pub callee_by : List (Slot Object) → ℕ → Option ℕ → Result ℕ Fault
callee_by xs w None = Err (not_a (class_of w) None)
callee_by xs w (Some i) = as_callee (slot_at O.Empty is_filled xs i).object

abbrev pub callee_of : List (Slot Object) → ℕ → Result ℕ Fault
callee_of xs w = callee_by xs w (get O.Empty is_filled xs w)

-- coro.rs: iter_next, whether a word names an iterator that is done
abbrev pub done_by : List (Slot Object) → Option ℕ → Bool
done_by xs None = false
done_by xs (Some i) = is_done (slot_at O.Empty is_filled xs i).object

abbrev pub done_of : List (Slot Object) → ℕ → Bool
done_of xs w = done_by xs (get O.Empty is_filled xs w)
