-- heap.rs: the table of slots in lent words, slot i in the words from 20 * i on.
use Rattle.std.specs.Prelude.{ℕ, ◌+◌, ◌*◌, ◌≤◌, List, length, Option, Result, Some, None, Ok, Err}
use Rattle.lists.specs.Chunks.{chunks, chunk_at, put_chunk}
use Rattle.heap.specs.Word.{nil, reference, class_of}
use Rattle.heap.specs.Coding.{of_bits}
use Rattle.heap.specs.Int.{inline_of, exactly, value_of}
use Rattle.heap.specs.Object.{is_filled}
use Rattle.heap.specs.Table.{Slot, slot, slot_at, get, not_a}
use Rattle.heap.specs.Slot.{width, coro_at, slot_of_words, slot_words}
use Rattle.heap.specs.Charge.{lacks, with_used, with_count, sat_add}
use Rattle.heap.specs.declared.fault.Fault.{Fault}
use Rattle.heap.specs.declared.fault.Fault.TheVariants as F
use Rattle.heap.specs.declared.value.Word.{Word}
use Rattle.heap.specs.declared.int.IntTy.TheVariants as T
use Rattle.heap.specs.declared.object.CoroObj.{CoroObj}
use Rattle.heap.specs.declared.object.Object.{Object}
use Rattle.heap.specs.declared.object.Object.TheVariants as O
use Rattle.heap.specs.declared.heap.Heap.{Heap}
use Rattle.heap.specs.declared.heap.ResultKind.{ResultKind}
use Rattle.heap.specs.declared.heap.ResultKind.TheVariants as K

-- the words have room for n slots; they have a slot i
abbrev pub TableFits : List ℕ → ℕ → Type 0
TableFits ws n = n * width ≤ length ws

abbrev pub SlotFits : List ℕ → ℕ → Type 0
SlotFits ws i = i * width + width ≤ length ws

-- the slot at place i of the words
abbrev pub slot_in : List ℕ → ℕ → Slot Object
slot_in ws i = slot_of_words (chunk_at width ws i)

-- the coroutine there
abbrev pub coro_in : List ℕ → ℕ → CoroObj
coro_in ws i = coro_at (chunk_at width ws i)

-- the first n slots
abbrev pub slots_of : ℕ → List ℕ → List (Slot Object)
slots_of n ws = chunks width slot_of_words n ws

-- the words with slot i replaced
abbrev pub put_slot : List ℕ → ℕ → Slot Object → List ℕ
put_slot ws i v = put_chunk width ws i (slot_words v)

-- heap.rs: coro; coll: not_a
abbrev pub as_coro : ℕ → Object → Result (ℕ × CoroObj) Fault
as_coro i O.Empty = Err F.TypeError
as_coro i (O.Func f) = Err F.TypeError
as_coro i (O.Int n) = Err F.TypeError
as_coro i (O.Iter s d k) = Err F.TypeError
as_coro i (O.Error e f p w) = Err F.TypeError
as_coro i (O.Coro c) = Ok (i, c)

abbrev pub coro_by : List (Slot Object) → ℕ → Option ℕ → Result (ℕ × CoroObj) Fault
coro_by xs w None = Err (not_a (class_of w) None)
coro_by xs w (Some i) = as_coro i (slot_at O.Empty is_filled xs i).object

abbrev pub coro_of : List (Slot Object) → ℕ → Result (ℕ × CoroObj) Fault
coro_of xs w = coro_by xs w (get O.Empty is_filled xs w)

-- the place alone
abbrev pub place_of : Result (ℕ × CoroObj) Fault → Result ℕ Fault
place_of (Ok (i, c)) = Ok i
place_of (Err f) = Err f

-- words enough for the slots, whose numbers have 32 bits
pub record Room (ws : List ℕ) (h : Heap) : Type 0 where
  pub words : TableFits ws h.slots
  pub slots : h.slots ≤ 4096

-- what an allocation answers, and the words after it
pub record Out : Type 0 where
  pub made : Result (Word × Heap) Fault
  pub words : List ℕ

abbrev pub out : Result (Word × Heap) Fault → List ℕ → Out
out m ws = record { made = m; words = ws }

-- what an allocation of so many bytes lacks
abbrev pub lacks_of : Heap → ℕ → Result Unit Fault
lacks_of h bytes = lacks h.used h.limit bytes h.count h.slots

-- heap.rs: alloc, into the next slot
abbrev pub alloc_by : Result Unit Fault → List ℕ → Heap → ℕ → Object → Out
alloc_by (Ok u) ws h bytes o =
    out (Ok (record { 0 = reference h.count 0 }, with_count (h.count + 1) (with_used (sat_add h.used bytes) h))) (put_slot ws h.count (slot 0 o))
alloc_by (Err f) ws h bytes o = out (Err f) ws

abbrev pub alloc_of : List ℕ → Heap → ℕ → Object → Out
alloc_of ws h bytes o = alloc_by (lacks_of h bytes) ws h bytes o

-- conv: encode_int, an inline word or an integer object
abbrev pub encode_by : Option Word → List ℕ → Heap → ℕ → ℕ → Out
encode_by (Some w) ws h bytes n = out (Ok (w, h)) ws
encode_by None ws h bytes n = alloc_of ws h bytes (O.Int n)

abbrev pub encode_of : List ℕ → Heap → ℕ → ℕ → Out
encode_of ws h bytes n = encode_by (inline_of (of_bits 63 n)) ws h bytes n

-- conv: to_dyn at the two integer types. 01: "A u64 above 2^63 - 1 gives 7."
abbrev pub int_by : Option ℕ → List ℕ → Heap → ℕ → Out
int_by (Some n) ws h bytes = encode_of ws h bytes n
int_by None ws h bytes = out (Err F.ArithOverflow) ws

-- conv: to_dyn. 01: "Result kinds: none, dynamic word, i64, u64."
abbrev pub to_dyn : ResultKind → List ℕ → Heap → ℕ → ℕ → Out
to_dyn K.None ws h bytes n = out (Ok (record { 0 = nil }, h)) ws
to_dyn K.Dyn ws h bytes n = out (Ok (record { 0 = n }, h)) ws
to_dyn K.I64 ws h bytes n = int_by (exactly (value_of T.I64 n)) ws h bytes
to_dyn K.U64 ws h bytes n = int_by (exactly (value_of T.U64 n)) ws h bytes
