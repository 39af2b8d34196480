-- heap.rs on the world: objects by their words, charges, alloc. conv.rs: encode_int, dyn_int, to_dyn.
use Rattle.std.specs.Prelude.{ℕ, Bool, true, not, List, length, leb, Option, Result, Some, None, Ok, Err}
use Rattle.lists.specs.Pick.{pick}
use Rattle.heap.specs.Word.{nil, class_of, slot_of}
use Rattle.heap.specs.Coding.{of_bits}
use Rattle.heap.specs.Int.{inline_of, exactly, value_of}
use Rattle.heap.specs.Charge as Charge
use Rattle.heap.specs.Charge.{sat_add}
use Rattle.heap.specs.Table as Table
use Rattle.heap.specs.Table.{Slot, slot_at, get, dyn_int_of, put_object, push_object, next_word}
use Rattle.heap.specs.declared.fault.Fault.{Fault}
use Rattle.heap.specs.declared.value.Word.{Word}
use Rattle.heap.specs.declared.int.IntTy.{IntTy}
use Rattle.model.specs.Object.{Core, Rest, Object, is_filled, Coroutine, Absent, Is, as_coro}
use Rattle.model.specs.World.{World, After, after, with_slots, with_used}
use Rattle.heap.specs.declared.heap.ResultKind.{ResultKind}

-- ---- objects by their words

abbrev pub place : World → ℕ → Option ℕ
place w v = get Object.Empty is_filled w.slots v

abbrev pub object_at : List (Slot Object) → Option ℕ → Object
object_at xs None = Object.Empty
object_at xs (Some i) = (slot_at Object.Empty is_filled xs i).object

-- heap.rs: get; Empty is the Rust's None
abbrev pub object : World → ℕ → Object
object w v = object_at w.slots (place w v)

-- heap.rs: coro
abbrev pub coro : World → ℕ → Coroutine
coro w v = as_coro (object w v)

-- coll.rs: not_a
abbrev pub not_a : World → ℕ → Fault
not_a w v = Table.not_a (class_of v) (place w v)

-- the object of a word replaced
abbrev pub set_object : ℕ → Object → World → World
set_object v o w = with_slots (put_object Object.Empty w.slots (slot_of v) o) w

abbrev pub set_coro : ℕ → Core → Rest → World → World
set_coro v k r w = set_object v (Object.Coro k r) w

-- heap.rs: coro_mut, a coroutine changed where the word finds one
abbrev pub change_as : Coroutine → ℕ → (Core → Core) → (Rest → Rest) → World → World
change_as Absent v f g w = w
change_as (Is k r) v f g w = set_coro v (f k) (g r) w

abbrev pub change_coro : ℕ → (Core → Core) → (Rest → Rest) → World → World
change_coro v f g w = change_as (coro w v) v f g w

-- heap.rs: get_mut, an iterator's mark and key changed where the word finds one
abbrev pub change_iter_in : Object → ℕ → (Bool → Bool) → ((Option ℕ) → Option ℕ) → World → World
change_iter_in Object.Empty v f g w = w
change_iter_in (Object.Func n) v f g w = w
change_iter_in (Object.Int n) v f g w = w
change_iter_in (Object.Iter s d k) v f g w = set_object v (Object.Iter s (f d) (g k)) w
change_iter_in (Object.Error e n p x) v f g w = w
change_iter_in (Object.Coro k r) v f g w = w

abbrev pub set_done : ℕ → World → World
set_done v w = change_iter_in (object w v) v (λ _. true) (λ k. k) w

abbrev pub set_key : ℕ → ℕ → World → World
set_key v key w = change_iter_in (object w v) v (λ d. d) (λ _. Some key) w

-- ---- charges

-- heap.rs: fits
abbrev pub fits : World → ℕ → Bool
fits w bytes = Charge.fits w.used w.setup.limits.memory bytes

-- every slot is taken
abbrev pub slots_full : World → Bool
slots_full w = leb w.setup.limits.slots (length w.slots)

abbrev pub refuse : World → Fault → After (Result ℕ Fault)
refuse w f = after w (Err f)

-- heap.rs: alloc. 01: "14 is tested right after memory and leaves what 9 leaves there."
unfoldable pub alloc : ℕ → Object → World → After (Result ℕ Fault)
alloc bytes o w =
    pick (not (fits w bytes)) (refuse w Fault.OutOfMemory)
    (pick (slots_full w) (refuse w Fault.Full)
    (after (with_used (sat_add w.used bytes) (with_slots (push_object w.slots o) w)) (Ok (next_word w.slots))))

-- ---- integers

-- conv.rs: encode_int, an integer's word: inline, or that of a new object, which costs I
abbrev pub encode_at : Option Word → ℕ → World → After (Result ℕ Fault)
encode_at (Some x) n w = after w (Ok x.0)
encode_at None n w = alloc w.setup.costs.int (Object.Int n) w

abbrev pub encode_int : ℕ → World → After (Result ℕ Fault)
encode_int n w = encode_at (inline_of (of_bits 63 n)) n w

-- conv.rs: dyn_int, the integer that a word holds
abbrev pub int_in : Object → Option ℕ
int_in Object.Empty = None
int_in (Object.Func f) = None
int_in (Object.Int n) = Some n
int_in (Object.Iter s d k) = None
int_in (Object.Error e f p v) = None
int_in (Object.Coro k r) = None

abbrev pub dyn_int : World → ℕ → Option ℕ
dyn_int w v = dyn_int_of Object.Empty is_filled int_in w.slots v

-- an integer of 64 bits as a word. 01: "A u64 above 2^63 - 1 gives 7."
abbrev pub encode_exact : Option ℕ → World → After (Result ℕ Fault)
encode_exact (Some n) w = encode_int n w
encode_exact None w = refuse w Fault.ArithOverflow

-- conv.rs: to_dyn, a result of a kind as a dynamic word; nil for none
unfoldable pub to_dyn : ResultKind → ℕ → World → After (Result ℕ Fault)
to_dyn ResultKind.None v w = after w (Ok nil)
to_dyn ResultKind.Dyn v w = after w (Ok v)
to_dyn ResultKind.I64 v w = encode_exact (exactly (value_of IntTy.I64 v)) w
to_dyn ResultKind.U64 v w = encode_exact (exactly (value_of IntTy.U64 v)) w
