-- A slot in 20 words: tag, kind, then the object's fields in order; words that are not used are 0. This layout is known to
-- this crate alone.
use Rattle.std.specs.Prelude.{ℕ, max, Bool, true, false, not, List, ◌∷◌, get_or, set, replicate, eqb, Option, Some, None}
use Rattle.lists.specs.Pick.{pick}
use Rattle.heap.specs.Object.{code_of, state_of}
use Rattle.heap.specs.Table.{Slot, slot}
use Rattle.heap.specs.declared.object.CoroState.{CoroState}
use Rattle.heap.specs.declared.object.CoroObj.{CoroObj}
use Rattle.heap.specs.declared.object.Object.{Object}
use Rattle.heap.specs.declared.object.Object.TheVariants as O

-- the words of a slot
abbrev pub width : ℕ
width = 20

abbrev pub zero : ℕ → List ℕ
zero n = replicate n 0

abbrev pub flag : Bool → ℕ
flag true = 1
flag false = 0

abbrev pub is_set : ℕ → Bool
is_set w = not (eqb w 0)

-- tag, kind and up to four fields
abbrev pub fields_of : ℕ → ℕ → ℕ → ℕ → ℕ → ℕ → List ℕ
fields_of tag kind a b c d = tag ∷ kind ∷ a ∷ b ∷ c ∷ d ∷ zero 14

-- ---- an object as words

abbrev pub coro_fields : CoroObj → List ℕ
coro_fields c =
    code_of c.state ∷ flag c.closing ∷ flag c.finalized ∷ flag c.task ∷ c.seq ∷ c.row ∷ c.regs ∷ c.frames
    ∷ c.maxregs ∷ c.maxframes ∷ c.waiting ∷ c.payload ∷ c.key ∷ c.largest ∷ c.result ∷ c.signal ∷ zero 2

abbrev pub iter_fields : ℕ → Bool → Option ℕ → List ℕ
iter_fields s d None = 3 ∷ s ∷ flag d ∷ zero 16
iter_fields s d (Some k) = 4 ∷ s ∷ flag d ∷ k ∷ zero 15

-- kind and fields: 0 empty, 1 function, 2 integer, 3 iterator without a key, 4 iterator with one, 5 error, 6 coroutine
abbrev pub object_words : Object → List ℕ
object_words O.Empty = 0 ∷ zero 18
object_words (O.Func f) = 1 ∷ f ∷ zero 17
object_words (O.Int n) = 2 ∷ n ∷ zero 17
object_words (O.Iter s d k) = iter_fields s d k
object_words (O.Error e f p w) = 5 ∷ e ∷ f ∷ p ∷ w ∷ zero 14
object_words (O.Coro c) = 6 ∷ coro_fields c

abbrev pub slot_words : Slot Object → List ℕ
slot_words v = v.tag ∷ object_words v.object

-- ---- a coroutine's words, some changed

-- what an entry changes: it runs, and nothing is saved; what was saved is among its largest sizes
abbrev pub entered_words : List ℕ → List ℕ
entered_words ws =
    let a = set (set (set ws 2 (code_of CoroState.Running)) 8 0) 9 0 in
    set (set a 10 (max (get_or ws 10 0) (get_or ws 8 0))) 11 (max (get_or ws 11 0) (get_or ws 9 0))

-- what a yield changes where it saves no more than before and closes nothing
abbrev pub yielded_words : ℕ → ℕ → ℕ → ℕ → ℕ → ℕ → List ℕ → List ℕ
yielded_words regs frames waiting payload key largest ws =
    let a = set (set (set ws 2 (code_of CoroState.Yielded)) 8 regs) 9 frames in
    set (set (set (set a 12 waiting) 13 payload) 14 key) 15 largest

-- what a suspension changes: neither finalized, task, seq and row nor the result
abbrev pub suspended_words : CoroObj → List ℕ → List ℕ
suspended_words c ws =
    let a = set (set (set (set ws 2 (code_of c.state)) 3 (flag c.closing)) 8 c.regs) 9 c.frames in
    let b = set (set (set (set a 10 c.maxregs) 11 c.maxframes) 12 c.waiting) 13 c.payload in
    set (set (set b 14 c.key) 15 c.largest) 17 c.signal

-- closing, with its signal
abbrev pub closing_words : ℕ → List ℕ → List ℕ
closing_words v ws = set (set ws 3 1) 17 v

-- its marks: a task; handed over for a cleanup
abbrev pub task_words : List ℕ → List ℕ
task_words ws = set ws 5 1

abbrev pub finalized_words : List ℕ → List ℕ
finalized_words ws = set ws 4 1

-- ---- words as an object

abbrev pub coro_at : List ℕ → CoroObj
coro_at ws =
    record {
      state = state_of (get_or ws 2 0);
      closing = is_set (get_or ws 3 0);
      finalized = is_set (get_or ws 4 0);
      task = is_set (get_or ws 5 0);
      seq = get_or ws 6 0;
      row = get_or ws 7 0;
      regs = get_or ws 8 0;
      frames = get_or ws 9 0;
      maxregs = get_or ws 10 0;
      maxframes = get_or ws 11 0;
      waiting = get_or ws 12 0;
      payload = get_or ws 13 0;
      key = get_or ws 14 0;
      largest = get_or ws 15 0;
      result = get_or ws 16 0;
      signal = get_or ws 17 0;
    }

abbrev pub object_at : List ℕ → Object
object_at ws =
    pick (eqb (get_or ws 1 0) 1) (O.Func (get_or ws 2 0))
    (pick (eqb (get_or ws 1 0) 2) (O.Int (get_or ws 2 0))
    (pick (eqb (get_or ws 1 0) 3) (O.Iter (get_or ws 2 0) (is_set (get_or ws 3 0)) None)
    (pick (eqb (get_or ws 1 0) 4) (O.Iter (get_or ws 2 0) (is_set (get_or ws 3 0)) (Some (get_or ws 4 0)))
    (pick (eqb (get_or ws 1 0) 5) (O.Error (get_or ws 2 0) (get_or ws 3 0) (get_or ws 4 0) (get_or ws 5 0))
    (pick (eqb (get_or ws 1 0) 6) (O.Coro (coro_at ws))
    O.Empty)))))

-- the kinds of objects that are there
abbrev pub fills : ℕ → Bool
fills k = pick (eqb k 1) true (pick (eqb k 2) true (pick (eqb k 3) true (pick (eqb k 4) true (pick (eqb k 5) true (pick (eqb k 6) true false)))))

abbrev pub slot_of_words : List ℕ → Slot Object
slot_of_words ws = slot (get_or ws 0 0) (object_at ws)
