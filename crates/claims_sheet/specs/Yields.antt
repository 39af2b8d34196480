-- THE SHEET of Yield, YieldKv and Await, continued: their tests. The charge left u.
use Rattle.std.specs.Prelude.{ℕ, ◌/◌, ◌%◌, ◌^◌, Bool, true, false, not, ◌&&◌, List, [], ◌∷◌, ℤ, pos, ◌+ℤ◌, eqb, Option, Some, None}
use Rattle.std.specs.Int.Signed.{lt_z}
use Rattle.lists.specs.Pick.{pick}
use Rattle.heap.specs.Coding.{in_range, bits_of, of_bits}
use Rattle.heap.specs.Word.{int_word}
use Rattle.heap.specs.declared.object.CoroState.{CoroState}
use Rattle.model.specs.Lists.{is_nil}
use Rattle.model.specs.Object.{Rest, Object}
use Rattle.model.specs.World.{World}
use Rattle.model.specs.declared.machine.Stop.{Stop}
use Rattle.model.specs.declared.exec.Step.{Step}
use Rattle.claims_sheet.specs.Setters.{with_closing, with_key, with_largest, with_signal}
use Rattle.claims_sheet.specs.Lines.{Line, Lines, lines, stop, raise, accept}
use Rattle.claims_sheet.specs.Words.{word, found, lacks_memory, no_slot}
use Rattle.claims_sheet.specs.Moves.{pc_stored}
use Rattle.claims_sheet.specs.Makings.{stored, new_word}
use Rattle.claims_sheet.specs.Suspending.{innermost_active, rest_here, saved_core, growth, saved_rest, suspended_with, asks, is_loop, delivered}

-- ---- a yield, from a world in which the key is made

-- "A yield while closing clears closing"
abbrev pub unclosed : Rest → Rest
unclosed r = pick r.closing (with_closing false (with_signal 0 r)) r

abbrev pub suspended_by_yield : ℕ → ℕ → ℕ → ℕ → World → World
suspended_by_yield dst payload key largest z = suspended_with (saved_core CoroState.Yielded dst z) (unclosed (with_key key (with_largest largest (saved_rest z payload (rest_here z))))) z

-- pc is stored before 9; 6 and what is delivered come once it is suspended
abbrev pub yields : ℕ → ℕ → ℕ → ℕ → ℕ → World → List (Line Step)
yields pc dst payload key largest v =
    let z = pc_stored pc v in
    stop 9 (lacks_memory z (growth z)) z ∷ raise 6 ((rest_here z).closing && asks (innermost_active z.chain).driver) (suspended_by_yield dst payload key largest z) ∷ []

abbrev pub yield_ends : ℕ → ℕ → ℕ → ℕ → ℕ → World → Line Step
yield_ends pc dst payload key largest v =
    let z = pc_stored pc v in
    accept true Step.Frame (delivered (innermost_active z.chain).driver payload key (pick (rest_here z).closing Stop.CloseIgnored (Stop.Yielded payload)) (suspended_by_yield dst payload key largest z))

-- ---- Yield: "the largest integer key so far plus 1 .. at 2^63 - 1 it answers 7"

abbrev pub next_key : World → ℤ
next_key u = of_bits 63 (rest_here u).largest +ℤ pos 1

-- its 64 bits; whether they are no inline integer: "from -2^47 to 2^47 - 1"
abbrev pub key_bits : World → ℕ
key_bits u = bits_of 63 (next_key u)

abbrev pub is_large : ℕ → Bool
is_large n = not (in_range 47 (of_bits 63 n))

-- a key that is not inline is an object
abbrev pub keyed : World → World
keyed u = pick (is_large (key_bits u)) (stored (Object.Int (key_bits u)) u.setup.costs.int u) u

abbrev pub key_word : World → ℕ
key_word u = pick (is_large (key_bits u)) (new_word u) (int_word (of_bits 63 (key_bits u)))

-- pc is not stored before 5, 7 and the key object's 9 and 14
abbrev pub yield : ℕ → ℕ → ℕ → World → Lines Step
yield pc dst src u =
    lines
    (stop 5 (is_nil u.chain) u
    ∷ stop 7 (not (in_range 63 (next_key u))) u
    ∷ stop 9 (is_large (key_bits u) && lacks_memory u u.setup.costs.int) u
    ∷ stop 14 (is_large (key_bits u) && no_slot u) u
    ∷ yields pc dst (word u src) (key_word u) (key_bits u) (keyed u))
    (yield_ends pc dst (word u src) (key_word u) (key_bits u) (keyed u))

-- ---- YieldKv: "keeps its own key and raises the largest if the key is a greater integer"

-- the integer that a word is, or names, as 64 bits
abbrev pub bits_in : Object → Option ℕ
bits_in Object.Empty = None
bits_in (Object.Func f) = None
bits_in (Object.Int n) = Some n
bits_in (Object.Iter s d k) = None
bits_in (Object.Error e f p v) = None
bits_in (Object.Coro k r) = None

abbrev pub integer_of : World → ℕ → Option ℕ
integer_of w v = pick (eqb (v / 2 ^ 48) 0xFFFE) (Some (bits_of 63 (of_bits 47 (v % 2 ^ 48)))) (bits_in (found w v))

abbrev pub raised_largest : ℕ → Option ℕ → ℕ
raised_largest largest None = largest
raised_largest largest (Some n) = pick (lt_z (of_bits 63 largest) (of_bits 63 n)) n largest

abbrev pub yield_kv : ℕ → ℕ → ℕ → ℕ → World → Lines Step
yield_kv pc dst src key u =
    let largest = raised_largest (rest_here u).largest (integer_of u (word u key)) in
    lines (stop 5 (is_nil u.chain) u ∷ yields pc dst (word u src) (word u key) largest u) (yield_ends pc dst (word u src) (word u key) largest u)

-- ---- Await: "leaves key and largest"; "an Await there is 2, after suspending"; "an Await leaves closing set"

abbrev pub suspended_by_await : ℕ → ℕ → World → World
suspended_by_await dst payload z = suspended_with (saved_core CoroState.Awaiting dst z) (saved_rest z payload (rest_here z)) z

abbrev pub awaits : ℕ → ℕ → ℕ → World → List (Line Step)
awaits pc dst payload u =
    let z = pc_stored pc u in
    stop 9 (lacks_memory z (growth z)) z ∷ raise 2 (is_loop (innermost_active z.chain).driver) (suspended_by_await dst payload z) ∷ []

abbrev pub await_ends : ℕ → ℕ → ℕ → World → Line Step
await_ends pc dst payload u =
    let z = pc_stored pc u in
    accept true Step.Frame (delivered (innermost_active z.chain).driver payload 0 (Stop.Awaiting payload) (suspended_by_await dst payload z))

abbrev pub await : ℕ → ℕ → ℕ → World → Lines Step
await pc dst src u = lines (stop 5 (is_nil u.chain) u ∷ awaits pc dst (word u src) u) (await_ends pc dst (word u src) u)
