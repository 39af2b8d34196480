-- What an observer sees in a machine's words before and after each call, and when a sleeper has come back.
use Rattle.std.specs.Prelude.{ℕ, zero, suc, ◌+◌, ◌-◌, ◌*◌, ◌/◌, ◌%◌, ◌^◌, Bool, not, ◌&&◌, List, [], ◌∷◌, length, ◌==◌, nat_le, nat_lt, slice_index, slice_set, Option, None, Some, is_some}
use Rattle.lists.specs.Pick.{pick}
use Rattle.lists.specs.Parts.{part, splice}
use Rattle.lists.specs.Tests.{all_below}
use Rattle.heap.specs.Word.{nil}
use Rattle.heap.specs.Fault as Faults
use Rattle.heap.specs.declared.fault.Fault.{Fault}
use Rattle.model.specs.Answer.{number_of}
use Rattle.model.specs.declared.call.Op.{Op}
use Rattle.memory_tables.specs.Layout.{base_in}
use Rattle.memory_world.specs.declared.machine.Machine.{Machine}
use Rattle.memory_calls.specs.Codes.{same}
use Rattle.memory_step.specs.Step.{MemoryState, Left, step_words}
use Rattle.furnace.specs.declared.watch.Part.{Part}
use Rattle.furnace.specs.declared.note.Seen.{Seen}
use Rattle.furnace.specs.declared.note.Count.{Count}

-- ---- in the words

-- of running coroutine i: its word, and the place of its body frame
abbrev pub coro_in : List ℕ → ℕ → ℕ
coro_in chain i = slice_index chain (i * 6 + 0)

abbrev pub floor_in : List ℕ → ℕ → ℕ
floor_in chain i = slice_index chain (i * 6 + 1)

-- the innermost of n; nil if there is none
abbrev pub innermost : List ℕ → ℕ → ℕ
innermost chain n = pick (n == 0) nil (coro_in chain (n - 1))

-- the innermost of n to which frame i belongs; nil if it belongs to none
abbrev pub owner_in : List ℕ → ℕ → ℕ → ℕ
owner_in chain zero i = nil
owner_in chain (suc k) i = pick (nat_le (floor_in chain k) i) (coro_in chain k) (owner_in chain k i)

-- the base of the top frame; the base of the innermost one's body frame, from which on the words of the stack are its own
abbrev pub top_base : List ℕ → Machine → ℕ
top_base frames m = base_in frames (m.depth - 1)

abbrev pub own_base : List ℕ → List ℕ → Machine → ℕ
own_base frames chain m = base_in frames (floor_in chain (m.active - 1))

-- those words
abbrev pub own_words : List ℕ → List ℕ → List ℕ → Machine → List ℕ
own_words stack frames chain m = let own = own_base frames chain m in part own (m.height - own) stack

-- ---- a call

-- whether it suspends the coroutine that runs, which register then waits, and its pc; whether it enters somebody with a word for the register that waits (a throw and a
-- close raise theirs)
abbrev pub part_of : Op → Part
part_of (Op.CoroNew pc dst f argc) = Part.Neither
part_of (Op.CoroNewIndirect pc dst callee argc) = Part.Neither
part_of (Op.Spawn pc dst callee argc) = Part.Neither
part_of (Op.Yield pc dst src) = Part.Waits dst pc
part_of (Op.YieldKv pc dst src key) = Part.Waits dst pc
part_of (Op.Await pc dst src) = Part.Waits dst pc
part_of (Op.Resume pc dst c src) = Part.Sends src
part_of (Op.ResumeThrow pc dst c src) = Part.Neither
part_of (Op.CoroClose pc dst c src) = Part.Neither
part_of (Op.CoroStatus pc dst c) = Part.Neither
part_of (Op.CoroCurrent pc dst) = Part.Neither
part_of (Op.CoroKey pc dst c) = Part.Neither
part_of (Op.CoroResult pc dst c) = Part.Neither
part_of (Op.IterNext pc has iter val src) = Part.Hands nil
part_of (Op.Finish kind x) = Part.Neither
part_of (Op.Unwind f pc) = Part.Neither
part_of (Op.SpawnTask x) = Part.Neither
part_of (Op.HostCall f) = Part.Neither
part_of (Op.HostEntry c x) = Part.Hands x
part_of (Op.FunctionCall pc f cont) = Part.Neither
part_of (Op.PutWord r x) = Part.Neither
part_of (Op.MakeIterator x) = Part.Neither
part_of Op.TakeOutcome = Part.Neither
part_of (Op.HandOver x) = Part.Neither
part_of (Op.Grant n) = Part.Neither
part_of Op.StopRun = Part.Neither
part_of Op.Look = Part.Neither

-- the word that it sends
abbrev pub sent_by : List ℕ → List ℕ → Machine → Part → Option ℕ
sent_by stack frames m (Part.Waits r pc) = None
sent_by stack frames m (Part.Sends r) = Some (slice_index stack (top_base frames m + r))
sent_by stack frames m (Part.Hands x) = Some x
sent_by stack frames m Part.Neither = None

-- where a cleanup was started in its place nothing is sent
abbrev pub arriving : ℕ → Option ℕ → Option ℕ
arriving n s = pick (n == 0) s None

-- ---- before a call

abbrev pub seen_in : List ℕ → List ℕ → List ℕ → Machine → Op → Seen
seen_in stack frames chain m o = record { active = m.active; coro = innermost chain m.active; sent = sent_by stack frames m (part_of o) }

-- A note of a sleeper, 32 words: how many words it holds, which of them waits, its base, and the words, at most 13; from place 16 on how many
-- frames it has, and their words, at most 12. There is one for each of the slots 6 to 9.
abbrev pub note_of : ℕ → ℕ
note_of w = (w % 4 + 2) % 4 * 32

abbrev pub note_fits : List ℕ → ℕ → ℕ → ℕ → ℕ → Bool
note_fits stack own top height r = nat_le own height && (nat_le height (length stack) && (nat_le (height - own) 13 && nat_lt (top - own + r) (height - own)))

abbrev pub note : List ℕ → ℕ → ℕ → ℕ → ℕ → List ℕ → List ℕ
note stack at n place own notes = splice (slice_set (slice_set (slice_set notes at n) (at + 1) place) (at + 2) own) (at + 3) (part own n stack)

-- the frames from place `floor` on, at most two
abbrev pub frames_fit : List ℕ → ℕ → ℕ → Bool
frames_fit frames floor depth = nat_lt floor depth && (nat_le (depth - floor) 2 && nat_le depth (length frames / 6))

-- where the top one's pc stands among the words of n frames
abbrev pub top_pc : ℕ → ℕ
top_pc n = n * 6 - 5

-- with the pc at which the top one sleeps
abbrev pub note_frames : List ℕ → ℕ → ℕ → ℕ → ℕ → List ℕ → List ℕ
note_frames frames at floor n pc notes = slice_set (splice (slice_set notes (at + 16) n) (at + 17) (part (floor * 6) (n * 6) frames)) (at + 17 + top_pc n) pc

-- of the coroutine that runs, where the register r of the top frame is to wait
abbrev pub noted_at : List ℕ → List ℕ → List ℕ → Machine → ℕ → ℕ → List ℕ → List ℕ
noted_at stack frames chain m r pc notes =
    let own = own_base frames chain m in
    let top = top_base frames m in
    let floor = floor_in chain (m.active - 1) in
    let at = note_of (coro_in chain (m.active - 1)) in
    pick (not (m.active == 0) && (note_fits stack own top m.height r && frames_fit frames floor m.depth))
    (note_frames frames at floor (m.depth - floor) pc (note stack at (m.height - own) (top - own + r) own notes))
    notes

abbrev pub noted : List ℕ → List ℕ → List ℕ → Machine → Part → List ℕ → List ℕ
noted stack frames chain m (Part.Waits r pc) notes = noted_at stack frames chain m r pc notes
noted stack frames chain m (Part.Sends r) notes = notes
noted stack frames chain m (Part.Hands x) notes = notes
noted stack frames chain m Part.Neither notes = notes

-- ---- after it

-- n, and at most so much
abbrev pub at_most : ℕ → ℕ → ℕ
at_most most n = pick (nat_le n most) n most

-- how many words a note has, and they
abbrev pub noted_words : List ℕ → ℕ → ℕ
noted_words notes at = at_most 13 (slice_index notes at)

abbrev pub held_in : List ℕ → ℕ → List ℕ
held_in notes at = part (at + 3) (noted_words notes at) notes

-- what a sleeper held, with the word sent, if one is, in the place that waits
abbrev pub sent_to : Option ℕ → ℕ → List ℕ → List ℕ
sent_to (Some x) place held = slice_set held place x
sent_to None place held = held

-- word p of the frames again, which was `was` and is `is`: a base as far above the sleeper's own as it was; the top one's pc one step further
-- where a word is sent; any other the same
abbrev pub word_back : Bool → ℕ → ℕ → ℕ → ℕ → ℕ → ℕ → Bool
word_back sent n from to p was is =
    pick (p % 6 == 2) (is - to == was - from)
    (pick (sent && p == top_pc n) (is == (was % 2 ^ 32 + 1) % 2 ^ 32) (is == was))

abbrev pub noted_frames : List ℕ → ℕ → ℕ
noted_frames notes at = at_most 2 (slice_index notes (at + 16))

-- those from place `floor` on, the sleeper's own base being `from` then and `to` now
abbrev pub frames_back : List ℕ → ℕ → ℕ → List ℕ → ℕ → Bool → ℕ → ℕ → Bool
frames_back frames floor depth notes at sent from to =
    let n = noted_frames notes at in
    (depth - floor == n) && all_below (n * 6) (λ p. word_back sent n from to p (slice_index notes (at + 17 + p)) (slice_index frames (floor * 6 + p)))

abbrev pub none : Count
none = record { wakes = 0; equal = 0 }

-- one wake more
abbrev pub one_more : Count → Bool → Count
one_more c equal = record { wakes = (c.wakes + 1) % 2 ^ 64; equal = pick equal ((c.equal + 1) % 2 ^ 64) c.equal }

-- whether the coroutine that runs has again the words and the frames of the note at `at`
abbrev pub is_back : List ℕ → List ℕ → List ℕ → Machine → Option ℕ → List ℕ → ℕ → Bool
is_back stack frames chain m s notes at =
    same (sent_to s (slice_index notes (at + 1)) (held_in notes at)) (own_words stack frames chain m)
    && frames_back frames (floor_in chain (m.active - 1)) m.depth notes at (is_some s) (slice_index notes (at + 2)) (own_base frames chain m)

-- the coroutine that runs now was entered: if it has a note it was woken, and is to have again what it held
abbrev pub entering : List ℕ → List ℕ → List ℕ → Machine → Option ℕ → List ℕ → Count → Count
entering stack frames chain m s notes c =
    let at = note_of (coro_in chain (m.active - 1)) in
    pick (noted_words notes at == 0) c (one_more c (is_back stack frames chain m s notes at))

-- the call answered n: was somebody entered?
abbrev pub counted : List ℕ → List ℕ → List ℕ → Machine → ℕ → Seen → List ℕ → Count → Count
counted stack frames chain m n was notes c = pick (nat_lt was.active m.active) (entering stack frames chain m (arriving n was.sent) notes c) c

-- of wakes, so many equal: there was one, and each was
abbrev pub all_equal : ℕ → ℕ → Bool
all_equal wakes equal = not (wakes == 0) && equal == wakes

-- ---- calls, watched

-- the number of the fault that is told, if one is
abbrev pub fault_number : Option Fault → ℕ
fault_number None = 0
fault_number (Some f) = Faults.number_of f

pub record Watched : Type 0 where
  pub state : MemoryState
  pub notes : List ℕ
  pub count : Count

abbrev pub watched : MemoryState → List ℕ → Count → Watched
watched s notes c = record { state = s; notes = notes; count = c }

-- the notes before the call, of its words; the count after it
abbrev pub notes_at : MemoryState → Op → List ℕ → List ℕ
notes_at s o notes = noted s.words.stack s.words.frames s.words.chain s.machine (part_of o) notes

abbrev pub seen_at : MemoryState → Op → Seen
seen_at s o = seen_in s.words.stack s.words.frames s.words.chain s.machine o

abbrev pub counted_at : Left → Seen → List ℕ → Count → Count
counted_at d was notes c = counted d.state.words.stack d.state.words.frames d.state.words.chain d.state.machine (number_of d.answer) was notes c

unfoldable pub watch : Watched → Op → Watched
watch s o =
    let did = step_words s.state o in
    let notes = notes_at s.state o s.notes in
    watched did.state notes (counted_at did (seen_at s.state o) notes s.count)

-- one after the other, whatever they answer
abbrev pub watches : Watched → List Op → Watched
watches s [] = s
watches s (o ∷ os) = watches (watch s o) os
