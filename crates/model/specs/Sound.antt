-- 01: "Sound". One definition for each rule, under the words that it states. A frame's extent runs from its base to the next
-- frame's base, or to the end of the stack; of a saved frame, to the end of the saved words. Words, counts and fuel have 64
-- bits by their type.
use Rattle.std.specs.Prelude.{ℕ, suc, ◌+◌, ◌^◌, max, Bool, true, false, not, ◌&&◌, ◌||◌, List, [], ◌∷◌, map, length, eqb, ltb, leb, Option, Some, None}
use Rattle.lists.specs.Pick.{pick}
use Rattle.heap.specs.Word.{reference}
use Rattle.heap.specs.Table.{Slot}
use Rattle.model.specs.Lists.{is_nil, each, among, distinct}
use Rattle.model.specs.State.{is_running, is_suspended, is_resumable, is_finished}
use Rattle.model.specs.Program.{Func, Setup, func, is_function, between, setup_ok}
use Rattle.model.specs.Object.{Core, Rest, Object, Coroutine, Absent, Is, is_filled, as_coro}
use Rattle.model.specs.World.{World}
use Rattle.model.specs.Frames.{is_entry, is_coro, top_base}
use Rattle.model.specs.Heap.{coro}
use Rattle.model.specs.Rows.{held_rows}
use Rattle.model.specs.declared.machine.Cont.{Cont}
use Rattle.model.specs.declared.machine.Driver.{Driver}
use Rattle.model.specs.declared.machine.Active.{Active}
use Rattle.model.specs.declared.machine.Frame.{Frame}
use Rattle.model.specs.declared.machine.Stop.{Stop}

-- ---- "sizes within limits"

unfoldable pub sizes_ok : World → Bool
sizes_ok w =
    leb (length w.frames) w.setup.limits.depth && leb (length w.stack) w.setup.limits.stack
    && leb (length w.slots) w.setup.limits.slots && leb w.used w.setup.limits.memory

-- a row has room for as many words as the stack, or the widest function
abbrev pub widest : List Func → ℕ
widest [] = 0
widest (f ∷ fs) = max f.regs (widest fs)

abbrev pub row_words : Setup → ℕ
row_words s = max s.limits.stack (widest s.functions)

abbrev pub saved_sizes : Setup → Coroutine → Bool
saved_sizes s Absent = true
saved_sizes s (Is k r) =
    leb (length k.regs) (row_words s) && leb (length k.frames) s.limits.depth
    && leb r.maxregs (row_words s) && leb r.maxframes s.limits.depth

unfoldable pub saved_sizes_ok : World → Bool
saved_sizes_ok w = each (λ x. saved_sizes w.setup (as_coro x.object)) w.slots

-- ---- frames, on the stack or saved, over n words

-- "frame bases begin at 0, never fall and stay within the stack, which is empty without a frame"
abbrev pub bases_ok : ℕ → List Frame → Bool
bases_ok n [] = eqb n 0
bases_ok n (f ∷ fs) = leb f.base n && bases_ok f.base fs

-- "every frame, saved ones too, names a function"; a pc has 32 bits
abbrev pub frame_names : Setup → Frame → Bool
frame_names s f = is_function s f.func && ltb f.pc (2 ^ 32)

-- ".. continuation .. registers lie in their frame": the caller's, which is the next one below and ends where this one begins
abbrev pub lies_under : ℕ → ℕ → List Frame → Bool
lies_under r end [] = false
lies_under r end (f ∷ fs) = ltb (f.base + r) end

abbrev pub cont_lies : Cont → ℕ → List Frame → Bool
cont_lies Cont.Entry end fs = true
cont_lies (Cont.Write r) end fs = lies_under r end fs
cont_lies (Cont.Dyn r) end fs = lies_under r end fs
cont_lies (Cont.Value r) end fs = lies_under r end fs
cont_lies Cont.Discard end fs = true
cont_lies Cont.Coro end fs = true

abbrev pub conts_lie : List Frame → Bool
conts_lie [] = true
conts_lie (f ∷ fs) = cont_lies f.cont f.base fs && conts_lie fs

-- ".. and catch registers lie in their frame"
abbrev pub catches_lie : Setup → ℕ → List Frame → Bool
catches_lie s n [] = true
catches_lie s n (f ∷ fs) = each (λ h. ltb (f.base + h.catch) n) (func s f.func).handlers && catches_lie s f.base fs

abbrev pub frames_over : Setup → ℕ → List Frame → Bool
frames_over s n fs = bases_ok n fs && each (frame_names s) fs && conts_lie fs && catches_lie s n fs

unfoldable pub frames_ok : World → Bool
frames_ok w = frames_over w.setup (length w.stack) w.frames

-- "Entry only at the bottom"
abbrev pub entry_last : List Frame → Bool
entry_last [] = true
entry_last (f ∷ fs) = (not (is_entry f.cont) || is_nil fs) && entry_last fs

unfoldable pub entry_ok : World → Bool
entry_ok w = entry_last w.frames

-- ---- the chain

-- frames and chain from the top down: a Coro frame beside each active coroutine, and beside no other. `test` is of the frame,
-- those below it, and the active one.
abbrev pub beside : Bool → (Frame → List Frame → Active → Bool) → Frame → List Frame → List Active → (List Active → Bool) → Bool
beside false test f fs chain next = next chain
beside true test f fs [] next = false
beside true test f fs (a ∷ chain) next = test f fs a && next chain

abbrev pub matches : (Frame → List Frame → Active → Bool) → List Frame → List Active → Bool
matches test [] chain = is_nil chain
matches test (f ∷ fs) chain = beside (is_coro f.cont) test f fs chain (matches test fs)

-- "active floors rise, each at a Coro frame .., and no other frame is Coro"
unfoldable pub floors_ok : World → Bool
floors_ok w = matches (λ f fs a. eqb a.floor (length fs)) w.frames w.chain

-- ".. driver .. registers lie in their frame": the one just below the floor
abbrev pub driver_lies : Driver → ℕ → List Frame → Bool
driver_lies (Driver.Resume r) end fs = lies_under r end fs
driver_lies (Driver.Iter has val iter) end fs = lies_under has end fs && lies_under val end fs
driver_lies Driver.Host end fs = true
driver_lies Driver.Finalize end fs = true

unfoldable pub drivers_ok : World → Bool
drivers_ok w = matches (λ f fs a. driver_lies a.driver f.base fs) w.frames w.chain

-- "of a Running coroutine of its own, .. no other coroutine Running"
abbrev pub runs : Coroutine → Bool
runs Absent = false
runs (Is k r) = is_running k.state

abbrev pub coros : List Active → List ℕ
coros chain = map (λ a. a.coro) chain

abbrev pub runs_among : List ℕ → ℕ → List (Slot Object) → Bool
runs_among vs i [] = true
runs_among vs i (x ∷ xs) = (not (runs (as_coro x.object)) || among (reference i x.tag) vs) && runs_among vs (suc i) xs

unfoldable pub running_ok : World → Bool
running_ok w = each (λ a. runs (coro w a.coro)) w.chain && distinct (coros w.chain) && runs_among (coros w.chain) 0 w.slots

-- No rule is about a coroutine's signal, result, closing mark, payload or keys: in any state they are what the Rust leaves there.

-- ---- what is saved

-- "the first Coro .., the rest neither Coro nor Entry", and at least one
abbrev pub body_last : List Frame → Bool
body_last [] = false
body_last (f ∷ fs) = pick (is_nil fs) (is_coro f.cont) (not (is_coro f.cont) && not (is_entry f.cont) && body_last fs)

-- "waiting .. registers lie in their frame": the waiting register of a suspended coroutine, in its top frame
abbrev pub waits : Core → Bool
waits k = not (is_suspended k.state) || ltb (top_base k.frames + k.waiting) (length k.regs)

-- "a Created, Yielded or Awaiting one has at least one saved frame, the first Coro at base 0, the rest neither Coro nor Entry,
-- bases never falling and within its saved words"; of others "words not in use are 0"
abbrev pub saved_in : Setup → Coroutine → Bool
saved_in s Absent = true
saved_in s (Is k r) =
    pick (is_resumable k.state) (body_last k.frames && frames_over s (length k.regs) k.frames && waits k)
    (is_nil k.frames && is_nil k.regs)

unfoldable pub saved_ok : World → Bool
saved_ok w = each (λ x. saved_in w.setup (as_coro x.object)) w.slots

-- "one row per unfinished coroutine, its own"
unfoldable pub rows_ok : World → Bool
rows_ok w = each (λ row. ltb row w.setup.limits.rows) (held_rows w.slots) && distinct (held_rows w.slots)

-- ---- "queues hold coroutines, each not twice in one queue, the ready queue only tasks and the cleanup queue only finalized ones"

abbrev pub marked : (Rest → Bool) → Coroutine → Bool
marked mark Absent = false
marked mark (Is k r) = mark r

abbrev pub queue_ok : (Rest → Bool) → World → List ℕ → Bool
queue_ok mark w q = each (λ v. marked mark (coro w v)) q && distinct q

unfoldable pub queues_ok : World → Bool
queues_ok w = queue_ok (λ r. r.task) w w.ready && queue_ok (λ r. r.finalized) w w.finalize

-- ---- "fuel 0 while banked"

abbrev pub is_none : Option ℕ → Bool
is_none None = true
is_none (Some n) = false

unfoldable pub fuel_ok : World → Bool
fuel_ok w = is_none w.fuel.bank || eqb w.fuel.fuel 0

-- ---- "words not in use are 0", as far as a world shows them: an empty slot, the row of a finished coroutine

abbrev pub unused_in : Slot Object → Bool
unused_in x = is_filled x.object || eqb x.tag 0

abbrev pub rowless : Coroutine → Bool
rowless Absent = true
rowless (Is k r) = not (is_finished k.state) || eqb r.row 0

unfoldable pub unused_ok : World → Bool
unused_ok w = each (λ x. unused_in x && rowless (as_coro x.object)) w.slots

-- ---- what fields of 16 and 32 bits and codes can hold

abbrev pub object_range : Object → Bool
object_range Object.Empty = true
object_range (Object.Func f) = ltb f (2 ^ 32)
object_range (Object.Int n) = true
object_range (Object.Iter s d k) = true
object_range (Object.Error e f pc v) = between 1 8 e && ltb f (2 ^ 32) && ltb pc (2 ^ 32)
object_range (Object.Coro k r) = ltb k.waiting (2 ^ 16)

abbrev pub stop_range : Stop → Bool
stop_range (Stop.Yielded v) = true
stop_range (Stop.Awaiting v) = true
stop_range (Stop.Returned v) = true
stop_range (Stop.Failed v f pc) = ltb f (2 ^ 32) && ltb pc (2 ^ 32)
stop_range Stop.CloseIgnored = true

abbrev pub outcome_range : Option Stop → Bool
outcome_range None = true
outcome_range (Some s) = stop_range s

unfoldable pub ranges_ok : World → Bool
ranges_ok w = each (λ x. ltb x.tag (2 ^ 16) && object_range x.object) w.slots && outcome_range w.outcome

-- ---- 01: "Outer calls test this; inner ones may rely on it."

unfoldable pub sound : World → Bool
sound w =
    setup_ok w.setup && sizes_ok w && saved_sizes_ok w && frames_ok w && entry_ok w && floors_ok w && drivers_ok w && running_ok w && saved_ok w
    && rows_ok w && queues_ok w && fuel_ok w && unused_ok w && ranges_ok w
