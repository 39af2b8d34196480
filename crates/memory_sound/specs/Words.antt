-- 01: "Sound", of lent words, numbers and fuel. One definition for each rule that speaks of words, under 01's sentence; the rules on
-- what the words decode to are `sound`.
use Rattle.std.specs.Prelude.{ℕ, ◌*◌, Bool, true, false, ◌&&◌, List, [], ◌∷◌, length, drop, eqb, leb}
use Rattle.lists.specs.Chunks.{chunk_at}
use Rattle.lists.specs.Parts.{pad}
use Rattle.lists.specs.Tests.{all_below, zeros}
use Rattle.heap.specs.Table.{Slot}
use Rattle.heap.specs.Slot.{width, slot_words, slot_of_words}
use Rattle.heap.specs.Heap.{slots_of}
use Rattle.heap.specs.declared.object.Object as H
use Rattle.heap.specs.declared.object.Object.TheVariants as O
use Rattle.model.specs.Lists.{each}
use Rattle.model.specs.Program.{Setup, setup_ok}
use Rattle.model.specs.Object.{Object}
use Rattle.model.specs.World.{World}
use Rattle.model.specs.Sound.{row_words, sound}
use Rattle.model.specs.declared.machine.Fuel.{Fuel}
use Rattle.memory_tables.specs.Layout.{frame_words, frame_of, active_words, active_of}
use Rattle.memory_tables.specs.Sizes.{setup_words, stack_size, frames_size, chain_size, saved_stack_size, saved_frames_size, slots_size, queue_size}
use Rattle.memory_world.specs.Rows.{row_at}
use Rattle.memory_world.specs.Told.{told, outcome_in}
use Rattle.memory_world.specs.Memory.{Lent}
use Rattle.memory_world.specs.declared.machine.Told.{Told}
use Rattle.memory_world.specs.declared.machine.Machine.{Machine}
use Rattle.memory_world.specs.Decode.{setup_of, world_of}

-- ---- words and records

abbrev pub same : List ℕ → List ℕ → Bool
same [] [] = true
same [] (y ∷ ys) = false
same (x ∷ xs) [] = false
same (x ∷ xs) (y ∷ ys) = eqb x y && same xs ys

-- codes, flags and unused fields: the words of each of n records are those of what they decode to
module _ {A : Type 0} (w : ℕ) (enc : A → List ℕ) (dec : List ℕ → A) where
  abbrev pub coded : ℕ → List ℕ → Bool
  coded n ws = all_below n (λ i. same (enc (dec (chunk_at w ws i))) (chunk_at w ws i))

-- "words not in use are 0": those after the first n, to the end of the slice
abbrev pub rest_ok : List ℕ → ℕ → Bool
rest_ok ws n = zeros (drop n ws)

-- ---- the set-up

-- 01's closing list, and the words are exactly those of the set-up, with zeros after them
abbrev pub setup_held : List ℕ → Bool
setup_held ws = setup_ok (setup_of ws) && same ws (pad (length ws) (setup_words (setup_of ws)))

-- "lent words enough for them"
abbrev pub room_ok : Setup → Lent → Bool
room_ok s M =
    leb (stack_size s) (length M.stack) && leb (frames_size s) (length M.frames) && leb (chain_size s) (length M.chain)
    && leb (slots_size s) (length M.slots) && leb (saved_stack_size s) (length M.saved_stack) && leb (saved_frames_size s) (length M.saved_frames)
    && leb (queue_size s) (length M.ready) && leb (queue_size s) (length M.finalize)

-- ---- the numbers

-- "sizes within limits": no more running coroutines than frames, no more words in a queue than slots
abbrev pub counts_ok : Setup → Machine → Bool
counts_ok s m =
    leb m.height s.limits.stack && leb m.depth s.limits.depth && leb m.active s.limits.depth
    && leb m.count s.limits.slots && leb m.ready s.limits.slots && leb m.finalize s.limits.slots

-- an outcome's number is one of six, and what it has not is 0
abbrev pub outcome_held : Told → Bool
outcome_held t =
    let u = told (outcome_in t) in
    eqb u.0 t.0 && eqb u.1 t.1 && eqb u.2 t.2 && eqb u.3 t.3

-- ---- the tables

abbrev pub frames_held : List ℕ → ℕ → Bool
frames_held ws n = coded 6 frame_words frame_of n ws && rest_ok ws (n * 6)

abbrev pub chain_held : List ℕ → ℕ → Bool
chain_held ws n = coded 6 active_words active_of n ws && rest_ok ws (n * 6)

abbrev pub slots_held : List ℕ → ℕ → Bool
slots_held ws n = coded width slot_words slot_of_words n ws && rest_ok ws (n * width)

-- the stack and the queues
abbrev pub runs_held : Lent → Machine → Bool
runs_held M m = rest_ok M.stack m.height && rest_ok M.ready m.ready && rest_ok M.finalize m.finalize

-- ---- the rows

-- "sizes within limits": a coroutine counts no more saved registers than a row has words
abbrev pub fits_row : ℕ → H.Object → Bool
fits_row width O.Empty = true
fits_row width (O.Func f) = true
fits_row width (O.Int n) = true
fits_row width (O.Iter s d k) = true
fits_row width (O.Error e f p v) = true
fits_row width (O.Coro c) = leb c.regs width

abbrev pub fits_rows : Setup → List (Slot H.Object) → Bool
fits_rows s xs = each (λ x. fits_row (row_words s) x.object) xs

-- "words not in use are 0": in each row, those after what its coroutine has saved; after the rows, all
abbrev pub saved_stack_held : Setup → List (Slot Object) → List ℕ → Bool
saved_stack_held s xs ws =
    all_below s.limits.rows (λ i. rest_ok (chunk_at (row_words s) ws i) (length (row_at i xs).regs)) && rest_ok ws (saved_stack_size s)

abbrev pub saved_frames_held : Setup → List (Slot Object) → List ℕ → Bool
saved_frames_held s xs ws =
    all_below s.limits.rows (λ i. frames_held (chunk_at (frames_size s) ws i) (length (row_at i xs).frames)) && rest_ok ws (saved_frames_size s)

-- ---- 01: "Outer calls test this"

-- the words, as far as a set-up s is concerned
abbrev pub words_ok : Setup → World → Lent → Machine → Bool
words_ok s w M m =
    room_ok s M && counts_ok s m && outcome_held m.outcome && runs_held M m && frames_held M.frames m.depth && chain_held M.chain m.active
    && slots_held M.slots m.count && fits_rows s (slots_of m.count M.slots)
    && saved_stack_held s w.slots M.saved_stack && saved_frames_held s w.slots M.saved_frames

unfoldable pub sound_words : Lent → Machine → Fuel → Bool
sound_words M m f = setup_held M.setup && words_ok (setup_of M.setup) (world_of M m f) M m && sound (world_of M m f)
