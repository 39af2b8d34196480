-- The slots with the rows that they hold, and the rows that nobody holds.
use Rattle.std.specs.Prelude.{ℕ, ◌*◌, ◌≤◌, ◌≡◌, Bool, true, not, ◌&&◌, ◌||◌, List, [], ◌∷◌, ltb, length}
use Rattle.lists.specs.Pick.{pick}
use Rattle.lists.specs.Chunks.{chunk_at}
use Rattle.lists.specs.Tests.{all_below}
use Rattle.heap.specs.Slot.{width}
use Rattle.heap.specs.State.{is_running, is_finished}
use Rattle.heap.specs.Table.{Slot}
use Rattle.heap.specs.Heap.{slot_in, slots_of}
use Rattle.heap.specs.declared.object.CoroObj.{CoroObj}
use Rattle.heap.specs.declared.object.Object as H
use Rattle.heap.specs.declared.object.Object.TheVariants as O
use Rattle.model.specs.Lists.{among, distinct}
use Rattle.model.specs.Program.{Setup}
use Rattle.memory_world.specs.declared.machine.Sizes.{Sizes}
use Rattle.memory_sound.specs.Words.{rest_ok}
use Rattle.check_tables.specs.Queue.{bit_at}
use Rattle.check_machine.specs.Saved.{coro_test, SavedFits}

module _ (sizes : Sizes) (s : Setup) (stack frames : List ℕ) where
  -- a coroutine at slot i: what it has saved, and "no other coroutine Running" than the chain's
  abbrev pub coro_fine : (ℕ → Bool) → ℕ → CoroObj → Bool
  coro_fine chained i c = coro_test sizes s stack frames c && (not (is_running c.state) || chained i)

  abbrev pub object_fine : (ℕ → Bool) → ℕ → H.Object → Bool
  object_fine chained i O.Empty = true
  object_fine chained i (O.Func f) = true
  object_fine chained i (O.Int n) = true
  object_fine chained i (O.Iter c d k) = true
  object_fine chained i (O.Error e f p v) = true
  object_fine chained i (O.Coro c) = coro_fine chained i c

  -- the row that it holds, 64 for none, 65 if it is refused
  abbrev pub coro_row : (ℕ → Bool) → ℕ → CoroObj → ℕ
  coro_row chained i c = pick (coro_fine chained i c) (pick (is_finished c.state) 64 c.row) 65

  abbrev pub object_row : (ℕ → Bool) → ℕ → H.Object → ℕ
  object_row chained i O.Empty = 64
  object_row chained i (O.Func f) = 64
  object_row chained i (O.Int n) = 64
  object_row chained i (O.Iter c d k) = 64
  object_row chained i (O.Error e f p v) = 64
  object_row chained i (O.Coro c) = coro_row chained i c

  abbrev pub slot_row : (ℕ → Bool) → List ℕ → ℕ → ℕ
  slot_row chained slots i = object_row chained i (slot_in slots i).object

-- a row that nobody holds has only zeros
abbrev pub row_free : Sizes → List ℕ → List ℕ → ℕ → Bool
row_free sizes stack frames n = rest_ok (chunk_at sizes.width stack n) 0 && rest_ok (chunk_at (sizes.depth * 6) frames n) 0

abbrev pub free_test : Sizes → List ℕ → List ℕ → (ℕ → Bool) → Bool
free_test sizes stack frames held = all_below sizes.rows (λ n. held n || row_free sizes stack frames n)

-- the rows held, in the order of the slots
abbrev pub rows_of : H.Object → List ℕ → List ℕ
rows_of O.Empty rows = rows
rows_of (O.Func f) rows = rows
rows_of (O.Int n) rows = rows
rows_of (O.Iter c d k) rows = rows
rows_of (O.Error e f p v) rows = rows
rows_of (O.Coro c) rows = pick (is_finished c.state) rows (c.row ∷ rows)

abbrev pub rows_held : List (Slot H.Object) → List ℕ
rows_held [] = []
rows_held (x ∷ xs) = rows_of x.object (rows_held xs)

-- each slot, each row held by one, and the rows that nobody holds
abbrev pub rows_test : Sizes → Setup → List ℕ → List ℕ → (ℕ → Bool) → List ℕ → ℕ → Bool
rows_test sizes s stack frames chained slots count =
    let held = rows_held (slots_of count slots) in
    all_below count (λ i. object_fine sizes s stack frames chained i (slot_in slots i).object) && distinct held && free_test sizes stack frames (λ n. among n held)

-- a row that is in a set of rows in one word
abbrev pub held_bit : ℕ → ℕ → Bool
held_bit mask row = ltb row 64 && bit_at mask row

-- ---- words enough

pub record RowsFit (stack frames need setup set : List ℕ) (sizes : Sizes) : Type 0 where
  pub saved : SavedFits stack frames need setup sizes
  pub long : length set ≡ 64

pub record SlotsFit (stack frames need setup set slots : List ℕ) (sizes : Sizes) (count : ℕ) : Type 0 where
  pub rows : RowsFit stack frames need setup set sizes
  pub table : count * width ≤ length slots
  pub few : count ≤ 4096

pub record FreeFits (stack frames : List ℕ) (sizes : Sizes) : Type 0 where
  pub deep : sizes.depth ≤ 128
  pub on-stack : sizes.rows * sizes.width ≤ length stack
  pub on-frames : sizes.rows * (sizes.depth * 6) ≤ length frames
  pub few : sizes.rows ≤ 64
