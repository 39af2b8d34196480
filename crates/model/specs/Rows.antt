-- The rows where unfinished coroutines are saved. 01: "one row per unfinished coroutine, its own"
use Rattle.std.specs.Prelude.{ℕ, zero, suc, Bool, List, [], ◌∷◌, leb}
use Rattle.lists.specs.Pick.{pick}
use Rattle.heap.specs.Table.{Slot}
use Rattle.model.specs.Lists.{among}
use Rattle.model.specs.State.{is_finished}
use Rattle.model.specs.Object.{Object, Coroutine, Absent, Is, as_coro}
use Rattle.model.specs.World.{World}

-- the rows held, in the order of the slots
abbrev pub held_by : Coroutine → List ℕ → List ℕ
held_by Absent rows = rows
held_by (Is k r) rows = pick (is_finished k.state) rows (r.row ∷ rows)

abbrev pub held_rows : List (Slot Object) → List ℕ
held_rows [] = []
held_rows (x ∷ xs) = held_by (as_coro x.object) (held_rows xs)

-- the lowest row from n on that is not held, of k rows; n + k if each is
abbrev pub lowest_free : ℕ → ℕ → List ℕ → ℕ
lowest_free zero n held = n
lowest_free (suc k) n held =
    let next = lowest_free k (suc n) held in
    pick (among n held) next n

-- a new coroutine takes the lowest free row
abbrev pub free_row : World → ℕ
free_row w = lowest_free w.setup.limits.rows 0 (held_rows w.slots)

-- 01: "every row held by an unfinished coroutine"
abbrev pub rows_full : World → Bool
rows_full w = leb w.setup.limits.rows (free_row w)
