-- The rows that the objects of the slots hold. There are at most 64 rows, so that 64 is none.
use Rattle.std.specs.Prelude.{ℕ, zero, suc, Bool, true, List, [], ◌∷◌, map, set, slice_set}
use Rattle.lists.specs.Pick.{pick}
use Rattle.heap.specs.Table.{Slot}
use Rattle.heap.specs.declared.object.Object.{Object}
use Rattle.heap.specs.declared.object.Object.TheVariants as O
use Rattle.model.specs.State.{is_finished}

-- the row of an unfinished coroutine, or 64
abbrev pub row_of : Object → ℕ
row_of O.Empty = 64
row_of (O.Func f) = 64
row_of (O.Int n) = 64
row_of (O.Iter s d k) = 64
row_of (O.Error e f p v) = 64
row_of (O.Coro c) = pick (is_finished c.state) 64 c.row

-- what each slot holds
abbrev pub held_in : List (Slot Object) → List ℕ
held_in xs = map (λ x. row_of x.object) xs

-- a mark set for each
abbrev pub marked : List (Slot Object) → List Bool → List Bool
marked [] held = held
marked (x ∷ xs) held = marked xs (slice_set held (row_of x.object) true)

-- the lowest number from n on that fails a test, of k numbers; n + k if each passes
abbrev pub lowest_by : (ℕ → Bool) → ℕ → ℕ → ℕ
lowest_by t zero n = n
lowest_by t (suc k) n = pick (t n) (lowest_by t k (suc n)) n
