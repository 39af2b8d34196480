-- What each row holds: the saved registers and frames of the unfinished coroutine whose row it is.
use Rattle.std.specs.Prelude.{◌≡◌, ℕ, Bool, true, false, not, ◌&&◌, List, [], ◌∷◌, eqb, ltb}
use Rattle.lists.specs.Pick.{pick}
use Rattle.heap.specs.Table.{Slot}
use Rattle.model.specs.Lists.{each, distinct}
use Rattle.model.specs.State.{is_finished}
use Rattle.model.specs.Program.{Setup}
use Rattle.model.specs.Object.{Core, Object, Coroutine, Absent, Is, as_coro}
use Rattle.model.specs.Rows.{held_rows}
use Rattle.model.specs.Sound.{saved_sizes}
use Rattle.model.specs.declared.machine.Frame.{Frame}

pub record Row : Type 0 where
  pub regs : List ℕ
  -- top first, bases from 0
  pub frames : List Frame

abbrev pub no_row : Row
no_row = record { regs = []; frames = [] }

abbrev pub row_of : Core → Row
row_of k = record { regs = k.regs; frames = k.frames }

-- the coroutine is unfinished, and n is its row
abbrev pub owns : ℕ → Coroutine → Bool
owns n Absent = false
owns n (Is k r) = not (is_finished k.state) && eqb r.row n

abbrev pub saved_by : Coroutine → Row
saved_by Absent = no_row
saved_by (Is k r) = row_of k

-- what row n holds
abbrev pub row_at : ℕ → List (Slot Object) → Row
row_at n [] = no_row
row_at n (x ∷ xs) = pick (owns n (as_coro x.object)) (saved_by (as_coro x.object)) (row_at n xs)

-- each unfinished coroutine has a row of its own, and what is saved fits a row: rows_ok and saved_sizes_ok
pub record Rowed (s : Setup) (xs : List (Slot Object)) : Type 0 where
  pub own : distinct (held_rows xs) ≡ true
  pub inside : each (λ row. ltb row s.limits.rows) (held_rows xs) ≡ true
  pub saved : each (λ x. saved_sizes s (as_coro x.object)) xs ≡ true
