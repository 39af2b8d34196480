-- What the rows hold after an unfinished coroutine has ended: its own row nothing, the others what they held. Assumes nothing.
use mathlib.Core.Logic.{◌≢◌}
use mathlib.Core.Path.{◌≡◌, refl, sym, ap, ap₂, ◌∙◌}
use mathlib.Core.Bool.{true, false, not, ◌&&◌}
use mathlib.Core.List.{List, []}
use Prim.Native.Nat.{ℕ}
use lib.ListN.{set}
use lib.Dec.{eqb}
use borrow.Author.Tests.{eq-eqb, ne_eqb}
use Rattle.lists.proofs.Tests.{and-false}
use Rattle.heap.specs.Word.{slot_of}
use Rattle.heap.specs.Table.{Slot, slot, put_object}
use Rattle.model.specs.Lists.{distinct}
use Rattle.model.specs.State.{is_finished}
use Rattle.model.specs.Object.{Core, Rest, Object, Is, as_coro}
use Rattle.model.specs.Rows.{held_rows}
use Rattle.claims_sound.proofs.Point.{at, Points}
use Rattle.memory_world.specs.Rows.{no_row, owns, row_at}
use Rattle.memory_world.specs.Memory.{regs_rows, frames_rows}
use Rattle.memory_world.proofs.Rows.{row-left, row_other}
use Rattle.memory_world.proofs.Tables.{rows-set}

-- a finished coroutine owns no row
pub disowned : (k : Core) (r : Rest) → is_finished k.state ≡ true → (n : ℕ) → owns n (Is k r) ≡ false
disowned k r e n = ap (λ b. not b && eqb r.row n) e

module _ (xs : List (Slot Object)) (v : ℕ) (k : Core) (r : Rest) (p : Points xs v (Object.Coro k r)) (own : distinct (held_rows xs) ≡ true) (live : is_finished k.state ≡ false)
    (k' : Core) (r' : Rest) (done : is_finished k'.state ≡ true) where
  abbrev after : List (Slot Object)
  after = put_object Object.Empty xs (slot_of v) (Object.Coro k' r')

  owner : owns r.row (as_coro (at xs (slot_of v)).object) ≡ true
  owner = ap (λ o. owns r.row (as_coro o)) p.here ∙ ap₂ (λ a b. not a && b) live (eq-eqb r.row r.row refl)

  not-owner : (j : ℕ) → j ≢ r.row → owns j (as_coro (at xs (slot_of v)).object) ≡ false
  not-owner j d =
      ap (λ o. owns j (as_coro o)) p.here ∙ ap (λ b. not (is_finished k.state) && b) (ne_eqb r.row j (λ z. d (sym z))) ∙ and-false (not (is_finished k.state))

  left-row : row_at r.row after ≡ no_row
  left-row = row-left xs (slot_of v) r.row (slot (at xs (slot_of v)).tag (Object.Coro k' r')) p.inside own owner (disowned k' r' done r.row)

  other_row : (j : ℕ) → j ≢ r.row → row_at j after ≡ row_at j xs
  other_row j d = row_other xs (slot_of v) j (slot (at xs (slot_of v)).tag (Object.Coro k' r')) (not-owner j d) (disowned k' r' done j)

  pub regs-left : (n : ℕ) → set (regs_rows n xs) r.row [] ≡ regs_rows n after
  regs-left n = rows-set (λ i. (row_at i xs).regs) (λ i. (row_at i after).regs) n r.row [] (ap (λ q. q.regs) left-row) (λ j d. ap (λ q. q.regs) (other_row j d))

  pub frames-left : (n : ℕ) → set (frames_rows n xs) r.row [] ≡ frames_rows n after
  frames-left n = rows-set (λ i. (row_at i xs).frames) (λ i. (row_at i after).frames) n r.row [] (ap (λ q. q.frames) left-row) (λ j d. ap (λ q. q.frames) (other_row j d))
