-- The rows after a new coroutine was added. Assumes nothing.
use Rattle.std.proofs.Common.{◌≡◌, ℕ, ◌-◌, ◌≤◌, Bool, true, false, leb, ◌≢◌, List, ◌++◌, length, take, set, replicate, sym, refl, ap, ◌∙◌, length-take-le, eq-eqb, ne_eqb}
use native.Mathlib.Nat.{sub-zero}
use Rattle.lists.specs.Pick.{pick}
use Rattle.lists.specs.Parts.{pad}
use Rattle.heap.specs.Table.{Slot, push_object}
use Rattle.model.specs.Lists.{among}
use Rattle.model.specs.Object.{Object, as_coro}
use Rattle.model.specs.Rows.{held_rows}
use Rattle.model.specs.Coro.{new_regs, new_core, new_rest}
use Rattle.memory_world.specs.Rows.{saved_by, row_at}
use Rattle.memory_world.specs.Memory.{regs_rows, frames_rows}
use Rattle.memory_world.proofs.Rows.{row_new, row_same}
use Rattle.memory_world.proofs.Tables.{rows-set}
use Rattle.coro_create.specs.Create.{copied_of}

-- ---- a new coroutine

module _ (xs : List (Slot Object)) (f closure seq row n : ℕ) (regs : List ℕ) (free : among row (held_rows xs) ≡ false) where
  abbrev new : Object
  new = Object.Coro (new_core f closure regs) (new_rest seq row n)

  own : row_at row (push_object xs new) ≡ saved_by (as_coro new)
  own = row_new xs row new free (eq-eqb row row refl)

  other : (j : ℕ) → j ≢ row → row_at j (push_object xs new) ≡ row_at j xs
  other j d = row_same xs j new (ne_eqb row j (λ z. d (sym z)))

  pub regs-new : (k : ℕ) → set (regs_rows k xs) row regs ≡ regs_rows k (push_object xs new)
  regs-new k = rows-set (λ i. (row_at i xs).regs) (λ i. (row_at i (push_object xs new)).regs) k row regs (ap (λ q. q.regs) own) (λ j d. ap (λ q. q.regs) (other j d))

  pub frames-new : (k : ℕ) → set (frames_rows k xs) row (new_core f closure regs).frames ≡ frames_rows k (push_object xs new)
  frames-new k =
      rows-set (λ i. (row_at i xs).frames) (λ i. (row_at i (push_object xs new)).frames) k row (new_core f closure regs).frames (ap (λ q. q.frames) own) (λ j d. ap (λ q. q.frames) (other j d))

-- ---- its registers

-- the arguments with zeros after them, or zeros
pub regs_written : (n regs : ℕ) (args : List ℕ) → n ≤ length args → pad regs (take (copied_of n regs) args) ≡ new_regs regs (take n args)
unfolding pick
regs_written n regs args h =
    go (leb n regs) ∙ ap (λ k. pick (leb k regs) (take n args ++ replicate (regs - length (take n args)) 0) (replicate regs 0)) (sym (length-take-le n args h))
  where
    go : (b : Bool) → pad regs (take (pick b n 0) args) ≡ pick b (take n args ++ replicate (regs - length (take n args)) 0) (replicate regs 0)
    go true = refl
    go false = ap (λ k. replicate {A = ℕ} k 0) (sub-zero regs)
