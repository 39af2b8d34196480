-- The tests of a creation, and the words that it copies. Assumes nothing.
use Rattle.std.proofs.Common.{◌≡◌, ℕ, ◌<◌, ◌≤◌, Bool, true, false, leb, List, sym, refl, ap, ◌∙◌, arith, eq-eqb, ne_eqb, le-leb, leb-true}
use borrow.Author.Tests.{lt-leb}
use Rattle.lists.specs.Pick.{pick, pick_true, pick-false}
use Rattle.heap.specs.Heap.{lacks_of}
use Rattle.heap.specs.Table.{Slot}
use Rattle.heap.specs.declared.fault.Fault.{Fault}
use Rattle.heap.specs.declared.object.Object as H
use Rattle.model.specs.Rows.{lowest_free}
use Rattle.memory_world.specs.declared.machine.Machine.{Machine}
use Rattle.memory_world.specs.declared.machine.Sizes.{Sizes}
use Rattle.machine_state.specs.Numbers.{heap_of}
use Rattle.coro_create.specs.Row.{held_in}
use Rattle.coro_create.specs.Create.{bytes_of, row_or, unless_lacking, spot_of, copied_of}
use Rattle.std.specs.Prelude.{Result, Ok, Err}

-- ---- the row of a new coroutine, or what is lacking

module _ (xs : List (Slot H.Object)) (m : Machine) (l : Sizes) (regs : ℕ) where
  abbrev row : ℕ
  row = lowest_free l.rows 0 (held_in xs)

  module _ (u : Unit) (none : Ok u ≡ lacks_of (heap_of m l) (bytes_of regs l.costs.coro l.costs.frame)) (i : ℕ) (found : i ≡ row) where
    by_row : (b : Bool) → leb l.rows i ≡ b → spot_of xs m l regs ≡ pick b (Err Fault.Full) (Ok i)
    by_row b e =
        ap (λ (x : Result Unit Fault). unless_lacking x (row_or l.rows row)) (sym none) ∙ ap (row_or l.rows) (sym found) ∙ ap (λ b. pick b (Err Fault.Full) (Ok i)) e

    pub spot-full : l.rows ≤ i → Err Fault.Full ≡ spot_of xs m l regs
    spot-full h = sym (by_row true (le-leb l.rows i h) ∙ pick_true _ _)

    pub spot-row : i < l.rows → Ok i ≡ spot_of xs m l regs
    spot-row h = sym (by_row false (lt-leb l.rows i h) ∙ pick-false _ _)

-- ---- the arguments that are copied

pub copied_all : (n regs : ℕ) → n ≤ regs → n ≡ copied_of n regs
copied_all n regs h = sym (ap (λ b. pick b n 0) (le-leb n regs h) ∙ pick_true _ _)

pub copied_none : (n regs : ℕ) → regs < n → 0 ≡ copied_of n regs
copied_none n regs h = sym (ap (λ b. pick b n 0) (lt-leb n regs h) ∙ pick-false _ _)

pub copied-fits : (n regs : ℕ) → (copied_of n regs ≤ regs) × (copied_of n regs ≤ n)
unfolding pick
copied-fits n regs = go (leb n regs) (λ e. leb-true n regs e)
  where
    go : (b : Bool) → (b ≡ true → n ≤ regs) → (pick b n 0 ≤ regs) × (pick b n 0 ≤ n)
    go true h = let k = h refl in (omega arith, omega arith)
    go false h = (omega arith, omega arith)
