-- `asleep` is safe: a note has its words. Assumes nothing.
use Rattle.std.proofs.Common.{◌≡◌, ℕ, ◌≤◌, sym, subst, arith}
use Rattle.furnace.specs.Watch.{note_of, at_most}
use Rattle.furnace.proofs.Words.{at-most, note-below}
use Rattle.furnace.proofs.tell.asleep.Goals as goal

-- a note has 32 words, and holds at most 13
below : (at w : ℕ) → at ≡ note_of w → at ≤ 96
below at w e = subst (λ k. k ≤ 96) (sym e) (note-below w)

few : (n m : ℕ) → n ≡ at_most 13 m → n ≤ 13
few n m e = subst (λ k. k ≤ 13) (sym e) (at-most 13 m)

pub overflow_add-held : goal.overflow_add-held
overflow_add-held c = omega (arith, below c.note_of-at.result _ c.note_of-at.ensures, few c.at_most-n.result _ c.at_most-n.ensures)

pub slice_bounds-held-end : goal.slice_bounds-held-end
slice_bounds-held-end c = omega (arith, below c.note_of-at.result _ c.note_of-at.ensures, few c.at_most-n.result _ c.at_most-n.ensures, c.requires)
