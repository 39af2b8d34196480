-- `woken` meets its contract: the part of the stack that came back, the part of the note, the frames. Assumes nothing.
use Rattle.std.proofs.Common.{◌≡◌, ℕ, ◌+◌, ◌≤◌, List, length, get_or, sym, ap, ◌∙◌, subst, arith}
use Rattle.furnace.specs.Watch.{at_most, noted_words, floor_in, frames_back}
use Rattle.furnace.proofs.Words.{at-most}
use Rattle.furnace.proofs.Watching.{woken-is}
use Rattle.furnace.proofs.tell.woken.Goals as goal

-- the part of the stack begins where it ends or below, and ends within the stack
within : (n most m : ℕ) → n ≡ at_most most m → n ≤ most
within n most m e = subst (λ k. k ≤ most) (sym e) (at-most most m)

-- the part of the note has at most 13 words
few : (n : ℕ) (notes : List ℕ) (at : ℕ) → n ≡ noted_words notes at → n ≤ 13
few n notes at e = within n 13 (get_or notes at 0) e

pub offset_bounds-stack-start : goal.offset_bounds-stack-start
offset_bounds-stack-start c =
    omega (arith, within c.at_most-start.result c.at_most-height.result _ c.at_most-start.ensures, within c.at_most-height.result (length c.args.stack.now) _ c.at_most-height.ensures, c.well_formed)

pub slice_bounds-back-count : goal.slice_bounds-back-count
slice_bounds-back-count c = within c.at_most-start.result c.at_most-height.result _ c.at_most-start.ensures

pub slice_bounds-back-start : goal.slice_bounds-back-start
slice_bounds-back-start c = within c.at_most-start.result c.at_most-height.result _ c.at_most-start.ensures

pub slice_bounds-back-end : goal.slice_bounds-back-end
slice_bounds-back-end c = within c.at_most-height.result (length c.args.stack.now) _ c.at_most-height.ensures

pub overflow_add-held : goal.overflow_add-held
overflow_add-held c = omega (arith, c.requires, few c.args.n c.args.notes.now c.args.at c.requires.1)

pub slice_bounds-held-end : goal.slice_bounds-held-end
slice_bounds-held-end c = omega (arith, c.requires, few c.args.n c.args.notes.now c.args.at c.requires.1)

pub returns : goal.returns
returns c =
    let a = c.args in
    woken-is a.stack.now a.frames.now a.chain.now a.m a.sent a.notes.now a.at a.n a.count
    c.own_base-own.result c.at_most-height.result c.at_most-start.result c.floor-low.result _ _ _ c.requires.1 c.own_base-own.ensures
    c.at_most-height.ensures c.at_most-start.ensures
    (c.floor-low.ensures ∙ ap (floor_in a.chain.now) c.saturating_sub.ensures) c.woke-words.ensures
    (c.back-bodies.ensures ∙ ap (λ b. frames_back a.frames.now c.floor-low.result a.m.depth a.notes.now a.at b (get_or a.notes.now (a.at + 2) 0) c.own_base-own.result) c.is_some.ensures)
    c.both-equal.ensures _ c.one_more.ensures
