-- `back` meets its contract: the words compared so far are as they should be. Assumes nothing.
use Rattle.std.proofs.Common.{◌≡◌, ℕ, ◌+◌, ◌≤◌, get_or, sym, ap, ◌∙◌, subst, arith}
use Rattle.furnace.specs.Watch.{at_most, word_back}
use Rattle.furnace.proofs.Words.{at-most}
use Rattle.furnace.proofs.Bodies.{other-many, one-differs}
use Rattle.furnace.proofs.body.back.Goals as goal

few : (n m : ℕ) → n ≡ at_most 2 m → n ≤ 2
few n m e = subst (λ k. k ≤ 2) (sym e) (at-most 2 m)

pub returns-then-saturating_sub-n : goal.returns-then-saturating_sub-n
returns-then-saturating_sub-n c =
    let a = c.args in
    other-many a.frames.now a.floor a.depth a.notes.now a.at a.sent a.from a.to c.at_most-n.result c.at_most-n.ensures _
    c.saturating_sub.ensures c.if-saturating_sub-n.true

pub overflow_mul-p-end : goal.overflow_mul-p-end
overflow_mul-p-end c = omega (arith, few c.at_most-n.result _ c.at_most-n.ensures)

pub overflow_add-was-in-loop-p : goal.overflow_add-was-in-loop-p
overflow_add-was-in-loop-p c = omega (arith, few c.at_most-n.result _ c.at_most-n.ensures, c.requires, c.well_formed, c.loop-p-test.true)

pub offset_bounds-notes-at-in-loop-p : goal.offset_bounds-notes-at-in-loop-p
offset_bounds-notes-at-in-loop-p c = omega (arith, few c.at_most-n.result _ c.at_most-n.ensures, c.requires, c.well_formed, c.loop-p-test.true)

pub bounds-notes-at-in-loop-p : goal.bounds-notes-at-in-loop-p
bounds-notes-at-in-loop-p c = omega (arith, few c.at_most-n.result _ c.at_most-n.ensures, c.requires, c.loop-p-test.true)

pub word_back-requires : goal.word_back-requires
word_back-requires c = few c.at_most-n.result _ c.at_most-n.ensures

pub returns-then-not-word_back : goal.returns-then-not-word_back
returns-then-not-word_back c =
    let a = c.args in
    one-differs a.frames.now a.floor a.depth a.notes.now a.at a.sent a.from a.to c.at_most-n.result c.at_most-n.ensures
    c.loop-p.p c.loop-p-test.true
    (sym (c.word_back.ensures ∙ ap (word_back a.sent c.at_most-n.result a.from a.to c.loop-p.p (get_or a.notes.now (a.at + 17 + c.loop-p.p) 0)) c.field-is.ensures) ∙ c.if-not-word_back.true)
