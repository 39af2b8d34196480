-- `outcome_in` meets its contract. Assumes nothing.
use borrow.Author.Tests.{eq-eqb, ne_eqb}
use Rattle.lists.specs.Pick.{pick_true, pick-false}
use Rattle.memory_world.proofs.outcome.outcome_in.Goals as goal

pub returns-then-t-eq-NONE : goal.returns-then-t-eq-NONE
returns-then-t-eq-NONE c = simp (eq-eqb _ _ c.if-t-eq-NONE.true, pick_true)

pub returns-then-t-eq-YIELDED : goal.returns-then-t-eq-YIELDED
returns-then-t-eq-YIELDED c = simp (ne_eqb _ _ c.if-t-eq-NONE.false, eq-eqb _ _ c.if-t-eq-YIELDED.true, pick_true, pick-false)

pub returns-then-t-eq-AWAITING : goal.returns-then-t-eq-AWAITING
returns-then-t-eq-AWAITING c = simp (ne_eqb _ _ c.if-t-eq-NONE.false, ne_eqb _ _ c.if-t-eq-YIELDED.false, eq-eqb _ _ c.if-t-eq-AWAITING.true, pick_true, pick-false)

pub returns-then-t-eq-RETURNED : goal.returns-then-t-eq-RETURNED
returns-then-t-eq-RETURNED c = simp (ne_eqb _ _ c.if-t-eq-NONE.false, ne_eqb _ _ c.if-t-eq-YIELDED.false, ne_eqb _ _ c.if-t-eq-AWAITING.false, eq-eqb _ _ c.if-t-eq-RETURNED.true, pick_true, pick-false)

pub returns-then-t-eq-FAILED : goal.returns-then-t-eq-FAILED
returns-then-t-eq-FAILED c = simp (ne_eqb _ _ c.if-t-eq-NONE.false, ne_eqb _ _ c.if-t-eq-YIELDED.false, ne_eqb _ _ c.if-t-eq-AWAITING.false, ne_eqb _ _ c.if-t-eq-RETURNED.false, eq-eqb _ _ c.if-t-eq-FAILED.true, pick_true, pick-false)

pub returns : goal.returns
returns c = simp (ne_eqb _ _ c.if-t-eq-NONE.false, ne_eqb _ _ c.if-t-eq-YIELDED.false, ne_eqb _ _ c.if-t-eq-AWAITING.false, ne_eqb _ _ c.if-t-eq-RETURNED.false, ne_eqb _ _ c.if-t-eq-FAILED.false, pick-false)
