-- `outcome_in` meets its contract. Assumes nothing.
use borrow.Author.Tests.{eq-eqb, ne_eqb}
use Rattle.lists.specs.Pick.{pick_true, pick-false}
use Rattle.machine_added.proofs.outcome.outcome_in.Goals as goal

pub returns-then-t-eq0 : goal.returns-then-t-eq0
returns-then-t-eq0 c = simp (eq-eqb _ _ c.if-t-eq0.true, pick_true)

pub returns-then-t-eq1 : goal.returns-then-t-eq1
returns-then-t-eq1 c = simp (ne_eqb _ _ c.if-t-eq0.false, eq-eqb _ _ c.if-t-eq1.true, pick_true, pick-false)

pub returns-then-t-eq2 : goal.returns-then-t-eq2
returns-then-t-eq2 c = simp (ne_eqb _ _ c.if-t-eq0.false, ne_eqb _ _ c.if-t-eq1.false, eq-eqb _ _ c.if-t-eq2.true, pick_true, pick-false)

pub returns-then-t-eq3 : goal.returns-then-t-eq3
returns-then-t-eq3 c = simp (ne_eqb _ _ c.if-t-eq0.false, ne_eqb _ _ c.if-t-eq1.false, ne_eqb _ _ c.if-t-eq2.false, eq-eqb _ _ c.if-t-eq3.true, pick_true, pick-false)

pub returns-then-t-eq4 : goal.returns-then-t-eq4
returns-then-t-eq4 c = simp (ne_eqb _ _ c.if-t-eq0.false, ne_eqb _ _ c.if-t-eq1.false, ne_eqb _ _ c.if-t-eq2.false, ne_eqb _ _ c.if-t-eq3.false, eq-eqb _ _ c.if-t-eq4.true, pick_true, pick-false)

pub returns : goal.returns
returns c = simp (ne_eqb _ _ c.if-t-eq0.false, ne_eqb _ _ c.if-t-eq1.false, ne_eqb _ _ c.if-t-eq2.false, ne_eqb _ _ c.if-t-eq3.false, ne_eqb _ _ c.if-t-eq4.false, pick-false)
