-- `lowest` meets its contract: each row passed has a mark. Assumes nothing.
use Rattle.std.proofs.Common.{◌-◌, false, get_or, sym, ap, ◌∙◌, arith, rules}
use native.Mathlib.Nat.{sub-zero}
use borrow.Author.Tests.{not-true, not-false}
use Rattle.coro_create.specs.Row.{lowest_by}
use Rattle.coro_create.proofs.Held.{lowest-stop, lowest-on, lowest-end}
use Rattle.coro_create.proofs.row.lowest.Goals as goal

pub loop-i-init : goal.loop-i-init
loop-i-init c = (omega arith, c.requires, search rules, sym (ap (λ k. lowest_by (λ n. get_or c.args.held n false) k 0) (sub-zero c.args.rows)))

pub returns-then-not-held-i : goal.returns-then-not-held-i
returns-then-not-held-i c = sym (c.loop-i.invariant.3 ∙ lowest-stop (λ n. get_or c.args.held n false) c.args.rows c.loop-i.i c.loop-i-test.true c.if-not-held-i.true)

pub loop-i-preserved : goal.loop-i-preserved
loop-i-preserved c = (
  omega arith,
  c.loop-i.invariant.1,
  c.loop-i.invariant.2,
  c.loop-i.invariant.3
      ∙ lowest-on (λ n. get_or c.args.held n false) c.args.rows c.loop-i.i c.loop-i-test.true c.if-not-held-i.false,
)

pub returns : goal.returns
returns c = sym (c.loop-i.invariant.3 ∙ lowest-end (λ n. get_or c.args.held n false) c.args.rows c.loop-i.i c.loop-i.invariant.0 c.loop-i-test.false)
