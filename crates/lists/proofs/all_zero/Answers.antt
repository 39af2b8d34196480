-- `all_zero` meets its contract: what was joined and what is left decide the whole. Assumes nothing.
use mathlib.Core.Path.{sym, ◌∙◌}
use Rattle.lists.proofs.Joined.{more, end}
use Rattle.lists.proofs.all_zero.Goals as goal

pub loop-w-preserved : goal.loop-w-preserved
loop-w-preserved c =
    let s = c.args.s.now in
    c.loop-w.invariant ∙ more s c.loop-w.any c.loop-w.w-index c.loop-w-test.true

pub returns : goal.returns
returns c =
    let s = c.args.s.now in
    sym (c.loop-w.invariant ∙ end s c.loop-w.any c.loop-w.w-index c.loop-w-test.false)
