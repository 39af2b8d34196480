-- `larger_of` meets its contract. Assumes nothing.
use mathlib.Core.Path.{sym, ◌∙◌}
use Rattle.exec_yield.proofs.Keys.{keeps-none, rises, keeps}
use Rattle.exec_yield.proofs.yielding.larger_of.Goals as goal

pub returns-then-less : goal.returns-then-less
returns-then-less c = rises c.args.largest c.args.n c.in-Some.k c.in-Some.is (sym c.less.ensures ∙ c.if-less.true)

pub returns-in-None : goal.returns-in-None
returns-in-None c = keeps-none c.args.largest c.args.n c.in-None.is

pub returns-else-less : goal.returns-else-less
returns-else-less c = keeps c.args.largest c.args.n c.in-Some.k c.in-Some.is (sym c.less.ensures ∙ c.if-less.false)
