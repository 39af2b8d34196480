-- `end_created` meets its contract: a coroutine that was never entered returns nil, another stays. Assumes nothing.
use mathlib.Core.Path.{sym, ◌∙◌}
use Rattle.exec_close.proofs.Closed.{end_fresh, end-other}
use Rattle.exec_close.proofs.close.end_created.Goals as goal

pub returns-then-is_created : goal.returns-then-is_created
returns-then-is_created c =
    λ w b rep rowed. end_fresh c.args.sizes _ c.args.m b.fuel w c.args.s c.args.v (sym c.is_created.ensures ∙ c.if-is_created.true)
    (c.finish_coroutine.ensures w b rep rowed)

pub returns-else-is_created : goal.returns-else-is_created
returns-else-is_created c = λ w b rep rowed. end-other c.args.sizes _ c.args.m b.fuel w c.args.s c.args.v (sym c.is_created.ensures ∙ c.if-is_created.false) rep
