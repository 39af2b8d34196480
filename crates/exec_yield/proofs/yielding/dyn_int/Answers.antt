-- `dyn_int` meets its contract. Assumes nothing.
use mathlib.Core.Path.{◌∙◌}
use Rattle.exec_yield.proofs.Keys.{dyn-int-is}
use Rattle.exec_yield.proofs.yielding.dyn_int.Goals as goal

pub returns : goal.returns
returns c = λ l w b rep. c.dyn_int.ensures ∙ dyn-int-is l _ c.args.m b.fuel w rep c.args.v
