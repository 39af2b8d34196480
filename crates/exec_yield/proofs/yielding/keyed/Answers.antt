-- `keyed` meets its contract. Assumes nothing.
use mathlib.Core.Path.{ap, ap₂, ◌∙◌}
use Rattle.model.specs.Exec.{larger_of}
use Rattle.std.specs.Prelude.{Some}
use Rattle.exec_yield.proofs.yielding.keyed.Goals as goal

pub returns : goal.returns
returns c = λ l w b rep. ap (λ c₂. Some (c.args.key, c₂)) (c.larger_of-largest.ensures ∙ ap₂ larger_of (c.largest_in-so_far.ensures l w b rep) (c.dyn_int-n.ensures l w b rep))
