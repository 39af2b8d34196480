-- `opt_pc` meets its contract: a pc lies in the range of its type. Assumes nothing.
use mathlib.Core.Path.{ap, ◌∙◌}
use native.Mathlib.Omega.{arith}
use Rattle.model.specs.Call.{opt_pc}
use Rattle.machine_step.proofs.InRange.{pc}
use Rattle.machine_step.proofs.widths.opt_pc.Goals as goal

pub returns-in-None : goal.returns-in-None
returns-in-None c = ap opt_pc c.in-None.is

pub returns-in-Some : goal.returns-in-Some
returns-in-Some c =
    let n = c.in-Some.n in let k = c.in-Some.known_told-1-own.given in
    ap opt_pc c.in-Some.is ∙ pc n (omega arith)
