-- `result_of` meets its contract, kind by kind. Assumes nothing.
use mathlib.Core.Path.{sym, ap}
use Rattle.model.specs.Machine.{result_of}
use Rattle.machine_finish.proofs.cont.result_of.Goals as goal

pub returns-in-None : goal.returns-in-None
returns-in-None c = ap (λ k. result_of k c.args.v) (sym c.in-None.is)

pub returns-in-Dyn : goal.returns-in-Dyn
returns-in-Dyn c = ap (λ k. result_of k c.args.v) (sym c.in-Dyn.is)

pub returns-in-I64 : goal.returns-in-I64
returns-in-I64 c = ap (λ k. result_of k c.args.v) (sym c.in-I64.is)

pub returns-in-U64 : goal.returns-in-U64
returns-in-U64 c = ap (λ k. result_of k c.args.v) (sym c.in-U64.is)
