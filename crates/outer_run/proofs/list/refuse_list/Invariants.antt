-- `refuse_list` meets its contract: after j turns the first j answers stand there. Assumes nothing.
use Rattle.outer_run.proofs.Along.{Refused}
use Rattle.outer_run.proofs.list.refuse_list.Given as goal

abbrev pub invariant-loop-j : goal.invariant-loop-j
invariant-loop-j l = Refused l.initial.answers l.n l.answers l.j
