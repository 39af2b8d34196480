-- `driver_of` meets its contract, by cases of the code. Assumes nothing.
use Rattle.std.proofs.Common.{ne_eqb}
use Rattle.lists.specs.Pick.{pick}
use Rattle.memory_tables.proofs.active.driver_of.Goals as goal

pub returns-in-0 : goal.returns-in-0
unfolding pick
returns-in-0 c = rw c.in-0.is

pub returns-in-1 : goal.returns-in-1
unfolding pick
returns-in-1 c = rw c.in-1.is

pub returns-in-2 : goal.returns-in-2
unfolding pick
returns-in-2 c = rw c.in-2.is

pub returns-in_default : goal.returns-in_default
unfolding pick
returns-in_default c =
    let n = c.args.code in
    let r = c.in_default.in_default-own.rest in
    rw (ne_eqb n 0 r.0.0.1, ne_eqb n 1 r.0.1, ne_eqb n 2 r.1)
