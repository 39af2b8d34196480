use borrow.Author.Tests.{ne_eqb}
use Rattle.lists.specs.Pick.{pick}
use Rattle.heap.proofs.object.CoroState.of_code.Goals as goal

pub returns-in-0 : goal.returns-in-0
unfolding pick
returns-in-0 c = rw c.in-0.is

pub returns-in-1 : goal.returns-in-1
unfolding pick
returns-in-1 c = rw c.in-1.is

pub returns-in-2 : goal.returns-in-2
unfolding pick
returns-in-2 c = rw c.in-2.is

pub returns-in-3 : goal.returns-in-3
unfolding pick
returns-in-3 c = rw c.in-3.is

pub returns-in-4 : goal.returns-in-4
unfolding pick
returns-in-4 c = rw c.in-4.is

pub returns-in_default : goal.returns-in_default
unfolding pick
returns-in_default c =
    let n = c.args.n in
    let r = c.in_default.in_default-own.rest in
    rw (ne_eqb n 0 r.0.0.0.0.1, ne_eqb n 1 r.0.0.0.1, ne_eqb n 2 r.0.0.1, ne_eqb n 3 r.0.1, ne_eqb n 4 r.1)
