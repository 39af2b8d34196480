-- `fills` meets its contract, by cases of the kind. Assumes nothing.
use borrow.Author.Tests.{ne_eqb}
use Rattle.lists.specs.Pick.{pick}
use Rattle.heap.proofs.slot.fills.Goals as goal

pub returns-in-1 : goal.returns-in-1
unfolding pick
returns-in-1 c = rw c.in-1.is

pub returns-in-2 : goal.returns-in-2
unfolding pick
returns-in-2 c = rw c.in-2.is

pub returns-in-3 : goal.returns-in-3
unfolding pick
returns-in-3 c = rw c.in-3.is

pub returns-in-4 : goal.returns-in-4
unfolding pick
returns-in-4 c = rw c.in-4.is

pub returns-in-5 : goal.returns-in-5
unfolding pick
returns-in-5 c = rw c.in-5.is

pub returns-in-6 : goal.returns-in-6
unfolding pick
returns-in-6 c = rw c.in-6.is

pub returns-in_default : goal.returns-in_default
unfolding pick
returns-in_default c =
    let k = c.args.kind in
    let r = c.in_default.in_default-own.rest in
    rw (ne_eqb k 1 r.0.0.0.0.0.1, ne_eqb k 2 r.0.0.0.0.1, ne_eqb k 3 r.0.0.0.1, ne_eqb k 4 r.0.0.1, ne_eqb k 5 r.0.1, ne_eqb k 6 r.1)
