-- `no_fault` meets its contract, by the number. Assumes nothing.
use native.Mathlib.Omega.{arith}
use borrow.Author.Tests.{eq-eqb, ne_eqb, lt-ltb, le-ltb}
use Rattle.memory_calls.proofs.call.no_fault.Goals as goal

pub returns-then-a-eq0 : goal.returns-then-a-eq0
returns-then-a-eq0 c = rw (eq-eqb c.args.a 0 c.if-a-eq0.true)

pub returns-then-a-le10 : goal.returns-then-a-le10
returns-then-a-le10 c = let a = c.args.a in rw (ne_eqb a 0 c.if-a-eq0.false, le-ltb 10 a c.if-a-le10.true)

pub returns : goal.returns
returns c = let a = c.args.a in rw (ne_eqb a 0 c.if-a-eq0.false, lt-ltb 10 a (omega arith))
