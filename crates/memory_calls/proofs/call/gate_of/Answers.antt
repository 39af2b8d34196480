-- `gate_of` meets its contract, by the code. Assumes nothing.
use mathlib.Core.Path.{sym, ◌∙◌}
use native.Mathlib.Omega.{arith}
use Rattle.memory_calls.proofs.Gates.{low, unwinds, unwinds-it, middle, hosts, frames, high}
use Rattle.memory_calls.proofs.call.gate_of.Goals as goal

pub returns-then-n-lt14 : goal.returns-then-n-lt14
returns-then-n-lt14 c = let g = c.args in low g.n g.a c.if-n-lt14.true

pub returns-then-no_fault : goal.returns-then-no_fault
returns-then-no_fault c = let g = c.args in unwinds g.n g.a c.if-n-eq15.true (sym c.no_fault.ensures ∙ c.if-no_fault.true)

pub returns-then-n-eq15 : goal.returns-then-n-eq15
returns-then-n-eq15 c = let g = c.args in unwinds-it g.n g.a c.if-n-eq15.true (sym c.no_fault.ensures ∙ c.if-no_fault.false)

pub returns-then-n-lt17 : goal.returns-then-n-lt17
returns-then-n-lt17 c = let g = c.args in middle g.n g.a (omega arith) c.if-n-eq15.false c.if-n-lt17.true

pub returns-then-n-lt19 : goal.returns-then-n-lt19
returns-then-n-lt19 c = let g = c.args in hosts g.n g.a (omega arith) c.if-n-lt19.true

pub returns-then-n-lt21 : goal.returns-then-n-lt21
returns-then-n-lt21 c = let g = c.args in frames g.n g.a (omega arith) c.if-n-lt21.true

pub returns : goal.returns
returns c = let g = c.args in high g.n g.a (omega arith)
