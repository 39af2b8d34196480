-- `driver_held` meets its contract, by cases of the code. Assumes nothing.
use Rattle.check_tables.proofs.Beside.{iter-held, past-held, second-not, third-not, first-free, first-zero}
use Rattle.check_tables.proofs.chain.driver_held.Goals as goal

pub returns-then-code-eq-ITER : goal.returns-then-code-eq-ITER
returns-then-code-eq-ITER c = let a = c.args in iter-held a.code a.a a.b a.c c.if-code-eq-ITER.true

pub returns-then-code-gt-FINALIZE : goal.returns-then-code-gt-FINALIZE
returns-then-code-gt-FINALIZE c = let a = c.args in past-held a.code a.a a.b a.c c.if-code-gt-FINALIZE.true

pub returns-then-b-ne0 : goal.returns-then-b-ne0
returns-then-b-ne0 c = let a = c.args in second-not a.code a.a a.b a.c c.if-code-eq-ITER.false c.if-code-gt-FINALIZE.false c.if-b-ne0.true

pub returns-then-c-ne0 : goal.returns-then-c-ne0
returns-then-c-ne0 c = let a = c.args in third-not a.code a.a a.b a.c c.if-code-eq-ITER.false c.if-code-gt-FINALIZE.false c.if-b-ne0.false c.if-c-ne0.true

pub returns-then-code-eq-RESUME : goal.returns-then-code-eq-RESUME
returns-then-code-eq-RESUME c = let a = c.args in first-free a.code a.a a.b a.c c.if-code-eq-ITER.false c.if-code-gt-FINALIZE.false c.if-b-ne0.false c.if-c-ne0.false c.if-code-eq-RESUME.true

pub returns : goal.returns
returns c = let a = c.args in first-zero a.code a.a a.b a.c c.if-code-eq-ITER.false c.if-code-gt-FINALIZE.false c.if-b-ne0.false c.if-c-ne0.false c.if-code-eq-RESUME.false
