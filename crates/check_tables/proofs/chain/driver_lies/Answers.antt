-- `driver_lies` meets its contract, by cases of the code. Assumes nothing.
use mathlib.Core.Path.{◌∙◌}
use borrow.Author.Tests.{lt-ltb, eq-eqb}
use Rattle.memory_tables.specs.Layout.{frame_of}
use Rattle.memory_tables.specs.Parts.{piled}
use Rattle.check_tables.proofs.Beside.{far-lies, first_out, only-first, then-second}
use Rattle.check_tables.proofs.chain.driver_lies.Goals as goal

pub returns-then-code-gt-ITER : goal.returns-then-code-gt-ITER
returns-then-code-gt-ITER c = let a = c.args in lt-ltb 1 a.code c.if-code-gt-ITER.true ∙ far-lies a.code a.a a.b a.c a.end (piled 6 frame_of a.i a.frames.now) c.if-code-gt-ITER.true

pub returns-else-lies_under : goal.returns-else-lies_under
returns-else-lies_under c = let a = c.args in c.if-lies_under.false ∙ first_out a.code a.a a.b a.c a.end (piled 6 frame_of a.i a.frames.now) c.lies_under.result c.lies_under.ensures c.if-code-gt-ITER.false c.if-lies_under.false

pub returns-then-code-eq-RESUME : goal.returns-then-code-eq-RESUME
returns-then-code-eq-RESUME c = let a = c.args in eq-eqb a.code 0 c.if-code-eq-RESUME.true ∙ only-first a.code a.a a.b a.c a.end (piled 6 frame_of a.i a.frames.now) c.lies_under.result c.lies_under.ensures c.if-code-eq-RESUME.true c.if-lies_under.true

pub returns-else-code-eq-RESUME : goal.returns-else-code-eq-RESUME
returns-else-code-eq-RESUME c =
    let a = c.args in
    then-second a.code a.a a.b a.c a.end (piled 6 frame_of a.i a.frames.now) c.lies_under.result c.lies_under.ensures c.lies_under-else-code-eq-RESUME.result c.if-code-gt-ITER.false c.if-code-eq-RESUME.false
    c.if-lies_under.true c.lies_under-else-code-eq-RESUME.ensures
