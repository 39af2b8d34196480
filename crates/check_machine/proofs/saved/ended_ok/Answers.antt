-- `ended_ok` meets its contract: of one with nothing saved only the largest counts are left to test. Assumes nothing.
use mathlib.Core.Path.{sym, ◌∙◌}
use borrow.Author.Tests.{ne_eqb, eq-eqb}
use Rattle.check_machine.proofs.Coros.{saved-some, saved-none}
use Rattle.check_machine.proofs.saved.ended_ok.Goals as goal

pub returns-then-c-ne0 : goal.returns-then-c-ne0
returns-then-c-ne0 c = let a = c.args in saved-some a.sizes a.c (rw (ne_eqb a.c.row 0 c.if-c-ne0.true))

pub returns-then-c-ne0-2 : goal.returns-then-c-ne0-2
returns-then-c-ne0-2 c =
    let a = c.args in
    saved-some a.sizes a.c (rw (eq-eqb a.c.row 0 c.if-c-ne0.false, ne_eqb a.c.frames 0 c.if-c-ne0-2.true))

pub returns-then-c-ne0-3 : goal.returns-then-c-ne0-3
returns-then-c-ne0-3 c =
    let a = c.args in
    saved-some a.sizes a.c
    (rw (eq-eqb a.c.row 0 c.if-c-ne0.false, eq-eqb a.c.frames 0 c.if-c-ne0-2.false, ne_eqb a.c.regs 0 c.if-c-ne0-3.true))

pub returns : goal.returns
returns c =
    let a = c.args in
    c.largest_ok.ensures ∙ sym (saved-none a.sizes a.c c.if-c-ne0.false c.if-c-ne0-2.false c.if-c-ne0-3.false)
