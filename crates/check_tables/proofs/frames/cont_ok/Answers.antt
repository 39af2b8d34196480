-- `cont_ok` meets its contract, by cases of the code. Assumes nothing.
use borrow.Author.Tests.{not-true, not-false}
use Rattle.check_tables.proofs.Conts.{entry-saved, entry-reg, entry-low, with-reg, no-reg, on-stack, in-row-low, in-row-over}
use Rattle.check_tables.proofs.frames.cont_ok.Goals as goal

pub returns-then-saved : goal.returns-then-saved
returns-then-saved c =
    let a = c.args in
    entry-saved a.saved a.ws.now a.i a.code a.r a.base c.if-code-eq-ENTRY.true c.if-saved.true

pub returns-then-r-ne0 : goal.returns-then-r-ne0
returns-then-r-ne0 c =
    let a = c.args in
    entry-reg a.saved a.ws.now a.i a.code a.r a.base c.if-code-eq-ENTRY.true c.if-r-ne0.true

pub returns-then-code-eq-ENTRY : goal.returns-then-code-eq-ENTRY
returns-then-code-eq-ENTRY c =
    let a = c.args in
    entry-low a.saved a.ws.now a.i a.code a.r a.base c.if-code-eq-ENTRY.true c.if-saved.false c.if-r-ne0.false

pub returns-then-code-lt-DISCARD : goal.returns-then-code-lt-DISCARD
returns-then-code-lt-DISCARD c =
    let a = c.args in
    with-reg a.saved a.ws.now a.i a.code a.r a.base c.lies_under.result c.if-code-eq-ENTRY.false c.if-code-lt-DISCARD.true c.lies_under.ensures

pub returns-then-r-ne0-2 : goal.returns-then-r-ne0-2
returns-then-r-ne0-2 c =
    let a = c.args in
    no-reg a.saved a.ws.now a.i a.code a.r a.base c.if-code-lt-DISCARD.false c.if-r-ne0-2.true

pub returns-then-not-saved : goal.returns-then-not-saved
returns-then-not-saved c =
    let a = c.args in
    on-stack a.saved a.ws.now a.i a.code a.r a.base c.if-code-lt-DISCARD.false c.if-r-ne0-2.false c.if-not-saved.true

pub returns-then-i-eq0 : goal.returns-then-i-eq0
returns-then-i-eq0 c =
    let a = c.args in
    in-row-low a.saved a.ws.now a.i a.code a.r a.base c.if-code-lt-DISCARD.false c.if-r-ne0-2.false c.if-not-saved.false c.if-i-eq0.true

pub returns : goal.returns
returns c =
    let a = c.args in
    in-row-over a.saved a.ws.now a.i a.code a.r a.base c.if-code-lt-DISCARD.false c.if-r-ne0-2.false c.if-not-saved.false c.if-i-eq0.false
