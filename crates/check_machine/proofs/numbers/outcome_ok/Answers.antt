-- `outcome_ok` meets its contract, by the outcome's number. Assumes nothing.
use Rattle.check_machine.proofs.Outcomes.{past, far-func, by-pc, third-not, fourth-not, no_word, ignored, word}
use Rattle.check_machine.proofs.numbers.outcome_ok.Goals as goal

pub returns-then-code-gt-CLOSE_IGNORED : goal.returns-then-code-gt-CLOSE_IGNORED
returns-then-code-gt-CLOSE_IGNORED c = past c.args.t c.if-code-gt-CLOSE_IGNORED.true

pub returns-then-t-ge-BITS32 : goal.returns-then-t-ge-BITS32
returns-then-t-ge-BITS32 c = far-func c.args.t c.if-code-eq-FAILED.true c.if-t-ge-BITS32.true

pub returns-then-code-eq-FAILED : goal.returns-then-code-eq-FAILED
returns-then-code-eq-FAILED c = by-pc c.args.t c.if-code-eq-FAILED.true c.if-t-ge-BITS32.false

pub returns-then-t-ne0 : goal.returns-then-t-ne0
returns-then-t-ne0 c = third-not c.args.t c.if-code-eq-FAILED.false c.if-t-ne0.true

pub returns-then-t-ne0-2 : goal.returns-then-t-ne0-2
returns-then-t-ne0-2 c = fourth-not c.args.t c.if-code-eq-FAILED.false c.if-t-ne0-2.true

pub returns-then-code-eq-NONE : goal.returns-then-code-eq-NONE
returns-then-code-eq-NONE c = no_word c.args.t c.if-code-eq-NONE.true c.if-t-ne0.false c.if-t-ne0-2.false

pub returns-then-code-eq-CLOSE_IGNORED : goal.returns-then-code-eq-CLOSE_IGNORED
returns-then-code-eq-CLOSE_IGNORED c = ignored c.args.t c.if-code-eq-CLOSE_IGNORED.true c.if-t-ne0.false c.if-t-ne0-2.false

pub returns : goal.returns
returns c = word c.args.t c.if-code-gt-CLOSE_IGNORED.false c.if-code-eq-NONE.false c.if-code-eq-FAILED.false c.if-code-eq-CLOSE_IGNORED.false c.if-t-ne0.false c.if-t-ne0-2.false
