-- `fits` meets its contract: each test fails the whole, and the last decides it. Assumes nothing.
use Rattle.std.proofs.Common.{◌-◌, ◌∙◌, le-ltb, arith}
use Rattle.furnace.proofs.Words.{below-own, beyond-stack, too_many, not-among, is_among, among-last}
use Rattle.furnace.proofs.note.fits.Goals as goal

pub returns-then-height-own : goal.returns-then-height-own
returns-then-height-own c =
    let a = c.args in
    below-own a.stack.now a.own a.top a.height a.r c.if-height-own.true

pub returns-then-stack-height : goal.returns-then-stack-height
returns-then-stack-height c =
    let a = c.args in
    beyond-stack a.stack.now a.own a.top a.height a.r c.if-height-own.false c.if-stack-height.true

pub returns-then-n-gt-MOST_WORDS : goal.returns-then-n-gt-MOST_WORDS
returns-then-n-gt-MOST_WORDS c =
    let a = c.args in
    too_many a.stack.now a.own a.top a.height a.r c.if-height-own.false c.if-stack-height.false c.if-n-gt-MOST_WORDS.true

pub returns-else-place-n : goal.returns-else-place-n
returns-else-place-n c =
    let a = c.args in
    let e = c.saturating_sub-place.ensures in
    let t = c.if-place-n.false in
    le-ltb c.saturating_sub-place.result (a.height - a.own) t ∙ not-among a.stack.now a.own a.top a.height a.r c.if-height-own.false c.if-stack-height.false c.if-n-gt-MOST_WORDS.false (omega (arith, e, t))

pub returns-then-place-n : goal.returns-then-place-n
returns-then-place-n c =
    let a = c.args in
    among-last a.height a.own _ _ a.r c.if-place-n.true c.saturating_sub-place.ensures ∙ is_among a.stack.now a.own a.top a.height a.r c.if-height-own.false c.if-stack-height.false c.if-n-gt-MOST_WORDS.false
