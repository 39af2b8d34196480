-- `word_back` meets its contract: each kind of word by its test. Assumes nothing.
use Rattle.furnace.proofs.Bodies.{base_back, pc-back, other-back, unsent-back}
use Rattle.furnace.proofs.body.word_back.Goals as goal

pub returns-then-p-eq-BASE : goal.returns-then-p-eq-BASE
returns-then-p-eq-BASE c = let a = c.args in base_back a.sent a.n a.from a.to a.p a.was a.is _ _ c.if-p-eq-BASE.true c.saturating_sub.ensures c.saturating_sub-then-p-eq-BASE.ensures

pub returns-then-not-sent : goal.returns-then-not-sent
returns-then-not-sent c = let a = c.args in unsent-back a.sent a.n a.from a.to a.p a.was a.is c.if-p-eq-BASE.false c.if-not-sent.true

pub returns-then-p-top : goal.returns-then-p-top
returns-then-p-top c = let a = c.args in other-back a.sent a.n a.from a.to a.p a.was a.is c.if-p-eq-BASE.false c.if-not-sent.false _ c.saturating_sub-top.ensures c.if-p-top.true

pub returns : goal.returns
returns c = let a = c.args in pc-back a.sent a.n a.from a.to a.p a.was a.is c.if-p-eq-BASE.false c.if-not-sent.false _ c.saturating_sub-top.ensures c.if-p-top.false
