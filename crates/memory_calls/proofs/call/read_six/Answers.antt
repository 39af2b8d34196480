-- `read_six` meets its contract: what is written is what was read, or not. Assumes nothing.
use Rattle.memory_calls.specs.Call.{six}
use Rattle.memory_calls.proofs.Reading.{read_is, read-not}
use Rattle.memory_calls.proofs.call.read_six.Goals as goal

pub returns-then-same_words : goal.returns-then-same_words
returns-then-same_words c =
    let g = c.args in
    let w = c.words_of-w.result in
    read_is (six g.n g.a g.b g.c g.d g.e) _ (six w.0 w.1 w.2 w.3 w.4 w.5) _ c.op_by-op.ensures c.words_of-w.ensures c.same_words.ensures c.if-same_words.true

pub returns : goal.returns
returns c =
    let g = c.args in
    let w = c.words_of-w.result in
    read-not g.n g.a g.b g.c g.d g.e _ (six w.0 w.1 w.2 w.3 w.4 w.5) _ _ c.op_by-op.ensures c.words_of-w.ensures c.same_words.ensures c.if-same_words.false c.gate_of.ensures
