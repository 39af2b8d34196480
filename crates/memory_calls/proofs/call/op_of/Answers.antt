-- `op_of` meets its contract: other than six words, or six. Assumes nothing.
use mathlib.Core.Path.{ap, ◌∙◌}
use Rattle.memory_calls.specs.Call.{op_of}
use Rattle.memory_calls.proofs.Reading.{as-six, other_length}
use Rattle.memory_calls.proofs.call.op_of.Goals as goal

pub returns-then-words-ne-CALL_WIDTH : goal.returns-then-words-ne-CALL_WIDTH
returns-then-words-ne-CALL_WIDTH c = other_length c.args.words.now c.if-words-ne-CALL_WIDTH.true

pub returns : goal.returns
returns c =
    let ws = c.args.words.now in
    c.read_six.ensures ∙ ap op_of (as-six ws c.if-words-ne-CALL_WIDTH.false)
