-- `word` meets its contract. Assumes nothing.
use mathlib.Core.Path.{sym}
use Rattle.lists.proofs.Tables.{chunk-get}
use Rattle.linked_batch.proofs.one.word.Goals as goal

pub returns : goal.returns
returns c = sym (chunk-get 6 c.args.i c.args.k c.args.calls.now c.requires.1)
