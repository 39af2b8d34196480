-- `keep` meets its contract: the head, and the words. Assumes nothing.
use Rattle.std.proofs.Common.{◌+◌, ap, ◌∙◌}
use Rattle.lists.specs.Parts.{part, splice}
use Rattle.memory_tables.proofs.Padded.{moved}
use Rattle.furnace.proofs.note.keep.Goals as goal

pub returns : goal.returns
returns c =
    let a = c.args in
    moved c.head.new.notes a.stack.now c.copy_words.new.dst (a.at + 3) a.own a.n c.requires.1 c.copy_words.ensures
    ∙ ap (λ xs. splice xs (a.at + 3) (part a.own a.n a.stack.now)) c.head.ensures
