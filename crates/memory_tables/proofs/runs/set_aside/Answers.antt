-- `set_aside` meets its contract: the part that is lent comes back before zeros. Assumes nothing.
use Rattle.std.proofs.Common.{length, take, drop, replicate, sym, ap, ◌∙◌, length-take-le}
use Rattle.lists.specs.Parts.{part}
use Rattle.memory_tables.proofs.Padded.{length_part, span}
use Rattle.memory_tables.proofs.Moves.{aside}
use Rattle.memory_tables.proofs.runs.set_aside.Goals as goal

pub slice_bounds-copy_words-end : goal.slice_bounds-copy_words-end
slice_bounds-copy_words-end c = sym (length-take-le c.args.n (replicate 255 0) c.requires.0)

pub copy_words-requires : goal.copy_words-requires
copy_words-requires c =
    let a = c.args in
    length-take-le a.n (replicate 255 0) c.requires.0
    ∙ sym (ap (λ n. length (take n (drop a.at a.src.now))) (span a.at a.n) ∙ length_part a.at a.n a.src.now c.requires.1)

pub returns : goal.returns
returns c =
    let a = c.args in
    aside 255 a.n _ (part a.at a.n a.src.now) c.requires.0 (length_part a.at a.n a.src.now c.requires.1)
    (c.copy_words.ensures ∙ ap (λ n. take n (drop a.at a.src.now)) (span a.at a.n))
