-- `fill_row` meets its contract: a run written, and the rest cleared. Assumes nothing.
use Rattle.std.proofs.Common.{length, take, drop, sym, ap, ◌∙◌, arith, length-take-le}
use Rattle.memory_tables.proofs.Padded.{length_part, span}
use Rattle.memory_tables.proofs.Moves.{filled}
use Rattle.memory_tables.proofs.runs.fill_row.Goals as goal

pub slice_bounds-copy_words-end-2 : goal.slice_bounds-copy_words-end-2
slice_bounds-copy_words-end-2 c = sym (length-take-le c.args.n c.args.src.now c.requires.1)

pub copy_words-requires : goal.copy_words-requires
copy_words-requires c =
    let a = c.args in
    ap (λ n. length (take n (drop a.at a.rows.now))) (span a.at a.n) ∙ length_part a.at a.n a.rows.now (omega arith)
    ∙ sym (length-take-le a.n a.src.now c.requires.1)

pub returns : goal.returns
returns c =
    let a = c.args in
    filled a.rows.now c.copy_words.new.dst c.clear_words.new.s (take a.n a.src.now) a.at a.room a.n c.requires.0 c.requires.2
    (length-take-le a.n a.src.now c.requires.1) c.copy_words.ensures c.clear_words.ensures
