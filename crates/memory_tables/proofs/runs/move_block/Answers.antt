-- `move_block` meets its contract: words set aside, written and cleared. Assumes nothing.
use Rattle.std.proofs.Common.{◌≡◌, ◌≤◌, ◌++◌, length, take, drop, replicate, sym, ap, ◌∙◌, arith, length-append, length-take-le}
use Rattle.lists.specs.Parts.{part}
use Rattle.memory_tables.proofs.Padded.{length_part, span, back, cleared}
use Rattle.memory_tables.proofs.Moves.{aside-part}
use Rattle.memory_tables.proofs.runs.move_block.Lts as lts
use Rattle.memory_tables.proofs.runs.move_block.Reads as reads
use Rattle.memory_tables.proofs.runs.move_block.Tie as tie
use Rattle.memory_tables.proofs.runs.move_block.Goals as goal

abbrev After-copy_words : Type 0
After-copy_words = lts.After-copy_words tie.the-claims reads.Pre reads.Post

-- the words that are set aside
held : (c : After-copy_words) →
    let a = c.args in
    take a.n (c.copy_words.new.dst ++ drop a.n (replicate 1024 0)) ≡ part a.from a.n a.src.now
held c =
    let a = c.args in
    aside-part 1024 a.n _ (part a.from a.n a.src.now) (length_part a.from a.n a.src.now c.requires.2)
    (c.copy_words.ensures ∙ ap (λ n. take n (drop a.from a.src.now)) (span a.from a.n))

long : (c : After-copy_words) →
    let a = c.args in
    a.n ≤ length (c.copy_words.new.dst ++ drop a.n (replicate 1024 0))
long c =
    let a = c.args in
    let l = length-append c.copy_words.new.dst (drop a.n (replicate 1024 0)) in
    let k = ap length c.copy_words.ensures ∙ ap (λ n. length (take n (drop a.from a.src.now))) (span a.from a.n) ∙ length_part a.from a.n a.src.now c.requires.2 in
    omega arith

pub slice_bounds-copy_words-end : goal.slice_bounds-copy_words-end
slice_bounds-copy_words-end c = sym (length-take-le c.args.n (replicate 1024 0) c.requires.0)

pub copy_words-requires : goal.copy_words-requires
copy_words-requires c =
    let a = c.args in
    length-take-le a.n (replicate 1024 0) c.requires.0
    ∙ sym (ap (λ n. length (take n (drop a.from a.src.now))) (span a.from a.n) ∙ length_part a.from a.n a.src.now c.requires.2)

pub slice_bounds-room-end-2 : goal.slice_bounds-room-end-2
slice_bounds-room-end-2 c = long c.before.before

pub slice_bounds-copy_words-end-4 : goal.slice_bounds-copy_words-end-4
slice_bounds-copy_words-end-4 c =
    let a = c.args in
    sym (ap length (held c.before.before.before) ∙ length_part a.from a.n a.src.now c.requires.2)

pub copy_words-requires-2 : goal.copy_words-requires-2
copy_words-requires-2 c =
    let a = c.args in
    ap (λ n. length (take n (drop a.at a.dst.now))) (span a.at a.n) ∙ length_part a.at a.n a.dst.now c.requires.1
    ∙ sym (ap length (held c.before.before.before) ∙ length_part a.from a.n a.src.now c.requires.2)

pub returns : goal.returns
returns c =
    let a = c.args in
    let inside = c.requires.2 in
    record {
      there =
          back a.dst.now _ (part a.from a.n a.src.now) a.at a.n _ (span a.at a.n) (length_part a.from a.n a.src.now inside)
          (c.copy_words-2.ensures ∙ held c.before.before.before.before.before.before.before.before.before.before.before);
      here = cleared a.src.now _ a.from a.n inside c.clear_words.ensures;
    }
