-- `coro_ok` meets its contract: words have 64 bits, so nothing more is to be tested. Assumes nothing.
use mathlib.Core.Path.{sym, ap, ◌∙◌}
use mathlib.Core.Bool.{Bool, ◌&&◌}
use borrow.Author.Tests.{le-leb, lt-leb}
use lib.ListN.{get_or}
use Rattle.lists.specs.Tests.{zeros}
use Rattle.heap.proofs.Within.{above, coro-row}
use Rattle.heap.proofs.ranges.coro_ok.Goals as goal

pub returns-then-s-gt5 : goal.returns-then-s-gt5
returns-then-s-gt5 c =
    let s = c.args.s.now in
    sym (coro-row s c.requires.0 c.requires.1 (λ i. (c.shared_slice_known-2-1.given i).fits)
    ∙ ap (λ (b : Bool). b && zeros (above s)) (lt-leb (get_or s 2 0) 5 c.if-s-gt5.true))

pub returns : goal.returns
returns c =
    let s = c.args.s.now in
    c.all_zero.ensures
    ∙ sym (coro-row s c.requires.0 c.requires.1 (λ i. (c.shared_slice_known-9-1.given i).fits)
    ∙ ap (λ (b : Bool). b && zeros (above s)) (le-leb (get_or s 2 0) 5 c.if-s-gt5.false))
