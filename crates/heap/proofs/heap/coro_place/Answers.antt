-- `coro_place` meets its contract, by what the word names. Assumes nothing.
use mathlib.Core.Path.{ap, sym, ◌∙◌}
use lib.ListN.{get_or}
use borrow.Author.Tests.{eqb-true, eqb-false}
use Rattle.lists.specs.Chunks.{chunk_at}
use Rattle.heap.specs.Word.{class_of}
use Rattle.heap.specs.Table.{not_a}
use Rattle.heap.specs.Heap.{slots_of, as_coro, coro_by, place_of}
use Rattle.std.specs.Prelude.{Err}
use Rattle.heap.proofs.Lookups.{found-words, found-coro}
use Rattle.heap.proofs.Slots.{coro-kind, other-kind}
use Rattle.heap.proofs.heap.coro_place.Goals as goal

pub is_coro-requires : goal.is_coro-requires
is_coro-requires c = found-words c.args.count c.args.slots.now c.args.w.0 c.in-Some.i (sym c.in-Some.is ∙ c.get.ensures) c.requires

pub returns-then-is_coro : goal.returns-then-is_coro
returns-then-is_coro c =
    let ws = chunk_at 20 c.args.slots.now c.in-Some.i in
    sym (ap (λ o. place_of (as_coro c.in-Some.i o)) (coro-kind ws (eqb-true (get_or ws 1 0) 6 (sym c.is_coro.ensures ∙ c.if-is_coro.true))))
    ∙ ap place_of (found-coro c.args.count c.args.slots.now c.args.w.0 c.in-Some.i (sym c.in-Some.is ∙ c.get.ensures))

pub returns-in-None : goal.returns-in-None
returns-in-None c =
    ap Err (c.not_a.ensures ∙ ap (not_a (class_of c.args.w.0)) (sym (sym c.in-None.is ∙ c.get.ensures)))
    ∙ ap (λ p. place_of (coro_by (slots_of c.args.count c.args.slots.now) c.args.w.0 p)) (sym c.in-None.is ∙ c.get.ensures)

pub returns-else-is_coro : goal.returns-else-is_coro
returns-else-is_coro c =
    let ws = chunk_at 20 c.args.slots.now c.in-Some.i in
    sym (ap place_of (other-kind ws c.in-Some.i (eqb-false (get_or ws 1 0) 6 (sym c.is_coro.ensures ∙ c.if-is_coro.false))))
    ∙ ap place_of (found-coro c.args.count c.args.slots.now c.args.w.0 c.in-Some.i (sym c.in-Some.is ∙ c.get.ensures))
