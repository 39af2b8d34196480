-- `done_at` meets its contract, by the kind. Assumes nothing.
use mathlib.Core.Path.{sym, ◌∙◌}
use Rattle.lists.specs.Chunks.{chunk_at}
use Rattle.heap.proofs.ByKind.{iter-kind, keyed-kind, no-iter}
use Rattle.heap.proofs.kind.done_at.Goals as goal

pub returns-in-3 : goal.returns-in-3
returns-in-3 c =
    let a = c.args in
    c.flag_at.ensures ∙ sym (iter-kind (chunk_at 20 a.slots.now a.i) (sym c.word_at-kind.ensures ∙ c.in-3.is))

pub returns-in-4 : goal.returns-in-4
returns-in-4 c =
    let a = c.args in
    c.flag_at-in-4.ensures ∙ sym (keyed-kind (chunk_at 20 a.slots.now a.i) (sym c.word_at-kind.ensures ∙ c.in-4.is))

pub returns-in_default : goal.returns-in_default
returns-in_default c =
    let a = c.args in
    let other = c.in_default.in_default-own.rest in
    sym (no-iter (chunk_at 20 a.slots.now a.i) (λ e. other.0.1 (c.word_at-kind.ensures ∙ e)) (λ e. other.1 (c.word_at-kind.ensures ∙ e)))
