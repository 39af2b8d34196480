-- `callee_at` meets its contract, by the kind. Assumes nothing.
use mathlib.Core.Path.{sym, ap, ◌∙◌}
use Rattle.lists.specs.Chunks.{chunk_at}
use Rattle.std.specs.Prelude.{Ok}
use Rattle.heap.proofs.ByKind.{func-kind, no-func}
use Rattle.heap.proofs.kind.callee_at.Goals as goal

pub returns-then-kind-eq1 : goal.returns-then-kind-eq1
returns-then-kind-eq1 c =
    let a = c.args in
    ap Ok c.word_at.ensures ∙ sym (func-kind (chunk_at 20 a.slots.now a.i) (sym c.word_at-kind.ensures ∙ c.if-kind-eq1.true))

pub returns : goal.returns
returns c =
    let a = c.args in
    sym (no-func (chunk_at 20 a.slots.now a.i) (λ e. c.if-kind-eq1.false (c.word_at-kind.ensures ∙ e)))
