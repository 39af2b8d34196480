-- `refusal` meets its contract, by its four tests. Assumes nothing.
use mathlib.Core.Path.{sym, ◌∙◌}
use Rattle.coro_enter.proofs.Parts.{by_state, by-none, by-depth, by-stack, by-nothing}
use Rattle.coro_enter.proofs.enter.refusal.Goals as goal

pub returns-then-not-is_resumable : goal.returns-then-not-is_resumable
returns-then-not-is_resumable c = let a = c.args in by_state a.m.height a.m.depth a.sizes a.c (sym c.is_resumable.ensures ∙ c.if-not-is_resumable.true)

pub returns-then-c-eq0 : goal.returns-then-c-eq0
returns-then-c-eq0 c = let a = c.args in by-none a.m.height a.m.depth a.sizes a.c c.if-c-eq0.true

pub returns-then-sizes-m : goal.returns-then-sizes-m
returns-then-sizes-m c =
    let a = c.args in
    by-depth a.m.height a.m.depth a.sizes a.c (sym c.is_resumable.ensures ∙ c.if-not-is_resumable.false) c.if-c-eq0.false
    c.requires.0 c.if-sizes-m.true

pub returns-then-sizes-m-2 : goal.returns-then-sizes-m-2
returns-then-sizes-m-2 c =
    let a = c.args in
    by-stack a.m.height a.m.depth a.sizes a.c (sym c.is_resumable.ensures ∙ c.if-not-is_resumable.false) c.if-c-eq0.false
    c.requires.1 c.if-sizes-m-2.true

pub returns : goal.returns
returns c =
    let a = c.args in
    by-nothing a.m.height a.m.depth a.sizes a.c (sym c.is_resumable.ensures ∙ c.if-not-is_resumable.false) c.if-c-eq0.false
    c.requires.0 c.requires.1 c.if-sizes-m.false c.if-sizes-m-2.false
