-- `same_words` meets its contract, word by word. Assumes nothing.
use borrow.Author.Tests.{eq-eqb, ne_eqb}
use Rattle.memory_calls.proofs.call.same_words.Goals as goal

pub returns-then-w-n : goal.returns-then-w-n
returns-then-w-n c =
    let g = c.args in
    let w = g.w in
    rw (ne_eqb w.0 g.n c.if-w-n.true)

pub returns-then-w-a : goal.returns-then-w-a
returns-then-w-a c =
    let g = c.args in
    let w = g.w in
    rw (eq-eqb w.0 g.n c.if-w-n.false, ne_eqb w.1 g.a c.if-w-a.true)

pub returns-then-w-b : goal.returns-then-w-b
returns-then-w-b c =
    let g = c.args in
    let w = g.w in
    rw (eq-eqb w.0 g.n c.if-w-n.false, eq-eqb w.1 g.a c.if-w-a.false, ne_eqb w.2 g.b c.if-w-b.true)

pub returns-then-w-c : goal.returns-then-w-c
returns-then-w-c c =
    let g = c.args in
    let w = g.w in
    rw (eq-eqb w.0 g.n c.if-w-n.false, eq-eqb w.1 g.a c.if-w-a.false, eq-eqb w.2 g.b c.if-w-b.false, ne_eqb w.3 g.c c.if-w-c.true)

pub returns-then-w-d : goal.returns-then-w-d
returns-then-w-d c =
    let g = c.args in
    let w = g.w in
    rw (eq-eqb w.0 g.n c.if-w-n.false, eq-eqb w.1 g.a c.if-w-a.false, eq-eqb w.2 g.b c.if-w-b.false, eq-eqb w.3 g.c c.if-w-c.false, ne_eqb w.4 g.d c.if-w-d.true)

pub returns-then-w-e : goal.returns-then-w-e
returns-then-w-e c =
    let g = c.args in
    let w = g.w in
    rw (eq-eqb w.0 g.n c.if-w-n.false, eq-eqb w.1 g.a c.if-w-a.false, eq-eqb w.2 g.b c.if-w-b.false, eq-eqb w.3 g.c c.if-w-c.false, eq-eqb w.4 g.d c.if-w-d.false, ne_eqb w.5 g.e c.if-w-e.true)

pub returns : goal.returns
returns c =
    let g = c.args in
    let w = g.w in
    rw (eq-eqb w.0 g.n c.if-w-n.false, eq-eqb w.1 g.a c.if-w-a.false, eq-eqb w.2 g.b c.if-w-b.false, eq-eqb w.3 g.c c.if-w-c.false, eq-eqb w.4 g.d c.if-w-d.false, eq-eqb w.5 g.e c.if-w-e.false)
