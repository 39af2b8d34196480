-- `slow_plain` meets the definition, by the fuel taken back. Assumes nothing.
use Rattle.model.specs.Fuel.{unbank}
use Rattle.std.specs.Prelude.{None}
use Rattle.coro_clean.proofs.Paid.{back-rep, slow-spent, slow-paid}
use Rattle.coro_clean.proofs.charge.slow_plain.Goals as goal

pub returns-then-f-eq0 : goal.returns-then-f-eq0
returns-then-f-eq0 c = λ m l w b rep. slow-spent l b.words m c.args.fuel w rep c.unbank-f.result c.unbank-f.ensures None c.if-f-eq0.true

pub returns : goal.returns
returns c =
    λ m l w b rep.
    slow-paid l b.words m c.args.fuel w rep c.unbank-f.result c.unbank-f.ensures None b.words m _ _ c.if-f-eq0.false
    (c.charge_done.ensures m l (unbank w) b (back-rep l b.words m c.args.fuel w rep c.unbank-f.result c.unbank-f.ensures))
