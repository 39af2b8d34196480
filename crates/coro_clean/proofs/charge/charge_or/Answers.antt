-- `charge_or` meets the definition, by whether a cleanup has started. Assumes nothing.
use Rattle.coro_clean.proofs.Closes.{or-close, or-done}
use Rattle.coro_clean.proofs.charge.charge_or.Goals as goal

pub returns-then-s : goal.returns-then-s
returns-then-s c = λ l w b rep. or-close l b.words c.args.m c.args.f w c.args.s rep c.if-s.true

pub charge_done-did-requires : goal.charge_done-did-requires
charge_done-did-requires c = c.requires c.if-s.false

pub returns : goal.returns
returns c =
    λ l w b rep. or-done l b.words c.args.m c.args.f w c.args.s b.words c.args.m _ _ c.if-s.false
    (c.charge_done-did.ensures c.args.m l w b rep)
