-- `charge_plain` meets the definition, by the fuel in hand. Assumes nothing.
use Rattle.std.specs.Prelude.{None}
use Rattle.coro_clean.proofs.Paid.{charge-fast, charge-slow}
use Rattle.coro_clean.proofs.charge.charge_plain.Goals as goal

pub returns-then-fuel-ne0 : goal.returns-then-fuel-ne0
returns-then-fuel-ne0 c = λ m l w b rep. charge-fast l b.words m c.args.fuel w rep None _ c.if-fuel-ne0.true c.spend-f.ensures

pub returns : goal.returns
returns c = λ m l w b rep. charge-slow l b.words m c.args.fuel w rep None b.words m _ _ c.if-fuel-ne0.false (c.slow_plain.ensures m l w b rep)
