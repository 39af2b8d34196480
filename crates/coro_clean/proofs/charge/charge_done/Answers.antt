-- `charge_done` meets the definition: a unit less, and the fuel set aside. Assumes nothing.
use Rattle.coro_clean.proofs.Paid.{done-does}
use Rattle.coro_clean.proofs.charge.charge_done.Goals as goal

pub returns : goal.returns
returns c = λ m l w b rep. done-does l b.words m c.args.f w rep c.spend-g.result _ c.args.taken c.spend-g.ensures c.arm_close-fuel.ensures
