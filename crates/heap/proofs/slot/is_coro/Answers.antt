-- `is_coro` meets its contract: the second of the slot's words tells. Assumes nothing.
use mathlib.Core.Path.{sym, ap}
use native.Mathlib.Omega.{arith}
use lib.Dec.{eqb}
use Rattle.lists.proofs.Tables.{chunk-get}
use Rattle.heap.proofs.slot.is_coro.Goals as goal

pub returns : goal.returns
returns c = ap (λ k. eqb k 6) (sym (chunk-get 20 c.args.i 1 c.args.slots.now (omega arith)))
