-- `put_fuel` meets its contract: four stores are one run. Assumes nothing.
use native.Mathlib.Omega.{arith}
use lib.ListN.{length-set}
use Rattle.linked_calls.proofs.Stores.{four}
use Rattle.linked_calls.proofs.numbers.put_fuel.Goals as goal

pub bounds-ws-1 : goal.bounds-ws-1
bounds-ws-1 c = simp length-set (omega arith)

pub bounds-ws-2 : goal.bounds-ws-2
bounds-ws-2 c = simp length-set (omega arith)

pub returns : goal.returns
returns c = let t = c.told_bank-t in four c.args.ws.now _ c.args.f.fuel t.result.0 t.result.1 t.result.2 c.requires t.ensures
