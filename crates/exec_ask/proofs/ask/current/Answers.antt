-- `current` meets its contract, whether a coroutine runs or not. Assumes nothing.
use native.Mathlib.Omega.{arith}
use Rattle.exec_ask.proofs.Asked.{current-none, current-top}
use Rattle.exec_ask.proofs.ask.current.Goals as goal

pub returns-then-m-eq0 : goal.returns-then-m-eq0
returns-then-m-eq0 c = let a = c.args in current-none a.chain.now a.m.active c.if-m-eq0.true

pub returns : goal.returns
returns c =
    let a = c.args in
    current-top a.chain.now a.m.active c.active_at-a.result (omega (arith, c.if-m-eq0.false)) c.active_at-a.ensures
