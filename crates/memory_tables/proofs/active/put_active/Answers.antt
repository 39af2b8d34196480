-- `put_active` meets its contract: six stores are one run. Assumes nothing.
use Rattle.std.proofs.Common.{◌*◌, ◌∙◌, arith, length-set}
use Rattle.memory_tables.proofs.Padded.{six-sets}
use Rattle.memory_tables.proofs.active.put_active.Goals as goal

pub bounds-chain-at-2 : goal.bounds-chain-at-2
bounds-chain-at-2 c = simp length-set (omega arith)

pub bounds-chain-at-3 : goal.bounds-chain-at-3
bounds-chain-at-3 c = simp length-set (omega arith)

pub bounds-chain-at-4 : goal.bounds-chain-at-4
bounds-chain-at-4 c = simp length-set (omega arith)

pub bounds-chain-at-5 : goal.bounds-chain-at-5
bounds-chain-at-5 c = simp length-set (omega arith)

pub bounds-chain-at-6 : goal.bounds-chain-at-6
bounds-chain-at-6 c = simp length-set (omega arith)

pub returns : goal.returns
returns c =
    six-sets c.args.chain.now (c.args.i * 6) _ _ c.driver_code.result c.driver_first.result
    c.driver_second.result c.driver_third.result c.requires
    ∙ rw (c.driver_code.ensures, c.driver_first.ensures, c.driver_second.ensures, c.driver_third.ensures)
