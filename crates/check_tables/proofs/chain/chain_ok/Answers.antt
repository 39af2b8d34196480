-- `chain_ok` meets its contract. Assumes nothing.
use mathlib.Core.Path.{◌∙◌}
use native.Mathlib.Omega.{arith}
use Rattle.check_tables.proofs.Bools.{first-fails, second-decides}
use Rattle.check_tables.proofs.Beside.{chain-rules}
use Rattle.check_tables.proofs.chain.chain_ok.Goals as goal

pub returns-else-chain_over : goal.returns-else-chain_over
returns-else-chain_over c =
    let a = c.args in
    c.if-chain_over.false ∙ first-fails _ _ _ c.chain_over.result (chain-rules a.chain.now a.frames.now a.n a.depth c.requires.on_chain) c.chain_over.ensures c.if-chain_over.false

pub overflow_mul-n : goal.overflow_mul-n
overflow_mul-n c = omega (arith, c.requires.on_chain)

pub returns-then-chain_over : goal.returns-then-chain_over
returns-then-chain_over c =
    let a = c.args in
    second-decides _ _ _ c.chain_over.result c.rest_ok.result (chain-rules a.chain.now a.frames.now a.n a.depth c.requires.on_chain) c.chain_over.ensures c.if-chain_over.true c.rest_ok.ensures
