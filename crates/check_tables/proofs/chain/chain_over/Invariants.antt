-- `chain_over` meets its contract: the frames and the active ones below decide the whole. Assumes nothing.
use mathlib.Core.Path.{◌≡◌}
use Prim.Native.Nat.{◌≤◌}
use Rattle.check_tables.specs.Chain.{chain_test}
use Rattle.check_tables.proofs.chain.chain_over.Given as goal

abbrev pub invariant-loop-i : goal.invariant-loop-i
invariant-loop-i l = (l.i ≤ l.depth) × (l.k ≤ l.n) × (chain_test l.chain l.frames l.depth l.n ≡ chain_test l.chain l.frames l.i l.k)
