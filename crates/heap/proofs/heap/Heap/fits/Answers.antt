-- `Heap::fits` meets its contract. Assumes nothing.
use mathlib.Core.Path.{ap}
use Prim.Native.Nat.{ℕ}
use lib.Dec.{leb}
use Rattle.heap.proofs.heap.Heap.fits.Goals as goal

pub returns : goal.returns
returns c = ap (λ (n : ℕ). leb n c.args.self.limit) c.sat_add.ensures
