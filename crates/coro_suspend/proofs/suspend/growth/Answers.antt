-- `growth` meets its contract: the numbers are small. Assumes nothing.
use mathlib.Core.Path.{ap₂}
use Prim.Native.Nat.{◌+◌, ◌*◌, ◌≤◌}
use native.Mathlib.Omega.{arith}
use Rattle.coro_suspend.proofs.Parts.{small_product}
use Rattle.coro_suspend.proofs.suspend.growth.Lts as lts
use Rattle.coro_suspend.proofs.suspend.growth.Reads as reads
use Rattle.coro_suspend.proofs.suspend.growth.Tie as tie
use Rattle.coro_suspend.proofs.suspend.growth.Goals as goal

abbrev After-beyond-deep : Type 0
After-beyond-deep = lts.After-beyond2 tie.the-claims reads.Pre reads.Post

-- `growth` meets its contract: the numbers are small. Assumes nothing.
product : (c : After-beyond-deep) → c.beyond-deep.result * c.args.sizes.costs.frame ≤ 8388608
product c =
    let a = c.args in let e = c.beyond-deep.ensures in let p = c.requires in small_product c.beyond-deep.result a.sizes.costs.frame (omega (arith, p.1)) p.2

pub overflow_mul-result-2 : goal.overflow_mul-result-2
overflow_mul-result-2 c = let h = product c.before in omega arith

pub overflow_add-result : goal.overflow_add-result
overflow_add-result c = let h = product c.before in omega arith

pub returns : goal.returns
returns c = let a = c.args in ap₂ (λ x y. x * 8 + y * a.sizes.costs.frame) c.beyond-wide.ensures c.beyond-deep.ensures
