-- `row_rest` meets its contract: the part that is lent is the row's words. Assumes nothing.
use mathlib.Core.Path.{◌≡◌, ap, ◌∙◌}
use Prim.Native.Nat.{ℕ, ◌+◌, ◌*◌, ◌-◌}
use native.Mathlib.Omega.{arith}
use lib.ListN.{take, drop}
use Rattle.memory_sound.specs.Words.{rest_ok}
use Rattle.check_machine.proofs.saved.row_rest.Goals as goal

pub returns : goal.returns
returns c =
    let a = c.args in
    let b = a.i * a.w in
    let e : (b + a.w) - b ≡ a.w = omega arith in
    c.rest_ok.ensures ∙ ap (λ (n : ℕ). rest_ok (take n (drop b a.ws.now)) a.n) e
