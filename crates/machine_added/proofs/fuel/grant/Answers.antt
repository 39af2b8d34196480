-- `grant` meets its contract, refused or granted. Assumes nothing.
use mathlib.Core.Path.{ap, ◌∙◌, subst}
use Prim.Native.Nat.{◌+◌, ◌^◌, ◌≤◌, ◌<◌}
use native.Mathlib.Omega.{arith}
use Rattle.model.specs.Added.{refuel}
use Rattle.machine_added.proofs.Granting.{too_large, granted}
use Rattle.machine_added.proofs.fuel.grant.Goals as goal

pub returns-then-had-n : goal.returns-then-had-n
returns-then-had-n c =
    let h = c.if-had-n.true in
    λ l w b rep. too_large l b.words c.args.m c.args.f w rep c.args.n (subst (λ k. 2 ^ 64 ≤ k + c.args.n) c.reserve-had.ensures (omega arith))

pub returns : goal.returns
returns c =
    let h = c.if-had-n.false in
    λ l w b rep. granted l b.words c.args.m c.args.f w rep c.args.n _
    (c.refuel.ensures ∙ ap (λ k. refuel c.args.f.bank (k + c.args.n) c.args.f) c.reserve-had.ensures)
    (subst (λ k. k + c.args.n < 2 ^ 64) c.reserve-had.ensures (omega arith))
