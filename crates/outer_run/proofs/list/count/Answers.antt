-- `count` meets its contract. Assumes nothing.
use mathlib.Core.Path.{◌≡◌, sym, ap, ◌∙◌}
use Prim.Native.Nat.{◌+◌, ◌/◌, ◌%◌}
use native.Mathlib.Omega.{arith}
use borrow.Author.Tests.{eq-eqb, ne_eqb}
use Rattle.lists.specs.Pick.{pick, pick_true, pick-false}
use Rattle.outer_run.proofs.list.count.Goals as goal

pub returns-then-n-eq0 : goal.returns-then-n-eq0
returns-then-n-eq0 c =
    let n = c.args.n in
    let e : n / 6 + 0 ≡ n / 6 = omega arith in
    sym e ∙ sym (ap (λ b. n / 6 + pick b 0 1) (eq-eqb (n % 6) 0 c.if-n-eq0.true) ∙ ap (λ k. n / 6 + k) (pick_true 0 1))

pub returns : goal.returns
returns c =
    let n = c.args.n in
    sym (ap (λ b. n / 6 + pick b 0 1) (ne_eqb (n % 6) 0 c.if-n-eq0.false) ∙ ap (λ k. n / 6 + k) (pick-false 0 1))
