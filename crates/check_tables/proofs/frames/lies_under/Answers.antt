-- `lies_under` meets its contract: the register's place is below the end. Assumes nothing.
use mathlib.Core.Path.{sym, ap, ◌∙◌, subst}
use Prim.Native.Nat.{ℕ, ◌-◌, ◌≤◌, ◌<◌}
use native.Mathlib.Omega.{arith}
use Rattle.check_tables.proofs.Conts.{under-near, under-far}
use borrow.Author.Tests.{le-ltb}
use lib.Dec.{ltb}
use Rattle.check_tables.proofs.frames.lies_under.Goals as goal

pub returns-then-base-end : goal.returns-then-base-end
returns-then-base-end c =
    let a = c.args in let e = c.base_at-base.ensures in
    ap (λ (x : ℕ). ltb a.r (a.end - x)) e ∙ under-near a.ws.now a.i a.r a.end (omega arith) (subst (λ (x : ℕ). x < a.end) e c.if-base-end.true)

pub returns-else-base-end : goal.returns-else-base-end
returns-else-base-end c = let a = c.args in le-ltb c.base_at-base.result a.end c.if-base-end.false ∙ sym (under-far a.ws.now a.i a.r a.end (omega arith) (subst (λ (x : ℕ). a.end ≤ x) c.base_at-base.ensures c.if-base-end.false))
