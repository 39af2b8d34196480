-- `waits_ok` meets its contract. Assumes nothing.
use mathlib.Core.Path.{sym, ap, ◌∙◌, subst}
use Prim.Native.Nat.{ℕ, ◌-◌, ◌≤◌, ◌<◌}
use borrow.Author.Tests.{le-ltb}
use lib.Dec.{ltb}
use Rattle.check_machine.proofs.Waiting.{waits-far, waits-near}
use Rattle.check_machine.proofs.saved.waits_ok.Goals as goal

pub returns-else-base-c : goal.returns-else-base-c
returns-else-base-c c =
    let a = c.args in
    le-ltb c.base_at-base.result a.c.regs c.if-base-c.false
    ∙ waits-far a.ws.now a.c (sym c.is_suspended.ensures ∙ c.if-not-is_suspended.false) c.requires.0
    (subst (λ (x : ℕ). a.c.regs ≤ x) c.base_at-base.ensures c.if-base-c.false)

pub returns-then-base-c : goal.returns-then-base-c
returns-then-base-c c =
    let a = c.args in let e = c.base_at-base.ensures in
    ap (λ (x : ℕ). ltb a.c.waiting (a.c.regs - x)) e
    ∙ waits-near a.ws.now a.c (sym c.is_suspended.ensures ∙ c.if-not-is_suspended.false) c.requires.0
    (subst (λ (x : ℕ). x < a.c.regs) e c.if-base-c.true)
