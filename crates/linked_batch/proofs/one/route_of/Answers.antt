-- `route_of` meets its contract: a switch only where every test was passed. Assumes nothing.
use mathlib.Core.Path.{◌≡◌}
use Prim.Native.Nat.{ℕ, ◌^◌, ◌<◌}
use native.Mathlib.Omega.{arith}
use Rattle.lists.proofs.Tests.{never}
use Rattle.linked_batch.specs.Batch.{Goes}
use Rattle.linked_batch.specs.declared.one.Route.{Route}
use Rattle.linked_batch.proofs.one.route_of.Goals as goal

-- `route_of` meets its contract: a switch only where every test was passed. Assumes nothing.
general : (n a d e : ℕ) → Goes n a d e Route.General
general n a d e = record { resume = λ z. never cc; yield = λ z. never cc }

resumes : (n a d e : ℕ) → n ≡ 6 → a < 2 ^ 32 → e ≡ 0 → Goes n a d e Route.Resume
resumes n a d e p q r = record { resume = λ z. (p, q, r); yield = λ z. never cc }

yields : (n a d e : ℕ) → n ≡ 3 → a < 2 ^ 32 → d ≡ 0 → e ≡ 0 → Goes n a d e Route.Yield
yields n a d e p q r s = record { resume = λ z. never cc; yield = λ z. (p, q, r, s) }

pub returns-then-a-gt-MOST32 : goal.returns-then-a-gt-MOST32
returns-then-a-gt-MOST32 c = general _ _ _ _

pub returns-then-e-ne0 : goal.returns-then-e-ne0
returns-then-e-ne0 c = general _ _ _ _

pub returns-then-n-eq-RESUME : goal.returns-then-n-eq-RESUME
returns-then-n-eq-RESUME c =
    let h = c.if-a-gt-MOST32.false in
    resumes _ _ _ _ c.if-n-eq-RESUME.true (omega (arith, h)) (let k = c.if-e-ne0.false in omega (arith, k))

pub returns-then-n-ne-YIELD : goal.returns-then-n-ne-YIELD
returns-then-n-ne-YIELD c = general _ _ _ _

pub returns-then-d-ne0 : goal.returns-then-d-ne0
returns-then-d-ne0 c = general _ _ _ _

pub returns : goal.returns
returns c =
    let h = c.if-a-gt-MOST32.false in
    yields _ _ _ _ (let k = c.if-n-ne-YIELD.false in omega (arith, k)) (omega (arith, h)) (let k = c.if-d-ne0.false in omega (arith, k)) (let k = c.if-e-ne0.false in omega (arith, k))
