-- `active_ok` meets its contract: each test fails the whole, and the last decides it. Assumes nothing.
use mathlib.Core.Path.{ap, ◌∙◌}
use Prim.Native.Nat.{ℕ}
use native.Mathlib.Omega.{arith}
use borrow.Author.Tests.{not-true, not-false}
use Rattle.model.specs.Sound.{driver_lies}
use Rattle.memory_tables.specs.Layout.{frame_of}
use Rattle.memory_tables.specs.Parts.{piled}
use Rattle.check_tables.specs.Chain.{driver_in}
use Rattle.check_tables.proofs.Beside.{other-floor, bad-driver, last-lies}
use Rattle.check_tables.proofs.chain.active_ok.Goals as goal

pub returns-then-chain-at : goal.returns-then-chain-at
returns-then-chain-at c = let a = c.args in other-floor a.chain.now a.frames.now a.k a.i c.if-chain-at.true

pub returns-then-not-driver_held : goal.returns-then-not-driver_held
returns-then-not-driver_held c = let a = c.args in bad-driver a.chain.now a.frames.now a.k a.i c.if-chain-at.false c.driver_held.result c.driver_held.ensures c.if-not-driver_held.true

pub base_at-base-requires : goal.base_at-base-requires
base_at-base-requires c = c.requires.1

pub driver_lies-requires : goal.driver_lies-requires
driver_lies-requires c = omega (arith, c.requires.1)

pub returns : goal.returns
returns c =
    let a = c.args in
    last-lies a.chain.now a.frames.now a.k a.i c.if-chain-at.false c.driver_held.result c.driver_lies.result c.driver_held.ensures c.if-not-driver_held.false
    (c.driver_lies.ensures ∙ ap (λ (x : ℕ). driver_lies (driver_in a.chain.now a.k) x (piled 6 frame_of a.i a.frames.now)) c.base_at-base.ensures)
