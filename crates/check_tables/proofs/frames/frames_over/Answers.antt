-- `frames_over` meets its contract: the frames below decide the whole. Assumes nothing.
use mathlib.Core.Path.{refl, sym, ap, ◌∙◌}
use Prim.Native.Nat.{◌-◌}
use native.Mathlib.Omega.{arith}
use borrow.Author.Tests.{not-true, not-false}
use Rattle.memory_world.specs.Decode.{setup_of}
use Rattle.check_tables.specs.Frames.{frames_test}
use Rattle.check_tables.proofs.Tower.{frames-stop, frames-more, frames-end}
use Rattle.check_tables.proofs.frames.frames_over.Goals as goal

pub loop-i-init : goal.loop-i-init
loop-i-init c = (omega arith, refl)

pub frame_ok-requires : goal.frame_ok-requires
frame_ok-requires c = record { inside = omega (arith, c.requires.inside); catches = c.requires.catches; numbers = c.requires.numbers }

pub returns-then-not-frame_ok : goal.returns-then-not-frame_ok
returns-then-not-frame_ok c = let a = c.args in frames-stop a.saved (setup_of a.setup.now) a.ws.now c.loop-i.i c.loop-i.e _ c.loop-i.invariant.1 c.frame_ok.result c.loop-i-test.true c.frame_ok.ensures c.if-not-frame_ok.true

pub base_at-e-requires : goal.base_at-e-requires
base_at-e-requires c = omega (arith, c.requires.inside)

pub loop-i-preserved : goal.loop-i-preserved
loop-i-preserved c =
    let a = c.args in (
      omega arith,
      frames-more a.saved (setup_of a.setup.now) a.ws.now c.loop-i.i c.loop-i.e _ c.loop-i.invariant.1 c.frame_ok.result c.loop-i-test.true c.frame_ok.ensures c.if-not-frame_ok.false
          ∙ ap (frames_test a.saved (setup_of a.setup.now) a.ws.now (c.loop-i.i - 1)) (sym c.base_at-e.ensures),
    )

pub returns : goal.returns
returns c = let a = c.args in frames-end a.saved (setup_of a.setup.now) a.ws.now c.loop-i.i c.loop-i.e _ c.loop-i.invariant.1 c.loop-i-test.false
