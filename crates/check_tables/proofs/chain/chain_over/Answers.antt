-- `chain_over` meets its contract: the frames and the active ones below decide the whole. Assumes nothing.
use mathlib.Core.Path.{refl}
use native.Mathlib.Omega.{arith}
use borrow.Author.Tests.{not-true, not-false}
use Rattle.check_tables.proofs.Beside.{none_left, active-stop, active-more, plain_more, chain-end}
use Rattle.check_tables.proofs.chain.chain_over.Goals as goal

pub loop-i-init : goal.loop-i-init
loop-i-init c = (omega arith, omega arith, refl)

pub overflow_mul-i : goal.overflow_mul-i
overflow_mul-i c = omega (arith, c.requires.on-frames)

pub overflow_add-i : goal.overflow_add-i
overflow_add-i c = omega (arith, c.requires.on-frames)

pub offset_bounds-frames-i : goal.offset_bounds-frames-i
offset_bounds-frames-i c = omega (arith, c.requires.on-frames)

pub bounds-frames-i : goal.bounds-frames-i
bounds-frames-i c = omega (arith, c.requires.on-frames)

pub returns-then-k-eq0 : goal.returns-then-k-eq0
returns-then-k-eq0 c = let a = c.args in none_left a.chain.now a.frames.now c.loop-i.i c.loop-i.k _ c.loop-i.invariant.2 c.loop-i-test.true c.if-frames-i-gt-DISCARD.true c.if-k-eq0.true

pub active_ok-requires : goal.active_ok-requires
active_ok-requires c = let on_chain = c.requires.on_chain in let on-frames = c.requires.on-frames in (omega arith, omega arith)

pub returns-then-not-active_ok : goal.returns-then-not-active_ok
returns-then-not-active_ok c =
    let a = c.args in
    active-stop a.chain.now a.frames.now c.loop-i.i c.loop-i.k _ c.loop-i.invariant.2 c.loop-i-test.true c.if-frames-i-gt-DISCARD.true (omega arith) c.active_ok.result c.active_ok.ensures c.if-not-active_ok.true

pub loop-i-preserved-else-not-active_ok : goal.loop-i-preserved-else-not-active_ok
loop-i-preserved-else-not-active_ok c =
    let a = c.args in (
      omega arith,
      omega arith,
      active-more a.chain.now a.frames.now c.loop-i.i c.loop-i.k _ c.loop-i.invariant.2 c.loop-i-test.true
          c.if-frames-i-gt-DISCARD.true (omega arith) c.active_ok.result c.active_ok.ensures c.if-not-active_ok.false,
    )

pub loop-i-preserved : goal.loop-i-preserved
loop-i-preserved c = let a = c.args in (omega arith, omega arith, plain_more a.chain.now a.frames.now c.loop-i.i c.loop-i.k _ c.loop-i.invariant.2 c.loop-i-test.true c.if-frames-i-gt-DISCARD.false)

pub returns : goal.returns
returns c = let a = c.args in chain-end a.chain.now a.frames.now c.loop-i.i c.loop-i.k _ c.loop-i.invariant.2 c.loop-i-test.false
