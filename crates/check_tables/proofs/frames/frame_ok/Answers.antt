-- `frame_ok` meets its contract: each test fails the whole, and the last decides it. Assumes nothing.
use native.Mathlib.Omega.{arith}
use Rattle.check_tables.proofs.OneFrame.{functions-long, stop-base, stop-func, stop-pc, stop-catch, last}
use Rattle.check_tables.proofs.frames.frame_ok.Goals as goal

pub returns-then-end-base : goal.returns-then-end-base
returns-then-end-base c = let a = c.args in stop-base a.saved a.setup.now a.ws.now a.i a.end c.if-end-base.true

pub returns-then-func-setup : goal.returns-then-func-setup
returns-then-func-setup c = let a = c.args in stop-func a.saved a.setup.now a.ws.now a.i a.end c.if-end-base.false c.if-func-setup.true

pub returns-then-ws-at-ge-BITS32 : goal.returns-then-ws-at-ge-BITS32
returns-then-ws-at-ge-BITS32 c = let a = c.args in stop-pc a.saved a.setup.now a.ws.now a.i a.end c.if-end-base.false c.if-func-setup.false c.if-ws-at-ge-BITS32.true

pub offset_bounds-need-f : goal.offset_bounds-need-f
offset_bounds-need-f c = omega (arith, functions-long c.args.setup.now, c.requires.catches.few)

pub bounds-need-f : goal.bounds-need-f
bounds-need-f c = omega (arith, functions-long c.args.setup.now, c.requires.catches.few)

pub returns-then-end-base-2 : goal.returns-then-end-base-2
returns-then-end-base-2 c = let a = c.args in stop-catch a.saved a.setup.now a.ws.now a.i a.end c.if-end-base.false c.if-func-setup.false c.if-ws-at-ge-BITS32.false a.need.now c.requires.catches c.if-end-base-2.true

pub returns : goal.returns
returns c =
    let a = c.args in last a.saved a.setup.now a.ws.now a.i a.end c.if-end-base.false c.if-func-setup.false c.if-ws-at-ge-BITS32.false a.need.now c.requires.catches
    c.if-end-base-2.false c.cont_ok.result c.cont_ok.ensures
