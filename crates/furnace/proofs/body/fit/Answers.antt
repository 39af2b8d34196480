-- `fit` meets its contract: each test fails the whole, and the last decides it. Assumes nothing.
use Rattle.std.proofs.Common.{◌-◌, ◌∙◌}
use borrow.Author.Tests.{lt-leb}
use Rattle.furnace.proofs.Bodies.{no-frame, many-frames, whole-frames}
use Rattle.furnace.proofs.body.fit.Goals as goal

pub returns-then-depth-floor : goal.returns-then-depth-floor
returns-then-depth-floor c = no-frame c.args.frames.now c.args.floor c.args.depth c.if-depth-floor.true

pub returns-else-depth-floor-le-MOST_FRAMES : goal.returns-else-depth-floor-le-MOST_FRAMES
returns-else-depth-floor-le-MOST_FRAMES c = lt-leb (c.args.depth - c.args.floor) 2 c.if-depth-floor-le-MOST_FRAMES.false ∙ many-frames c.args.frames.now c.args.floor c.args.depth c.if-depth-floor.false c.if-depth-floor-le-MOST_FRAMES.false

pub returns-then-depth-floor-le-MOST_FRAMES : goal.returns-then-depth-floor-le-MOST_FRAMES
returns-then-depth-floor-le-MOST_FRAMES c = whole-frames c.args.frames.now c.args.floor c.args.depth c.if-depth-floor.false c.if-depth-floor-le-MOST_FRAMES.true
