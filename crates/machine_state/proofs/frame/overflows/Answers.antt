-- `overflows` meets its contract. Assumes nothing.
use Rattle.machine_state.proofs.Frames.{too-deep, too_wide, room-left}
use Rattle.machine_state.proofs.frame.overflows.Goals as goal

pub returns-then-sizes-m : goal.returns-then-sizes-m
returns-then-sizes-m c = too-deep c.args.m c.args.sizes c.args.n c.if-sizes-m.true

pub returns-then-sizes-m-2 : goal.returns-then-sizes-m-2
returns-then-sizes-m-2 c = too_wide c.args.m c.args.sizes c.args.n c.if-sizes-m.false c.requires c.if-sizes-m-2.true

pub returns : goal.returns
returns c = room-left c.args.m c.args.sizes c.args.n c.if-sizes-m.false c.requires c.if-sizes-m-2.false
