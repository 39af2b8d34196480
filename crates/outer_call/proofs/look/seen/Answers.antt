-- `seen` meets its contract: the part is the one that `place` tells. Assumes nothing.
use mathlib.Core.Path.{sym, ◌∙◌}
use native.Mathlib.Omega.{arith}
use Rattle.memory_world.specs.Memory.{Lent}
use Rattle.memory_world.specs.Lendings.{plain}
use Rattle.outer_call.specs.State.{nine}
use Rattle.outer_call.proofs.Seen.{Part, look-fits, part_of}
use Rattle.outer_call.proofs.look.seen.Lts as lts
use Rattle.outer_call.proofs.look.seen.Reads as reads
use Rattle.outer_call.proofs.look.seen.Tie as tie
use Rattle.outer_call.proofs.look.seen.Goals as goal

abbrev Start : Type 0
Start = lts.Start tie.the-claims reads.Pre reads.Post

abbrev After-place-s : Type 0
After-place-s = lts.After-place tie.the-claims reads.Pre reads.Post

abbrev mem : Start → Lent
mem c = nine c.args.stack.now c.args.frames.now c.args.chain.now c.args.slots.now c.args.saved_stack.now c.args.saved_frames.now c.args.ready.now c.args.finalize.now c.args.setup.now plain

told : (c : After-place-s) → Part (mem c.before.before.before.before.before.before.before.before.before.before) c.args.m c.args.fuel c.place-s.result
told c =
    let a = c.args in
    part_of (mem c.before.before.before.before.before.before.before.before.before.before) a.m a.fuel a.ok c.place-s.result c.requires c.place-s.ensures

pub place-s-requires : goal.place-s-requires
place-s-requires c =
    let a = c.args in
    λ e. look-fits (mem c.before.before.before.before.before.before.before.before.before.before) a.m a.fuel (sym c.requires ∙ e)

pub offset_bounds-stack-start : goal.offset_bounds-stack-start
offset_bounds-stack-start c = let p = told c.before in let h = p.order in let k = p.inside in omega (arith, c.well_formed)

pub slice_bounds-result-count : goal.slice_bounds-result-count
slice_bounds-result-count c = let p = told c.before in let h = p.order in omega arith

pub slice_bounds-result-start : goal.slice_bounds-result-start
slice_bounds-result-start c = let p = told c.before in let h = p.order in omega arith

pub slice_bounds-result-end : goal.slice_bounds-result-end
slice_bounds-result-end c = let p = told c.before in let k = p.inside in omega arith

pub returns : goal.returns
returns c = (told c.before.before).is
