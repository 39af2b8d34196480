-- `enter_frames` meets its contract: one move, the bases raised. Assumes nothing.
use Rattle.std.proofs.Common.{refl}
use Rattle.memory_tables.proofs.Switch.{enter-asks, enters-frames}
use Rattle.memory_tables.proofs.rows.enter_frames.Goals as goal

pub move_frames-requires : goal.move_frames-requires
move_frames-requires c =
    let a = c.args in
    enter-asks a.frames.now a.saved.now a.depth a.at a.n a.by c.requires

pub returns : goal.returns
returns c =
    let a = c.args in
    let m = c.move_frames in
    enters-frames a.frames.now a.saved.now _ m.new.src m.new.dst a.depth a.at a.n a.by c.requires
    (record { there = refl; here = m.ensures.1 }) m.ensures.0
