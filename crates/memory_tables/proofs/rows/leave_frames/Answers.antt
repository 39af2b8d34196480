-- `leave_frames` meets its contract: one move, the bases lowered. Assumes nothing.
use Rattle.std.proofs.Common.{refl}
use Rattle.memory_tables.proofs.Switch.{leave-asks, leaves-frames}
use Rattle.memory_tables.proofs.rows.leave_frames.Goals as goal

pub move_frames-requires : goal.move_frames-requires
move_frames-requires c =
    let a = c.args in
    leave-asks a.frames.now a.saved.now a.depth a.floor a.by a.at c.requires (λ i. (c.slice_known-1.given i).fits)

pub returns : goal.returns
returns c =
    let a = c.args in
    let m = c.move_frames in
    leaves-frames a.frames.now a.saved.now _ m.new.dst m.new.src a.depth a.floor a.by a.at c.requires
    (record { there = refl; here = m.ensures.1 }) m.ensures.0
