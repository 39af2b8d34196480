-- `put_frame` meets its contract: six stores are one run. Assumes nothing.
use Rattle.std.proofs.Common.{◌*◌, ◌∙◌, arith, length-set}
use Rattle.memory_tables.proofs.Padded.{six-sets}
use Rattle.memory_tables.proofs.frame.put_frame.Goals as goal

pub bounds-frames-at-2 : goal.bounds-frames-at-2
bounds-frames-at-2 c = simp length-set (omega arith)

pub bounds-frames-at-3 : goal.bounds-frames-at-3
bounds-frames-at-3 c = simp length-set (omega arith)

pub bounds-frames-at-4 : goal.bounds-frames-at-4
bounds-frames-at-4 c = simp length-set (omega arith)

pub bounds-frames-at-5 : goal.bounds-frames-at-5
bounds-frames-at-5 c = simp length-set (omega arith)

pub bounds-frames-at-6 : goal.bounds-frames-at-6
bounds-frames-at-6 c = simp length-set (omega arith)

pub returns : goal.returns
returns c =
    six-sets c.args.frames.now (c.args.i * 6) _ _ _ _ c.cont_code.result c.cont_reg.result c.requires
    ∙ rw (c.cont_code.ensures, c.cont_reg.ensures)
