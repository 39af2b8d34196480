-- `saved_frames_ok` meets its contract. Assumes nothing.
use mathlib.Core.Path.{◌∙◌}
use Rattle.memory_world.specs.Decode.{setup_of}
use native.Mathlib.Omega.{arith}
use Rattle.check_tables.proofs.Bools.{first-fails, second-decides}
use Rattle.check_tables.proofs.Tower.{saved-frames, no_frames}
use Rattle.check_tables.proofs.frames.saved_frames_ok.Goals as goal

pub returns-then-n-eq0 : goal.returns-then-n-eq0
returns-then-n-eq0 c = let a = c.args in no_frames (setup_of a.setup.now) a.ws.now a.n a.regs c.if-n-eq0.true

pub returns-else-frames_over : goal.returns-else-frames_over
returns-else-frames_over c =
    let a = c.args in
    c.if-frames_over.false ∙ first-fails _ _ _ c.frames_over.result (saved-frames (setup_of a.setup.now) a.ws.now a.n a.regs c.requires.inside (omega arith)) c.frames_over.ensures c.if-frames_over.false

pub returns-then-frames_over : goal.returns-then-frames_over
returns-then-frames_over c =
    let a = c.args in
    second-decides _ _ _ c.frames_over.result c.rest_ok.result (saved-frames (setup_of a.setup.now) a.ws.now a.n a.regs c.requires.inside (omega arith)) c.frames_over.ensures c.if-frames_over.true c.rest_ok.ensures
