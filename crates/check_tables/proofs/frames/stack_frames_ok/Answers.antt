-- `stack_frames_ok` meets its contract. Assumes nothing.
use mathlib.Core.Path.{◌∙◌}
use Rattle.memory_world.specs.Decode.{setup_of}
use Rattle.check_tables.proofs.Bools.{first-fails, second-decides}
use Rattle.check_tables.proofs.Tower.{stack-frames}
use Rattle.check_tables.proofs.frames.stack_frames_ok.Goals as goal

pub returns-else-frames_over : goal.returns-else-frames_over
returns-else-frames_over c =
    let a = c.args in
    c.if-frames_over.false ∙ first-fails _ _ _ c.frames_over.result (stack-frames (setup_of a.setup.now) a.ws.now a.n a.height c.requires.inside) c.frames_over.ensures c.if-frames_over.false

pub returns-then-frames_over : goal.returns-then-frames_over
returns-then-frames_over c =
    let a = c.args in
    second-decides _ _ _ c.frames_over.result c.rest_ok.result (stack-frames (setup_of a.setup.now) a.ws.now a.n a.height c.requires.inside) c.frames_over.ensures c.if-frames_over.true c.rest_ok.ensures
