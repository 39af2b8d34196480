-- `push_frame` meets its contract: a record more. Assumes nothing.
use Rattle.std.proofs.Common.{◌+◌, ◌∷◌, sym, subst}
use Rattle.model.specs.Frames.{frame}
use Rattle.memory_tables.specs.Layout.{frame_words}
use Rattle.memory_tables.specs.Parts.{Frames}
use Rattle.memory_tables.proofs.Codes.{length-frame}
use Rattle.memory_tables.proofs.Doing.{pushes}
use Rattle.memory_tables.proofs.frames.push_frame.Goals as goal

pub returns : goal.returns
returns c =
    let a = c.args in
    let f = frame a.func a.base a.closure a.cont in
    λ fs p. subst (λ ws. Frames (f ∷ fs) ws (a.depth + 1)) (sym c.put_frame.ensures) (pushes frame_words length-frame a.frames.now a.depth f fs c.requires p)
