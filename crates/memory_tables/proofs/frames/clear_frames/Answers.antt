-- `clear_frames` meets its contract: the words in use become 0. Assumes nothing.
use Rattle.memory_tables.specs.Layout.{frame_words}
use Rattle.memory_tables.proofs.Codes.{length-frame}
use Rattle.memory_tables.proofs.Tops.{clears}
use Rattle.memory_tables.proofs.frames.clear_frames.Goals as goal

pub returns : goal.returns
returns c =
    let begin = c.args in
    clears frame_words length-frame begin.frames.now c.clear_part.new.ws begin.depth c.clear_part.ensures
