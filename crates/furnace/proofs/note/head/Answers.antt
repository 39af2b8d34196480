-- `head` meets its contract: three stores. Assumes nothing.
use Rattle.std.proofs.Common.{arith, length-set, rules}
use Rattle.furnace.proofs.note.head.Goals as goal

pub bounds-notes-at-2 : goal.bounds-notes-at-2
bounds-notes-at-2 c = let h = c.requires in simp length-set (omega arith)

pub bounds-notes-at-3 : goal.bounds-notes-at-3
bounds-notes-at-3 c = let h = c.requires in simp length-set (omega arith)

pub shape_of-notes : goal.shape_of-notes
shape_of-notes c = simp length-set (search rules)
