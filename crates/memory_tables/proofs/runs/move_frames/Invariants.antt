-- `move_frames` meets its contract: after j turns j frames are moved. Assumes nothing.
use Rattle.std.proofs.Common.{◌≡◌, ◌*◌, length, replicate}
use Rattle.lists.specs.Parts.{part, splice}
use Rattle.memory_tables.specs.Runs.{rebase, between}
use Rattle.memory_tables.proofs.runs.move_frames.Given as goal

abbrev pub invariant-loop-j : goal.invariant-loop-j
invariant-loop-j l =
    (length l.dst ≡ length l.initial.dst) × (length l.src ≡ length l.initial.src)
    × (l.dst ≡ rebase (between l.old l.new) l.j l.at (splice l.initial.dst l.at (part l.from (l.j * 6) l.initial.src))) × (l.src ≡ splice l.initial.src l.from (replicate (l.j * 6) 0))
