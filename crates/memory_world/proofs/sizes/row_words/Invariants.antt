-- `row_words` meets its contract: what is left of the functions, with what was found, gives the whole. Assumes nothing.
use mathlib.Core.Path.{◌≡◌}
use Prim.Native.Nat.{◌-◌, max}
use Rattle.model.specs.Sound.{row_words}
use Rattle.memory_world.specs.Decode.{setup_of}
use Rattle.memory_world.proofs.Widest.{widest_in}
use Rattle.memory_world.proofs.sizes.row_words.Given as goal

abbrev pub invariant-loop-i : goal.invariant-loop-i
invariant-loop-i l = max l.most (widest_in l.setup l.i (l.n - l.i)) ≡ row_words (setup_of l.setup)
