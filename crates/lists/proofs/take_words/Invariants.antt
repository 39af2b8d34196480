-- `take_words` meets its contract: after a turn at i the first i words are taken, two in a turn, and one is left or none. Assumes nothing.
use Prim.Native.Nat.{◌≤◌, ◌-◌}
use mathlib.Core.Path.{◌≡◌}
use mathlib.Core.List.{◌++◌}
use lib.ListN.{length, take, drop, replicate}
use Rattle.lists.proofs.take_words.Given as goal

abbrev pub invariant-loop-dst : goal.invariant-loop-dst
invariant-loop-dst l =
    (l.i ≤ length l.initial.dst) × (length l.dst ≡ length l.initial.dst) × (length l.src ≡ length l.initial.src)
    × (l.dst ≡ take l.i l.initial.src ++ drop l.i l.initial.dst) × (l.src ≡ replicate l.i 0 ++ drop l.i l.initial.src)

abbrev pub decreases-loop-dst : goal.decreases-loop-dst
decreases-loop-dst l = length l.initial.dst - l.i
