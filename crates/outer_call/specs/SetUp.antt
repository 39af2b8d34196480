-- A fresh machine in lent slices.
use Rattle.std.specs.Prelude.{List, ℕ}
use Rattle.model.specs.World.{fresh}
use Rattle.model.specs.declared.call.Answer.{Answer}
use Rattle.memory_world.specs.Memory.{Lent}
use Rattle.memory_world.specs.Words.{Lengths, lengths_of}
use Rattle.memory_world.specs.Decode.{setup_of}
use Rattle.memory_step.specs.Step.{Left, left, state_in}

-- nine lengths, in the order of the slices
abbrev pub lengths : ℕ → ℕ → ℕ → ℕ → ℕ → ℕ → ℕ → ℕ → ℕ → Lengths
lengths s f c o r q a z u = record { stack = s; frames = f; chain = c; slots = o; saved_stack = r; saved_frames = q; ready = a; finalize = z; setup = u }

-- of the words given, in slices as long as these
abbrev pub begins : Lent → List ℕ → Left
begins M given = left (state_in (lengths_of M) (fresh (setup_of given))) Answer.Accepted
