-- Lent words pass the test exactly if they stand for a sound world, with room for its set-up; and then for that one. In words that cite no test:
-- exactly if they have room, decode to a well-formed world, and are that world's words to the end of each slice.
use Rattle.std.specs.Prelude.{◌≡◌, true}
use Rattle.model.specs.World.{World}
use Rattle.model.specs.Sound.{sound}
use Rattle.model.specs.WellFormed.{WellFormed}
use Rattle.model.specs.declared.machine.Fuel.{Fuel}
use Rattle.memory_world.specs.Memory.{Lent, Rep, Room}
use Rattle.memory_world.specs.declared.machine.Machine.{Machine}
use Rattle.memory_world.specs.Words.{sizes_of, lengths_of, words_in, words_of, numbers_of}
use Rattle.memory_world.specs.Decode.{world_of}
use Rattle.memory_sound.specs.Words.{sound_words}

-- the words M, the numbers m and the fuel f stand for the sound world w, and are enough for its set-up
pub record Stands (M : Lent) (m : Machine) (f : Fuel) (w : World) : Type 0 where
  pub rep : Rep (sizes_of w.setup) w M m f
  pub sound : sound w ≡ true
  pub room : Room w.setup M

-- 01: "Sound", of lent words, numbers and fuel
pub record WellFormedWords (M : Lent) (m : Machine) (f : Fuel) : Type 0 where
  -- clause by clause, of what they decode to
  pub formed : WellFormed (world_of M m f)
  -- "lent words enough for them"
  pub room : Room (world_of M m f).setup M
  -- "words not in use are 0": each slice is the words of its table, and zeros to the end
  pub words : M ≡ words_in (lengths_of M) (world_of M m f)
  -- the counts, and an outcome in its four words
  pub numbers : m ≡ numbers_of (world_of M m f)

module _ (M : Lent) (m : Machine) (f : Fuel) where
  pub record Exactly : Type 0 where
    -- words that pass stand for what they decode to
    pub stands : sound_words M m f ≡ true → Stands M m f (world_of M m f)
    -- words that stand for some world pass
    pub passes : (w : World) → Stands M m f w → sound_words M m f ≡ true
    -- and that world is what they decode to
    pub one : (w : World) → Stands M m f w → world_of M m f ≡ w
    -- in words that cite no test
    pub formed : sound_words M m f ≡ true → WellFormedWords M m f
    pub sounds : WellFormedWords M m f → sound_words M m f ≡ true

pub record Tested : Type 0 where
  pub exactly : (M : Lent) (m : Machine) (f : Fuel) → Exactly M m f
  -- the words of every sound world pass
  pub own : (w : World) → sound w ≡ true → sound_words (words_of w) (numbers_of w) w.fuel ≡ true
