-- A machine in words, by computation: 01's P1, where a caller of one frame holds a coroutine that is suspended with two.
use Rattle.std.specs.Prelude.{◌≡◌, refl, [], ◌∷◌, take}
use Rattle.lists.specs.Parts.{part}
use Rattle.heap.specs.Word.{reference}
use Rattle.model.specs.World.{fresh}
use Rattle.model.specs.Compute.{computed}
use Rattle.model.specs.Example.{example, reached}
use Rattle.model.specs.Examples.{two_frames}
use Rattle.memory_world.specs.Memory.{Lent}
use Rattle.memory_world.specs.Words.{words_of}

-- the words after P1's first calls
abbrev sample : Lent
sample = words_of (reached two_frames)

-- the coroutine's word in the caller's first register
pub stack-words : take 3 sample.stack ≡ reference 6 0 ∷ 0 ∷ 0 ∷ []
unfolding computed
stack-words = refl

-- the caller's frame: function 1 at pc 3, base 0
pub frames-words : take 12 sample.frames ≡ 1 ∷ 3 ∷ 0 ∷ 0 ∷ 0 ∷ 0 ∷ 0 ∷ 0 ∷ 0 ∷ 0 ∷ 0 ∷ 0 ∷ []
unfolding computed
frames-words = refl

-- its slot, the seventh: a coroutine, Yielded, that has row 0 with two registers and two frames
pub slot-words : part 120 14 sample.slots ≡ 0 ∷ 6 ∷ 2 ∷ 0 ∷ 0 ∷ 0 ∷ 0 ∷ 0 ∷ 2 ∷ 2 ∷ 2 ∷ 2 ∷ 0 ∷ 0 ∷ []
unfolding computed
slot-words = refl

-- its row: the Coro frame at base 0 and pc 7, the frame over it at base 1 and pc 8, and zeros
pub row_words : take 18 sample.saved_frames ≡ 0 ∷ 7 ∷ 0 ∷ 0 ∷ 5 ∷ 0 ∷ 0 ∷ 8 ∷ 1 ∷ 0 ∷ 4 ∷ 0 ∷ 0 ∷ 0 ∷ 0 ∷ 0 ∷ 0 ∷ 0 ∷ []
unfolding computed
row_words = refl

-- the set-up's numbers, and its first function: one register, no parameter, no handler
pub setup-words : take 17 (words_of (fresh example)).setup ≡ 4 ∷ 10 ∷ 4 ∷ 16 ∷ 4096 ∷ 32 ∷ 104 ∷ 160 ∷ 56 ∷ 56 ∷ 112 ∷ 0 ∷ 0 ∷ 6 ∷ 1 ∷ 0 ∷ 0 ∷ []
setup-words = refl
