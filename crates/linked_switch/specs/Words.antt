-- A machine in 25 words (docs/ABI.md), of which a switch changes three; its fuel in four; a coroutine's record in its slot.
use Rattle.std.specs.Prelude.{◌≡◌, Bool, true, ◌&&◌, List, [], ◌∷◌, ℕ, set}
use Rattle.lists.specs.Parts.{splice}
use Rattle.heap.specs.Heap.{coro_in}
use Rattle.heap.specs.declared.object.CoroObj.{CoroObj}
use Rattle.memory_world.specs.declared.machine.Machine.{Machine}
use Rattle.linked_calls.specs.Words.{machine_in, machine_words, fuel_in, fuel_words}

-- the numbers that a switch changes
abbrev pub entered_over : Machine → List ℕ → List ℕ
entered_over m ws = set (set (set ws 0 m.height) 1 m.depth) 2 m.active

-- the words are now those of the numbers that they tell; those after them are as they were
abbrev pub Numbers : List ℕ → List ℕ → Type 0
Numbers ms ms' = ms' ≡ splice ms 0 (machine_words (machine_in ms'))

abbrev pub Fuelled : List ℕ → List ℕ → Type 0
Fuelled fs fs' = fs' ≡ splice fs 0 (fuel_words (fuel_in fs'))

-- the record of the coroutine in slot i
abbrev pub record_at : List ℕ → ℕ → CoroObj
record_at slots i = coro_in slots i

-- every test is passed
abbrev pub all : List Bool → Bool
all [] = true
all (t ∷ ts) = t && all ts
