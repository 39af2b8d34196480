-- The set-up in words, and the words that a machine of that set-up needs in each lent slice.
use Rattle.std.specs.Prelude.{ℕ, ◌+◌, ◌*◌, List, [], ◌∷◌, ◌++◌, length, ◌==◌, slice_index, Option, Some, None}
use Rattle.lists.specs.Pick.{pick}
use Rattle.lists.specs.Chunks.{words}
use Rattle.heap.specs.Slot.{width}
use Rattle.model.specs.Program.{Setup}
use Rattle.model.specs.Sound.{row_words}
use Rattle.model.specs.declared.program.Limits.{Limits}
use Rattle.model.specs.declared.program.Costs.{Costs}
use Rattle.memory_tables.specs.Layout.{function_words, numbers_width}

-- ---- the set-up: five limits, six costs, the hook, the number of functions, then the functions

abbrev pub hook_words : Option ℕ → List ℕ
hook_words None = 0 ∷ 0 ∷ []
hook_words (Some f) = 1 ∷ f ∷ []

abbrev pub numbers_words : Setup → List ℕ
numbers_words s =
    s.limits.depth ∷ s.limits.stack ∷ s.limits.rows ∷ s.limits.slots ∷ s.limits.memory
    ∷ s.costs.frame ∷ s.costs.coro ∷ s.costs.object ∷ s.costs.int ∷ s.costs.error ∷ s.costs.iter
    ∷ (hook_words s.hook ++ (length s.functions ∷ []))

abbrev pub setup_words : Setup → List ℕ
setup_words s = numbers_words s ++ words function_words s.functions

abbrev pub limits_of : List ℕ → Limits
limits_of ws = record { depth = slice_index ws 0; stack = slice_index ws 1; rows = slice_index ws 2; slots = slice_index ws 3; memory = slice_index ws 4 }

abbrev pub costs_of : List ℕ → Costs
costs_of ws = record { frame = slice_index ws 5; coro = slice_index ws 6; object = slice_index ws 7; int = slice_index ws 8; error = slice_index ws 9; iter = slice_index ws 10 }

abbrev pub hook_of : List ℕ → Option ℕ
hook_of ws = pick (slice_index ws 11 == 0) None (Some (slice_index ws 12))

-- the number of functions
abbrev pub functions_of : List ℕ → ℕ
functions_of ws = slice_index ws 13

-- ---- the words needed

abbrev pub stack_size : Setup → ℕ
stack_size s = s.limits.stack

-- a frame below each active coroutine's floor, or none: no more active ones than frames
abbrev pub frames_size : Setup → ℕ
frames_size s = s.limits.depth * 6

abbrev pub chain_size : Setup → ℕ
chain_size s = s.limits.depth * 6

-- a row for each unfinished coroutine
abbrev pub saved_stack_size : Setup → ℕ
saved_stack_size s = s.limits.rows * row_words s

abbrev pub saved_frames_size : Setup → ℕ
saved_frames_size s = s.limits.rows * frames_size s

abbrev pub slots_size : Setup → ℕ
slots_size s = s.limits.slots * width

-- no coroutine is twice in a queue
abbrev pub queue_size : Setup → ℕ
queue_size s = s.limits.slots

abbrev pub setup_size : Setup → ℕ
setup_size s = numbers_width + length s.functions * 35
