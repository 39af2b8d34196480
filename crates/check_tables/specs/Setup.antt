-- The set-up's words: 01's closing list, number by number and function by function.
use Rattle.std.specs.Prelude.{ℕ, ◌+◌, ◌-◌, ◌*◌, Bool, ◌&&◌, ◌||◌, List, length, get_or, eqb, leb}
use Rattle.lists.specs.Parts.{part}
use Rattle.lists.specs.Tests.{all_below, zeros}
use Rattle.model.specs.Program.{between, limits_ok, costs_ok, handler_ok, hook_ok}
use Rattle.memory_tables.specs.Layout.{handler_from}
use Rattle.memory_tables.specs.Sizes.{limits_of, costs_of, hook_of}
use Rattle.memory_world.specs.Decode.{setup_of}
use Rattle.memory_sound.specs.Words.{rest_ok}

-- the n handlers from word at on
abbrev pub handlers_test : List ℕ → ℕ → ℕ → ℕ → Bool
handlers_test ws at n regs = all_below n (λ j. handler_ok regs (handler_from ws (at + j * 4)))

-- the function in the 35 words from index at; the words of handlers that it has not are 0
abbrev pub function_test : List ℕ → ℕ → Bool
function_test ws at =
    leb (get_or ws at 0) 256 && leb (get_or ws (at + 1) 0) (get_or ws at 0) && leb (get_or ws (at + 2) 0) 8
    && handlers_test ws (at + 3) (get_or ws (at + 2) 0) (get_or ws at 0) && zeros (part (at + 3 + get_or ws (at + 2) 0 * 4) (32 - get_or ws (at + 2) 0 * 4) ws)

-- the hook: 1 and a function, or 0 and 0
abbrev pub hook_test : List ℕ → Bool
hook_test ws = (eqb (get_or ws 11 0) 1 || eqb (get_or ws 11 0) 0 && eqb (get_or ws 12 0) 0) && hook_ok (setup_of ws) (hook_of ws)

-- words enough for the numbers and the functions that they announce
abbrev pub long_test : List ℕ → Bool
long_test ws = leb 14 (length ws) && between 1 32 (get_or ws 13 0) && leb (14 + get_or ws 13 0 * 35) (length ws)

abbrev pub setup_test : List ℕ → Bool
setup_test ws =
    long_test ws && limits_ok (limits_of ws) && costs_ok (costs_of ws) && leb (get_or ws 13 0) (get_or ws 3 0)
    && all_below (get_or ws 13 0) (λ i. function_test ws (14 + i * 35)) && hook_test ws && rest_ok ws (14 + get_or ws 13 0 * 35)
