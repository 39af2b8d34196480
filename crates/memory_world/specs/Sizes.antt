-- The set-up's numbers read from its words.
use Rattle.std.specs.Prelude.{◌≡◌, true, List, ℕ, ◌+◌, ◌*◌, ◌≤◌, length, get_or}
use Rattle.lists.specs.Parts.{pad}
use Rattle.model.specs.Program.{Setup, setup_ok}
use Rattle.memory_tables.specs.Sizes.{setup_words}
use Rattle.memory_world.specs.declared.machine.Sizes.{Sizes}
use Rattle.memory_world.specs.Words.{sizes_of}
use Rattle.memory_world.specs.Decode.{setup_of}

-- words enough for the numbers, and for as many functions as they say
pub record SetupFits (ws : List ℕ) : Type 0 where
  pub numbers : 14 ≤ length ws
  pub functions : 14 + get_or ws 13 0 * 35 ≤ length ws

-- the sizes of what the words decode to, and so of every accepted set-up that they hold
pub record SizesTold (ws : List ℕ) (sizes : Sizes) : Type 0 where
  pub words : sizes ≡ sizes_of (setup_of ws)
  pub setup : (s : Setup) → setup_ok s ≡ true → ws ≡ pad (length ws) (setup_words s) → sizes ≡ sizes_of s
