-- The catch registers of handlers in words.
use Rattle.std.specs.Prelude.{ℕ, ◌+◌, ◌*◌, ◌≤◌, ◌<◌, List, length, get_or}

-- n handlers from word at on, with catch registers of some function
pub record CatchFits (ws : List ℕ) (at n : ℕ) : Type 0 where
  pub few : n ≤ 8
  pub inside : at + n * 4 ≤ length ws
  pub small : (j : ℕ) → j < n → get_or ws (at + j * 4 + 3) 0 < 256
