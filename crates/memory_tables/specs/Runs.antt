-- Runs of words moved between lent slices.
use Rattle.std.specs.Prelude.{◌≡◌, ℕ, zero, suc, ◌+◌, ◌-◌, ◌*◌, ◌^◌, ◌<◌, ◌≤◌, List, ◌++◌, length, drop, replicate, slice_index, slice_set}
use Rattle.lists.specs.Parts.{part, splice}

-- n words moved, and 0 where they were
pub record Moved (dst src dst' src' : List ℕ) (at from n : ℕ) : Type 0 where
  pub there : dst' ≡ splice dst at (part from n src)
  pub here : src' ≡ splice src from (replicate n 0)

-- the n words from index `from` on moved to the front; those after the first n are as they were
abbrev pub lowered : ℕ → ℕ → List ℕ → List ℕ
lowered from n ws = part from n ws ++ drop n ws

-- the bases of n frames from word at on, each changed by g
abbrev pub rebase : (ℕ → ℕ) → ℕ → ℕ → List ℕ → List ℕ
rebase g zero at ws = ws
rebase g (suc n) at ws = slice_set (rebase g n at ws) (at + n * 6 + 2) (g (slice_index ws (at + n * 6 + 2)))

-- from one height to another
abbrev pub between : ℕ → ℕ → ℕ → ℕ
between old new b = b - old + new

pub record RebaseFits (ws : List ℕ) (at n old new : ℕ) : Type 0 where
  pub inside : at + n * 6 ≤ length ws
  pub above : (j : ℕ) → j < n → old ≤ slice_index ws (at + j * 6 + 2)
  pub fits : (j : ℕ) → j < n → slice_index ws (at + j * 6 + 2) - old + new < 2 ^ 64
