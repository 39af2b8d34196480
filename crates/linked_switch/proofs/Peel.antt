-- A list that is long enough begins with an element. Assumes nothing.
use mathlib.Core.List.{List, [], ◌∷◌}
use Prim.Native.Nat.{ℕ, suc, ◌≤◌}
use native.Mathlib.Nat.{not-suc-le-zero, le_of_suc-le-suc}
use lib.ListN.{length}

pub peel : (P : List ℕ → Type 0) (n : ℕ) (ws : List ℕ) → suc n ≤ length ws → ((x : ℕ) (xs : List ℕ) → n ≤ length xs → P (x ∷ xs)) → P ws
peel P n [] h k = absurd (not-suc-le-zero h)
peel P n (x ∷ xs) h k = k x xs (le_of_suc-le-suc h)
