-- Four stores from index 0 on are one run of words, of which the last three are told by an equation. Assumes nothing.
use mathlib.Core.Path.{◌≡◌, ap, ◌∙◌}
use mathlib.Core.List.{List, [], ◌∷◌}
use Prim.Native.Nat.{ℕ, ◌≤◌}
use lib.ListN.{length, set}
use Rattle.lists.specs.Parts.{splice}
use Rattle.memory_tables.proofs.Padded.{sets-splice}

pub four : (ws zs : List ℕ) (a b c d : ℕ) → 4 ≤ length ws → b ∷ c ∷ d ∷ [] ≡ zs → set (set (set (set ws 0 a) 1 b) 2 c) 3 d ≡ splice ws 0 (a ∷ zs)
four ws zs a b c d h e = sets-splice ws (a ∷ b ∷ c ∷ d ∷ []) 0 h ∙ ap (λ (y : List ℕ). splice ws 0 (a ∷ y)) e
