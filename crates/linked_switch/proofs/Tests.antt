-- A list of tests fails where one does. Assumes nothing.
use mathlib.Core.Path.{◌≡◌, refl}
use mathlib.Core.Bool.{Bool, true, false}
use mathlib.Core.List.{List, [], ◌∷◌}
use Prim.Native.Nat.{ℕ, zero, suc}
use lib.ListN.{get_or}
use Rattle.claims_sound.proofs.Tests.{no_true}
use Rattle.linked_switch.specs.Words.{all}

pub fails : (ts : List Bool) (n : ℕ) → get_or ts n true ≡ false → all ts ≡ false
fails [] n e = no_true e
fails (true ∷ ts) zero e = no_true e
fails (true ∷ ts) (suc n) e = fails ts n e
fails (false ∷ ts) n e = refl
