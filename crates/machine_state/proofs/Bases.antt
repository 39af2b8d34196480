-- No frame stands above the end of its words. Assumes nothing.
use mathlib.Core.Path.{◌≡◌}
use mathlib.Core.Bool.{true}
use mathlib.Core.List.{List, [], ◌∷◌}
use Prim.Native.Nat.{ℕ, zero, suc, ◌≤◌, ◌<◌}
use native.Mathlib.Omega.{arith}
use native.Mathlib.Nat.{not-suc-le-zero, le_of_suc-le-suc}
use lib.ListN.{length, get_or}
use lib.Dec.{leb}
use borrow.Author.Tests.{leb-true}
use Rattle.model.specs.Sound.{bases_ok}
use Rattle.model.specs.declared.machine.Frame.{Frame}
use Rattle.claims_sound.proofs.Tests.{and_left, and_right}

pub bases-under : (n : ℕ) (fs : List Frame) (d : Frame) → bases_ok n fs ≡ true → (i : ℕ) → i < length fs → (get_or fs i d).base ≤ n
bases-under n [] d h i k = absurd (not-suc-le-zero k)
bases-under n (f ∷ fs) d h zero k = leb-true f.base n (and_left (leb f.base n) (bases_ok f.base fs) h)
bases-under n (f ∷ fs) d h (suc i) k =
    let a = leb-true f.base n (and_left (leb f.base n) (bases_ok f.base fs) h) in
    let b = bases-under f.base fs d (and_right (leb f.base n) (bases_ok f.base fs) h) i (le_of_suc-le-suc k) in
    omega arith
