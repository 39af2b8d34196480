-- Tests in another order. Assumes nothing.
use mathlib.Core.Path.{◌≡◌, refl}
use mathlib.Core.Bool.{Bool, true, false, ◌&&◌}

-- the first test's part that is made with the third
pub made-later : (z r a w s u : Bool) → (z && r && (a && w) && s && u) ≡ ((a && z) && r && w && s && u)
made-later z r true w s u = refl
made-later true true false w s u = refl
made-later true false false w s u = refl
made-later false r false w s u = refl
