-- What equal answers hold. Assumes nothing.
use mathlib.Core.Path.{◌≡◌}
use Rattle.std.specs.Prelude.{Some, Result, Ok}

module _ {A : Type 0} where
  pub some-same : {x y : A} → Some x ≡ Some y → x ≡ y
  some-same e = cc

  pub ok-same : {E : Type 0} {x y : A} → ◌≡◌ {A = Result A E} (Ok x) (Ok y) → x ≡ y
  ok-same e = cc
