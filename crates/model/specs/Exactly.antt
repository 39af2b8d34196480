-- The tests of a set-up and of a machine say yes exactly if 01's closing list, and its "Sound" clause by clause, hold.
use Rattle.std.specs.Prelude.{◌≡◌, true}
use Rattle.model.specs.Program.{Setup, setup_ok}
use Rattle.model.specs.ClosingList.{ClosingList}
use Rattle.model.specs.World.{World}
use Rattle.model.specs.Sound.{sound}
use Rattle.model.specs.WellFormed.{WellFormed}

pub record Exactly : Type 0 where
  pub closing : (s : Setup) → setup_ok s ≡ true → ClosingList s
  pub accepted : (s : Setup) → ClosingList s → setup_ok s ≡ true
  pub formed : (w : World) → sound w ≡ true → WellFormed w
  pub sounds : (w : World) → WellFormed w → sound w ≡ true
