-- What an accepted set-up leaves, field by field: no rule of the machine is cited. The test of a set-up is 01's closing list, and the machine
-- that it leaves is this (`SetUps`).
use Rattle.std.specs.Prelude.{ℕ, suc, ◌≡◌, true, false, List, [], ◌∷◌, None}
use Rattle.heap.specs.Table.{Slot}
use Rattle.model.specs.Program.{Func, Setup, setup_ok}
use Rattle.model.specs.ClosingList.{ClosingList}
use Rattle.model.specs.Object.{Object}
use Rattle.model.specs.World as World
use Rattle.model.specs.World.{World}

-- "each a function object, slots from 0"
abbrev pub Objects : ℕ → List Func → List (Slot Object) → Type 0
Objects n [] [] = Unit {0}
Objects n [] (x ∷ xs) = ⊥
Objects n (f ∷ fs) [] = ⊥
Objects n (f ∷ fs) (x ∷ xs) = (x.tag ≡ 0) × (x.object ≡ Object.Func n) × Objects (suc n) fs xs

-- nothing has happened yet: "Set-up (fuel 0)"; functions are "uncharged"
pub record Fresh (s : Setup) (w : World) : Type 0 where
  pub setup : w.setup ≡ s
  pub stack : w.stack ≡ []
  pub frames : w.frames ≡ []
  pub chain : w.chain ≡ []
  pub slots : Objects 0 s.functions w.slots
  pub ready : w.ready ≡ []
  pub finalize : w.finalize ≡ []
  pub finalizing : w.finalizing ≡ false
  pub outcome : w.outcome ≡ None
  pub used : w.used ≡ 0
  pub seq : w.seq ≡ 0
  pub fuel : w.fuel.fuel ≡ 0
  pub bank : w.fuel.bank ≡ None
  pub cleanups : w.fuel.ready ≡ false

pub record SetUps : Type 0 where
  pub allowed : (s : Setup) → setup_ok s ≡ true → ClosingList s
  pub accepted : (s : Setup) → ClosingList s → setup_ok s ≡ true
  pub fresh : (s : Setup) → Fresh s (World.fresh s)
