-- The machine values of what a grant takes and gives, and that they are well typed. Assumes nothing.
use mathlib.Core.List.{[], ◌∷◌, List}
use mir.Val.{Val}
use denote.Laws.{Is}
use denote.Enum.Laws as EL
use denote.Struct.Laws as LL
use Rattle.memory_world.specs.declared.machine.Machine.{Machine}
use Rattle.model.specs.declared.machine.Fuel.{Fuel}
use Rattle.model.specs.declared.call.Answer.{Answer}
use Rattle.model.specs.contracts.machine.Fuel as F
use Rattle.model.proofs.machine.Fuel.TheLaws as F'
use Rattle.memory_world.specs.contracts.machine.Machine as Mc
use Rattle.memory_world.proofs.machine.Machine.TheLaws as Mc'
use Rattle.model.specs.contracts.call.Answer as An
use Rattle.model.proofs.call.Answer.TheLaws as An'

abbrev pub fuel-val : Fuel → Val
fuel-val = LL.val F.the_type F'.the_laws

abbrev pub machine-val : Machine → Val
machine-val = LL.val Mc.the_type Mc'.the_laws

abbrev pub answer-val : Answer → Val
answer-val = EL.val An.the_type An'.the_laws

pub fuel-at : (f : Fuel) (vs : List Val) → Is F.the_row f vs → Is F.the_row f (fuel-val f ∷ [])
fuel-at f vs is = LL.owes F.the_type F'.the_laws f (LL.owed F.the_type F'.the_laws f vs is)

pub answer_at : (r : Answer) (vs : List Val) → Is An.the_row r vs → Is An.the_row r (answer-val r ∷ [])
answer_at r vs is = EL.owes An.the_type An'.the_laws r (EL.owed An.the_type An'.the_laws r vs is)
