-- The lists of calls in which every premise of demand 3 holds, by computation. Assumes nothing.
use Prim.Native.Nat.{ℕ}
use mathlib.Core.Path.{◌≡◌, refl}
use mathlib.Core.Bool.{true}
use mathlib.Core.List.{List}
use Rattle.model.specs.Call.{Call}
use Rattle.model.specs.Compute.{computed}
use Rattle.claims_model.specs.Premises.{Holds}
use Rattle.claims_model.specs.Steps.{steps}
use Rattle.claims_model.specs.Witness.{nth, between, world_before, meets_in, Witness}
use Rattle.claims_model.proofs.Premises.{premises-hold}
use Rattle.claims_model.proofs.Exactly.{demand3}

-- the claim's conclusions, where the premises are met
pub meets-holds : (before ks : List Call) (i j l v : ℕ) → meets_in before ks i j l v ≡ true → Holds steps v (world_before before ks i) (nth ks i) (between ks i j) (nth ks j) (between ks j l) (nth ks l)
meets-holds before ks i j l v = premises-hold steps demand3 v (world_before before ks i) (nth ks i) (between ks i j) (nth ks j) (between ks j l) (nth ks l)

pub witness : Witness
unfolding computed
witness =
    record {
      accepted = refl;
      deep-meets = refl;
      nested-inner = refl;
      nested-outer = refl;
      loop-awaits = refl;
      loop-resumed = refl;
      loop-turns = refl;
      loop-ends = refl;
      host-meets = refl;
      ignoring-meets = refl;
      awaiting-meets = refl;
      cleaning-meets = refl;
      operand-meets = refl;
      catching-meets = refl;
      through-meets = refl;
      twice_meets = refl;
      held-meets = refl;
      refuelled-meets = refl;
      stopped-meets = refl;
      yielding-meets = refl;
      pair-first = refl;
      pair-second = refl;
      deep-numbers = refl;
      nested-numbers = refl;
      loop-numbers = refl;
      host-numbers = refl;
      ignoring-numbers = refl;
      awaiting-numbers = refl;
      cleaning-numbers = refl;
      operand-numbers = refl;
      catching-numbers = refl;
      through-numbers = refl;
      held-numbers = refl;
      stopped-numbers = refl;
      yielding-numbers = refl;
      pair-numbers = refl;
      found-stack = refl;
      found-frames = refl;
      back-stack = refl;
      back-frames = refl;
      left-stack = refl;
      left-frames = refl;
      wraps = refl;
      inner-fails = refl;
      outer-returns = refl;
      has-is-one = refl;
    }
