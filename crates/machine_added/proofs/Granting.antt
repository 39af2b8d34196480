-- Grant and take outcome on the numbers. Assumes nothing.
use mathlib.Core.Path.{◌≡◌, sym, ap, ◌∙◌, subst}
use Prim.Native.Nat.{ℕ, ◌+◌, ◌^◌, ◌≤◌, ◌<◌}
use borrow.Author.Tests.{le-leb, lt-leb}
use Rattle.heap.specs.declared.fault.Fault.{Fault}
use Rattle.model.specs.World.{World, with_fuel}
use Rattle.model.specs.Added.{reserve, refuel, grant, take_outcome}
use Rattle.model.specs.declared.call.Answer.{Answer}
use Rattle.model.specs.declared.machine.Fuel.{Fuel}
use Rattle.std.specs.Prelude.{Option, None}
use Rattle.model.specs.declared.machine.Stop.{Stop}
use Rattle.memory_world.specs.Told.{told, outcome_in}
use Rattle.memory_world.specs.Memory.{Lent, Rep}
use Rattle.memory_world.specs.Contract.{Does}
use Rattle.memory_world.specs.declared.machine.Machine.{Machine}
use Rattle.memory_world.specs.declared.machine.Sizes.{Sizes}
use Rattle.memory_world.proofs.Does.{does}
use Rattle.memory_world.proofs.Turn.{turn-fuel, turn-outcome}
use Rattle.memory_world.proofs.Told.{told_back}
use Rattle.machine_state.proofs.Frames.{chosen, passed}
use Rattle.machine_added.specs.Outcome.{untold}

module _ (l : Sizes) (M : Lent) (m : Machine) (f : Fuel) (w : World) (rep : Rep l w M m f) (n : ℕ) where
  had : reserve w.fuel.bank w.fuel ≡ reserve f.bank f
  had = ap (λ (g : Fuel). reserve g.bank g) (sym rep.fuel)

  pub too_large : 2 ^ 64 ≤ reserve f.bank f + n → Does l (grant n w) M m f (Answer.Refused Fault.GrantTooLarge)
  unfolding grant
  too_large h =
      does l M m f (grant n w) w (Answer.Refused Fault.GrantTooLarge)
      (chosen _ _ _ (le-leb (2 ^ 64) _ (subst (λ k. 2 ^ 64 ≤ k + n) (sym had) h))) rep

  pub granted : (g : Fuel) → g ≡ refuel f.bank (reserve f.bank f + n) f → reserve f.bank f + n < 2 ^ 64 → Does l (grant n w) M m g Answer.Accepted
  unfolding grant
  granted g e h =
      let u : Fuel = refuel w.fuel.bank (reserve w.fuel.bank w.fuel + n) w.fuel in
      does l M m g (grant n w) (with_fuel u w) Answer.Accepted
      (passed _ _ _ (lt-leb (2 ^ 64) _ (subst (λ k. k + n < 2 ^ 64) (sym had) h)))
      (turn-fuel l w M m f rep g u (e ∙ ap (λ (x : Fuel). refuel x.bank (reserve x.bank x + n) x) rep.fuel))

-- ---- the outcome

pub taken : (l : Sizes) (M : Lent) (m n : Machine) (f : Fuel) (w : World) (o : Option Stop) → Rep l w M m f → n ≡ untold m → o ≡ outcome_in m.outcome → Does l (take_outcome w) M n f (Answer.Took o)
unfolding take_outcome
taken l M m n f w o rep e q =
    subst (λ k. Does l (take_outcome w) M k f (Answer.Took o)) (sym e)
    (record { world = turn-outcome l w M m f rep None; answer = ap Answer.Took (q ∙ ap outcome_in rep.outcome ∙ told_back w.outcome) })
