-- A unit of fuel is paid, or there is none: what each outcome of a charge leaves. Assumes nothing.
use mathlib.Core.Path.{◌≡◌, refl, sym, ap, ◌∙◌, subst}
use mathlib.Core.Bool.{Bool, true, false}
use Prim.Native.Nat.{ℕ}
use lib.Dec.{eqb}
use borrow.Author.Tests.{eq-eqb, ne_eqb}
use Rattle.lists.specs.Pick.{pick, pick_true, pick-false}
use Rattle.std.specs.Prelude.{Option}
use Rattle.model.specs.World.{World, After, after}
use Rattle.model.specs.Fuel.{unbank_at, unbank, arm_at, arm_close, spend}
use Rattle.model.specs.Cleanup.{charge_done, charge_at, charge_slow, charge}
use Rattle.model.specs.declared.machine.Charge.{Charge}
use Rattle.model.specs.declared.machine.Fuel.{Fuel}
use Rattle.memory_world.specs.Memory.{Lent, Rep}
use Rattle.memory_world.specs.Contract.{Does}
use Rattle.memory_world.specs.declared.machine.Machine.{Machine}
use Rattle.memory_world.specs.declared.machine.Sizes.{Sizes}
use Rattle.memory_world.proofs.Does.{does}
use Rattle.memory_world.proofs.Turn.{turn-fuel}
use Rattle.machine_state.proofs.Flags.{unbank-rep, arm-rep}
use Rattle.coro_clean.specs.Charge.{spent}

-- a choice by a test that is known
pub chosen : {A : Type 0} (x y : A) (b : Bool) → b ≡ true → pick b x y ≡ x
chosen x y b e = ap (λ t. pick t x y) e ∙ pick_true x y

pub passed : {A : Type 0} (x y : A) (b : Bool) → b ≡ false → pick b x y ≡ y
passed x y b e = ap (λ t. pick t x y) e ∙ pick-false x y

module _ (l : Sizes) (M : Lent) (m : Machine) (f : Fuel) (w : World) (rep : Rep l w M m f) where
  pub spend-rep : (g : Fuel) → g ≡ spent f → Rep l (spend w) M m g
  spend-rep g e = turn-fuel l w M m f rep g (spent w.fuel) (e ∙ ap spent rep.fuel)

  pub done-does : (g h : Fuel) (taken : ℕ) → g ≡ spent f → h ≡ arm_at g.bank g → Does l (charge_done taken w) M m h (Charge.Done taken)
  done-does g h taken e a = record { world = arm-rep l M m g (spend w) (spend-rep g e) h a; answer = refl }

  -- ---- fuel in hand, and none

  pub charge-fast : (pc : Option ℕ) (g : Fuel) → (f.fuel ≡ 0 → ⊥) → g ≡ spent f → Does l (charge pc w) M m g (Charge.Done 0)
  unfolding charge
  charge-fast pc g n e =
      does l M m g (charge pc w) (spend w) (Charge.Done 0)
      (passed (charge_slow pc w) (after (spend w) (Charge.Done 0)) (eqb w.fuel.fuel 0) (ap (λ x. eqb x.fuel 0) (sym rep.fuel) ∙ ne_eqb f.fuel 0 n)) (spend-rep g e)

  pub charge-slow : (pc : Option ℕ) (M' : Lent) (n : Machine) (g : Fuel) (a : Charge) → f.fuel ≡ 0 → Does l (charge_slow pc w) M' n g a → Does l (charge pc w) M' n g a
  unfolding charge
  charge-slow pc M' n g a e d =
      subst (λ o. Does l o M' n g a)
      (sym (chosen (charge_slow pc w) (after (spend w) (Charge.Done 0)) (eqb w.fuel.fuel 0) (ap (λ x. eqb x.fuel 0) (sym rep.fuel) ∙ eq-eqb f.fuel 0 e))) d

  -- ---- the fuel set aside is taken back

  module _ (g : Fuel) (back : g ≡ unbank_at f.bank f) where
    pub back-rep : Rep l (unbank w) M m g
    back-rep = unbank-rep l M m f w rep g back

    pub slow-spent : (pc : Option ℕ) → g.fuel ≡ 0 → Does l (charge_slow pc w) M m g Charge.Spent
    unfolding charge_slow
    slow-spent pc e =
        does l M m g (charge_slow pc w) (unbank w) Charge.Spent
        (chosen (after (unbank w) Charge.Spent) (charge_at pc (unbank w)) (eqb (unbank w).fuel.fuel 0) (ap (λ x. eqb x.fuel 0) (sym back-rep.fuel) ∙ eq-eqb g.fuel 0 e)) back-rep

    pub slow-paid : (pc : Option ℕ) (M' : Lent) (n : Machine) (h : Fuel) (a : Charge) → (g.fuel ≡ 0 → ⊥) → Does l (charge_at pc (unbank w)) M' n h a → Does l (charge_slow pc w) M' n h a
    unfolding charge_slow
    slow-paid pc M' n h a k d =
        subst (λ o. Does l o M' n h a)
        (sym (passed (after (unbank w) Charge.Spent) (charge_at pc (unbank w)) (eqb (unbank w).fuel.fuel 0) (ap (λ x. eqb x.fuel 0) (sym back-rep.fuel) ∙ ne_eqb g.fuel 0 k))) d
