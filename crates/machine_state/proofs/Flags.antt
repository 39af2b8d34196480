-- The fuel and the mark of a running cleanup replaced, in the numbers and in the world. Assumes nothing.
use mathlib.Core.Path.{◌≡◌, refl, sym, ap, ap₂, ◌∙◌, subst}
use mathlib.Core.Bool.{Bool, true, false, not, ◌&&◌}
use mathlib.Core.List.{List, [], ◌∷◌}
use Prim.Native.Nat.{ℕ, suc}
use native.Mathlib.Omega.{arith}
use lib.ListN.{length}
use lib.Dec.{eqb}
use borrow.Author.Tests.{ne_eqb}
use Rattle.lists.specs.Pick.{pick, pick_true, pick-false}
use Rattle.std.specs.Prelude.{Some, None}
use Rattle.model.specs.Lists.{is_nil}
use Rattle.model.specs.World.{World, with_fuel, with_finalizing}
use Rattle.model.specs.Fuel.{unbank_at, unbank, arm_at, arm_close, fuel_of, set_ready, set_finalizing}
use Rattle.model.specs.declared.machine.Fuel.{Fuel}
use Rattle.memory_world.specs.Memory.{Lent, Rep}
use Rattle.memory_world.specs.Numbers.{with_running}
use Rattle.memory_world.specs.declared.machine.Machine.{Machine}
use Rattle.memory_world.specs.declared.machine.Sizes.{Sizes}
use Rattle.memory_world.proofs.Turn.{turn-fuel, turn-finalizing}

-- ---- the fuel set aside, and taken back

pub taken_back : (f : Fuel) (n : ℕ) → f.bank ≡ Some n → fuel_of n None f.ready ≡ unbank_at f.bank f
taken_back f n e = sym (ap (λ b. unbank_at b f) e)

pub set-aside : (f : Fuel) → f.bank ≡ None → f.ready ≡ true → fuel_of 0 (Some f.fuel) f.ready ≡ arm_at f.bank f
set-aside f e r = sym (ap (λ b. arm_at b f) e ∙ ap (λ t. pick t (fuel_of 0 (Some f.fuel) f.ready) f) r ∙ pick_true _ _)

pub left_alone : (f : Fuel) → f.bank ≡ None → f.ready ≡ false → f ≡ arm_at f.bank f
left_alone f e r = sym (ap (λ b. arm_at b f) e ∙ ap (λ t. pick t (fuel_of 0 (Some f.fuel) f.ready) f) r ∙ pick-false _ _)

-- ---- numbers and worlds

-- the numbers, with the mark of a running cleanup
abbrev pub marked : Bool → Machine → Machine
marked running m = with_running running m

module _ (l : Sizes) (M : Lent) (m : Machine) (f : Fuel) (w : World) (rep : Rep l w M m f) where
  pub unbank-rep : (g : Fuel) → g ≡ unbank_at f.bank f → Rep l (unbank w) M m g
  unbank-rep g e = turn-fuel l w M m f rep g (unbank_at w.fuel.bank w.fuel) (e ∙ ap (λ h. unbank_at h.bank h) rep.fuel)

  pub arm-rep : (g : Fuel) → g ≡ arm_at f.bank f → Rep l (arm_close w) M m g
  arm-rep g e = turn-fuel l w M m f rep g (arm_at w.fuel.bank w.fuel) (e ∙ ap (λ h. arm_at h.bank h) rep.fuel)

-- a queue is empty exactly if its number is 0
nil-count : (n : ℕ) (xs : List ℕ) → n ≡ length xs → eqb n 0 ≡ is_nil xs
nil-count n [] e = ap (λ k. eqb k 0) e
nil-count n (x ∷ xs) e = ap (λ k. eqb k 0) e ∙ ne_eqb (suc (length xs)) 0 (λ z. omega arith)

pub finalizes : (l : Sizes) (M : Lent) (m : Machine) (f : Fuel) (w : World) (running ready : Bool) (n : Machine) (g : Fuel) → Rep l w M m f
    → ready ≡ (not running && not (eqb m.finalize 0)) → n ≡ marked running m → g ≡ arm_at f.bank (fuel_of f.fuel f.bank ready)
    → Rep l (set_finalizing running w) M n g
finalizes l M m f w running ready n g rep er en eg =
    let h : Fuel = fuel_of f.fuel f.bank ready in
    let same : ready ≡ (not running && not (is_nil w.finalize)) = er ∙ ap (λ b. not running && not b) (nil-count m.finalize w.finalize rep.finalize.count) in
    let told : h ≡ fuel_of w.fuel.fuel w.fuel.bank (not running && not (is_nil w.finalize)) = ap₂ (λ (x : Fuel) (b : Bool). fuel_of x.fuel x.bank b) rep.fuel same in
    subst (λ k. Rep l (set_finalizing running w) M k g) (sym en)
    (arm-rep l M (marked running m) h (set_ready (not running && not (is_nil w.finalize)) (with_finalizing running w))
    (turn-fuel l (with_finalizing running w) M (marked running m) f (turn-finalizing l w M m f rep running) h
    (fuel_of w.fuel.fuel w.fuel.bank (not running && not (is_nil w.finalize))) told) g eg)
