-- A charge that may start a cleanup, on the world. Assumes nothing.
use mathlib.Core.Path.{◌≡◌, refl, sym, ap, ◌∙◌, subst}
use mathlib.Core.Bool.{Bool, true, false}
use mathlib.Core.List.{List, [], ◌∷◌}
use Prim.Native.Nat.{ℕ, zero, suc, ◌^◌, ◌≤◌, ◌<◌}
use native.Mathlib.Omega.{arith}
use lib.ListN.{length}
use Rattle.lists.specs.Pick.{pick, pick-false}
use Rattle.std.specs.Prelude.{Option, Some, None}
use Rattle.model.specs.World.{World, After, after, with_finalize}
use Rattle.model.specs.Frames.{store_pc}
use Rattle.model.specs.Fuel.{fuel_of, unbank_at, unbank, arm_at, set_finalizing}
use Rattle.model.specs.Cleanup.{start_from, start_finalizer, charge_done, charge_or, charge_at}
use Rattle.model.specs.Sound.{sound}
use Rattle.model.specs.declared.coro.Started.{Started}
use Rattle.model.specs.declared.machine.Charge.{Charge}
use Rattle.model.specs.declared.machine.Fuel.{Fuel}
use Rattle.claims_sound.proofs.Tests.{no_true, picked}
use Rattle.memory_world.specs.Memory.{Lent, Beside, Rep}
use Rattle.memory_world.specs.Lendings.{plain, cleaning}
use Rattle.memory_world.specs.Contract.{Ok, Does, with}
use Rattle.memory_world.specs.declared.machine.Machine.{Machine}
use Rattle.memory_world.specs.declared.machine.Sizes.{Sizes}
use Rattle.memory_world.proofs.Does.{does, ok-next}
use Rattle.machine_state.proofs.Stored.{store-sounds}
use Rattle.coro_clean.specs.Charge.{charge_ready}
use Rattle.coro_clean.proofs.Paid.{chosen, passed}
use Rattle.coro_clean.proofs.Search.{test}

-- ---- where no cleanup starts, the fuel taken back stays

unbanked : (o : Option ℕ) (f : Fuel) → f.bank ≡ o → (unbank_at o f).bank ≡ None
unbanked None f e = e
unbanked (Some n) f e = refl

-- fuel that is not set aside, and no close ready
unarmed : (o : Option ℕ) (n : ℕ) → o ≡ None → (arm_at o (fuel_of n o false)).fuel ≡ n
unarmed None n e = ap (λ (x : Fuel). x.fuel) (pick-false (fuel_of 0 (Some n) false) (fuel_of n None false))
unarmed (Some k) n e = refl

abbrev Keeps : World → After Started → Type 0
Keeps w o = o.answer.entered ≡ false → o.world.fuel.fuel ≡ w.fuel.fuel

keeps : (n : ℕ) (queue : List ℕ) (w : World) → w.fuel.bank ≡ None → Keeps w (start_from n queue w)
keeps n [] w e = λ _. unarmed w.fuel.bank w.fuel.fuel e
keeps n (c ∷ queue) w e = let next = keeps (suc n) queue w e in picked (Keeps w) (test w c queue) (λ _ z. no_true z) (λ _. next)

pub still-paid : (w : World) → (start_finalizer w).answer.entered ≡ false → (start_finalizer w).world.fuel.fuel ≡ (unbank w).fuel.fuel
unfolding start_finalizer
still-paid w e = keeps 0 w.finalize (unbank w) (unbanked w.fuel.bank w.fuel refl) e

-- ---- a cleanup, or a unit

module _ (l : Sizes) (M : Lent) (m : Machine) (f : Fuel) (w : World) (s : Started) where
  pub or-close : Rep l w M m f → s.entered ≡ true → Does l (charge_or (after w s)) M m f (Charge.Close s.taken)
  or-close rep e = does l M m f (charge_or (after w s)) w (Charge.Close s.taken) (chosen (after w (Charge.Close s.taken)) (charge_done s.taken w) s.entered e) rep

  pub or-done : (M' : Lent) (n : Machine) (g : Fuel) (a : Charge) → s.entered ≡ false → Does l (charge_done s.taken w) M' n g a → Does l (charge_or (after w s)) M' n g a
  or-done M' n g a e d = subst (λ o. Does l o M' n g a) (sym (passed (after w (Charge.Close s.taken)) (charge_done s.taken w) s.entered e)) d

module _ (l : Sizes) (M : Lent) (m : Machine) (g : Fuel) (pc : ℕ) (w : World) (a : Charge) where
  -- after the search
  pub sought : (s : Started) → s ≡ (start_finalizer (store_pc pc w)).answer → Does l (charge_or (after (start_finalizer (store_pc pc w)).world s)) M m g a → Does l (charge_ready pc w) M m g a
  sought s e d = subst (λ z. Does l (charge_or (after (start_finalizer (store_pc pc w)).world z)) M m g a) e d

  pub at_ready : w.fuel.ready ≡ true → Does l (charge_ready pc w) M m g a → Does l (charge_at (Some pc) w) M m g a
  at_ready e d = subst (λ o. Does l o M m g a) (sym (chosen (charge_ready pc w) (charge_done 0 w) w.fuel.ready e)) d

  pub at-idle : w.fuel.ready ≡ false → Does l (charge_done 0 w) M m g a → Does l (charge_at (Some pc) w) M m g a
  at-idle e d = subst (λ o. Does l o M m g a) (sym (passed (charge_ready pc w) (charge_done 0 w) w.fuel.ready e)) d

-- a unit is there where no cleanup has started
pub unit_left : (l : Sizes) (M : Lent) (m : Machine) (f f' : Fuel) (w : World) (s : Started) → f' ≡ w.fuel → Does l (start_finalizer w) M m f s → 1 ≤ (unbank_at f'.bank f').fuel
    → s.entered ≡ false → 1 ≤ f.fuel
unit_left l M m f f' w s e d h n =
    let a : f.fuel ≡ (start_finalizer w).world.fuel.fuel = ap (λ (x : Fuel). x.fuel) d.world.fuel in
    let b = still-paid w (sym (ap (λ (x : Started). x.entered) d.answer) ∙ n) in
    let c : (unbank_at f'.bank f').fuel ≡ (unbank w).fuel.fuel = ap (λ (x : Fuel). (unbank_at x.bank x).fuel) e in
    omega arith

-- fuel taken back, and some: so it is when it is taken back once more
pub paid-again : (f g : Fuel) → g ≡ unbank_at f.bank f → (g.fuel ≡ 0 → ⊥) → 1 ≤ (unbank_at g.bank g).fuel
paid-again f g e n =
    let none : g.bank ≡ None = ap (λ (x : Fuel). x.bank) e ∙ unbanked f.bank f refl in
    let same : (unbank_at g.bank g).fuel ≡ g.fuel = ap (λ o. (unbank_at o g).fuel) none in
    some (unbank_at g.bank g).fuel (λ z. n (sym same ∙ z))
  where
    some : (k : ℕ) → (k ≡ 0 → ⊥) → 1 ≤ k
    some zero h = absurd (h refl)
    some (suc k) h = omega arith

-- ---- a pc stored

module _ (l : Sizes) (m : Machine) (f : Fuel) (stack frames chain slots saved_stack saved_frames finalize : List ℕ) where
  pub stored_ok : (frames' : List ℕ) (pc : ℕ) → length frames' ≡ length frames → pc < 2 ^ 32
      → (o : Ok l (cleaning stack frames chain slots saved_stack saved_frames finalize plain) (with m f))
      → Rep l (store_pc pc o.world) (cleaning stack frames' chain slots saved_stack saved_frames finalize plain o.beside) m f
      → Ok l (cleaning stack frames' chain slots saved_stack saved_frames finalize plain) (with m f)
  stored_ok frames' pc e h o rep =
      ok-next l _ (cleaning stack frames' chain slots saved_stack saved_frames finalize plain) (with m f) (with m f) o (store_pc pc o.world) refl (store-sounds pc o.world h o.sound)
      (record { stack = refl; frames = e; chain = refl; slots = refl; saved_stack = refl; saved_frames = refl; ready = refl; finalize = refl; setup = refl }) rep
