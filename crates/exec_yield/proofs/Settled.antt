-- A suspension and its delivery on the world. Assumes nothing.
use mathlib.Core.Path.{◌≡◌, refl, sym, ap, ◌∙◌, subst}
use mathlib.Core.Bool.{true, false}
use Prim.Native.Nat.{ℕ, ◌-◌, ◌≤◌}
use native.Mathlib.Omega.{arith}
use Rattle.heap.specs.declared.fault.Fault.{Fault}
use Rattle.heap.specs.declared.object.CoroState.{CoroState}
use Rattle.model.specs.World.{World, after}
use Rattle.model.specs.Frames.{store_pc}
use Rattle.model.specs.Coro.{coro_suspend, deliver}
use Rattle.model.specs.Exec.{delivered, deliver_all, suspend}
use Rattle.model.specs.Sound.{sound}
use Rattle.model.specs.declared.coro.Event.{Event}
use Rattle.std.specs.Prelude.{Option, Result, Ok, Err}
use Rattle.model.specs.declared.exec.Step.{Step}
use Rattle.model.specs.declared.machine.Driver.{Driver}
use Rattle.model.specs.declared.machine.Fuel.{Fuel}
use Rattle.claims_sound.proofs.Tests.{no_false}
use Rattle.claims_sound.proofs.Stand.{chained}
use Rattle.claims_sound.proofs.Sound.{Sound, sound→}
use Rattle.memory_world.specs.Memory.{Lent, Rep}
use Rattle.memory_world.specs.Contract.{Does}
use Rattle.memory_world.specs.declared.machine.Machine.{Machine}
use Rattle.memory_world.specs.declared.machine.Sizes.{Sizes}
use Rattle.memory_world.proofs.Does.{does}
use Rattle.machine_state.proofs.Lands.{lands-fits}
use Rattle.coro_suspend.proofs.Delivered.{suspend-lands}
use Rattle.exec_yield.specs.Suspend.{stepped_by, DeliverFits}

-- ---- a delivery

-- the step that a delivery leads to
stepped : (w : World) (r : Result Unit Fault) → delivered w r ≡ after w (stepped_by r)
stepped w (Ok u) = refl
stepped w (Err f) = refl

module _ (l : Sizes) (M : Lent) (m : Machine) (fuel : Fuel) (w : World) (a : Result (Driver × Event) Fault) where
  pub deliver-done : (d : Driver) (e : Event) (f : Result Unit Fault) (s : Step) → a ≡ Ok (d, e) → Does l (deliver d e w) M m fuel f → s ≡ stepped_by f → Does l (deliver_all w a) M m fuel s
  deliver-done d e f s ea did es =
      let u = (deliver d e w).world in
      does l M m fuel (deliver_all w a) u s
      (ap (deliver_all w) ea ∙ stepped u (deliver d e w).answer ∙ ap (λ g. after u (stepped_by g)) (sym did.answer) ∙ ap (after u) (sym es)) did.world

  pub deliver-refused : (f : Fault) → a ≡ Err f → Rep l w M m fuel → Does l (deliver_all w a) M m fuel (Step.Fault f)
  deliver-refused f ea rep = does l M m fuel (deliver_all w a) w (Step.Fault f) (ap (deliver_all w) ea) rep

-- ---- a suspension

module _ (l : Sizes) (M : Lent) (m : Machine) (fuel : Fuel) (st : CoroState) (dst payload : ℕ) (keys : Option (ℕ × ℕ)) (w : World) (snd : sound w ≡ true) (a : Result (Driver × Event) Fault) where
  -- the driver waits in the top frame
  pub drives : Does l (coro_suspend st dst payload keys w) M m fuel a → DeliverFits M.stack M.frames M.slots m a
  drives did =
      record {
        drives = λ d e ea.
            let u = (coro_suspend st dst payload keys w).world in
            let t = suspend-lands st dst payload keys w snd d e (sym did.answer ∙ ea) in
            record {
              resumes = λ x ex. lands-fits l M m fuel u x did.world (t.resume x ex);
              iterates = λ has val iter ex.
                  record {
                    table = did.world.slots.within;
                    flag = lands-fits l M m fuel u has did.world (t.has has val iter ex);
                    word = (lands-fits l M m fuel u val did.world (t.val has val iter ex)).reg;
                  };
            };
      }

-- a pc stored, a suspension, and its delivery
pub suspended : (l : Sizes) (M : Lent) (m : Machine) (fuel : Fuel) (w : World) (pc : ℕ) (st : CoroState) (dst payload : ℕ) (keys : Option (ℕ × ℕ)) (a : Result (Driver × Event) Fault) (s : Step)
    → a ≡ (coro_suspend st dst payload keys (store_pc pc w)).answer
    → Does l (deliver_all (coro_suspend st dst payload keys (store_pc pc w)).world a) M m fuel s
    → Does l (suspend pc st dst payload keys w) M m fuel s
suspended l M m fuel w pc st dst payload keys a s ea d =
    subst (λ z. Does l (deliver_all (coro_suspend st dst payload keys (store_pc pc w)).world z) M m fuel s) ea d

-- a running coroutine has a frame
pub framed : {l : Sizes} {w : World} {M : Lent} {m : Machine} {f : Fuel} → Rep l w M m f → sound w ≡ true → 1 ≤ m.active → 1 ≤ m.depth
framed {l} {w} {M} {m} rep snd h =
    let known : Sound false w = sound→ w snd (λ z. no_false z) in
    let c = chained known.tower.stands in
    let e₁ = rep.chain.count in
    let e₂ = rep.frames.count in
    omega arith
