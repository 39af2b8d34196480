-- An entry after a stored pc, and what follows it, on the world. Assumes nothing.
use mathlib.Core.Path.{◌≡◌, ap, ◌∙◌, subst, sym}
use mathlib.Core.Bool.{true}
use Prim.Native.Nat.{ℕ}
use Rattle.heap.specs.declared.fault.Fault.{Fault}
use Rattle.model.specs.World.{World, After, and_then}
use Rattle.model.specs.Coro.{coro_send, coro_enter}
use Rattle.model.specs.Exec.{arrive}
use Rattle.model.specs.Sound.{sound}
use Rattle.std.specs.Prelude.{Result, Ok, Err}
use Rattle.model.specs.declared.coro.Entered.{Entered}
use Rattle.model.specs.declared.exec.Step.{Step}
use Rattle.model.specs.declared.machine.Driver.{Driver}
use Rattle.model.specs.declared.machine.Fuel.{Fuel}
use Rattle.memory_world.specs.Memory.{Lent, Rep}
use Rattle.memory_world.specs.Contract.{Does}
use Rattle.memory_world.specs.declared.machine.Machine.{Machine}
use Rattle.memory_world.specs.declared.machine.Sizes.{Sizes}
use Rattle.memory_world.proofs.Does.{does}
use Rattle.machine_state.proofs.Lands.{lands-fits}
use Rattle.coro_enter.proofs.Lands.{enter-lands}
use Rattle.coro_enter.specs.Entry.{ArriveFits}

-- f, and then g with what f answered
pub then-does : {A B : Type 0} (l : Sizes) (M : Lent) (m : Machine) (f : Fuel) (o : After A) (g : World → A → After B) (a : A) (b : B) → a ≡ o.answer → Does l (g o.world a) M m f b → Does l (and_then o g) M m f b
then-does l M m f o g a b e d = subst (λ z. Does l (g o.world z) M m f b) e d

-- ---- a word arrives, or does not

module _ (l : Sizes) (M : Lent) (m : Machine) (f : Fuel) (w : World) (a : Result Entered Fault) (sent : ℕ) where
  pub arrive-fresh : a ≡ (Ok Entered.Fresh) → Rep l w M m f → Does l (arrive sent w a) M m f Step.Frame
  arrive-fresh e rep = does l M m f (arrive sent w a) w Step.Frame (ap (arrive sent w) e) rep

  pub arrive-sent : (x : ℕ) → a ≡ Ok (Entered.Suspended x) → Rep l (coro_send x sent w) M m f → Does l (arrive sent w a) M m f Step.Frame
  arrive-sent x e rep = does l M m f (arrive sent w a) (coro_send x sent w) Step.Frame (ap (arrive sent w) e) rep

  pub arrive-refused : (g : Fault) → a ≡ Err g → Rep l w M m f → Does l (arrive sent w a) M m f (Step.Fault g)
  arrive-refused g e rep = does l M m f (arrive sent w a) w (Step.Fault g) (ap (arrive sent w) e) rep

-- the register that waits lies in the top frame of what was entered
pub arrive-fits : (l : Sizes) (M : Lent) (m : Machine) (fuel : Fuel) (v : ℕ) (d : Driver) (w : World) (a : Result Entered Fault) → sound w ≡ true → Does l (coro_enter v d w) M m fuel a
    → ArriveFits M.stack M.frames m.height m.depth a
arrive-fits l M m fuel v d w a snd did =
    record { waits = λ x e. lands-fits l M m fuel (coro_enter v d w).world x did.world (enter-lands v d w snd x (sym did.answer ∙ e)) }
