-- Resume is an entry and then an arrival, of the words in its registers. Assumes nothing.
use mathlib.Core.Path.{◌≡◌, ap₂, subst}
use Prim.Native.Nat.{ℕ}
use Rattle.model.specs.World.{World, and_then}
use Rattle.model.specs.Frames.{store_pc, reg}
use Rattle.model.specs.Coro.{coro_enter}
use Rattle.model.specs.Exec.{arrive, resume}
use Rattle.model.specs.declared.exec.Step.{Step}
use Rattle.model.specs.declared.machine.Driver.{Driver}
use Rattle.model.specs.declared.machine.Fuel.{Fuel}
use Rattle.memory_world.specs.Memory.{Lent}
use Rattle.memory_world.specs.Contract.{Does}
use Rattle.memory_world.specs.declared.machine.Machine.{Machine}
use Rattle.memory_world.specs.declared.machine.Sizes.{Sizes}

pub resumed : (l : Sizes) (M : Lent) (m : Machine) (f : Fuel) (w : World) (pc dst c src v sent : ℕ) (s : Step) → v ≡ reg w c → sent ≡ reg w src
    → Does l (and_then (coro_enter v (Driver.Resume dst) (store_pc pc w)) (arrive sent)) M m f s → Does l (resume pc dst c src w) M m f s
unfolding resume
resumed l M m f w pc dst c src v sent s ev es d =
    subst (λ z. Does l z M m f s) (ap₂ (λ x y. and_then (coro_enter x (Driver.Resume dst) (store_pc pc w)) (arrive y)) ev es) d
