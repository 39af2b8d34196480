-- A grant by value is the call: of the state it changes the fuel alone. Assumes nothing.
use mathlib.Core.Path.{◌≡◌, refl}
use mathlib.Core.Bool.{true}
use Prim.Native.Nat.{ℕ}
use Rattle.memory_world.proofs.Does.{alike}
use Rattle.model.specs.Added.{grant}
use Rattle.model.specs.declared.call.Op.{Op}
use Rattle.model.specs.declared.call.Answer.{Answer}
use Rattle.model.specs.declared.machine.Fuel.{Fuel}
use Rattle.memory_world.specs.Memory.{Lent}
use Rattle.memory_world.specs.Contract.{Gives, any, with}
use Rattle.memory_world.specs.declared.machine.Machine.{Machine}
use Rattle.memory_world.specs.declared.machine.Sizes.{Sizes}
use Rattle.memory_world.specs.Words.{sizes_of}
use Rattle.memory_world.specs.Decode.{setup_of}
use Rattle.machine_step.proofs.Calls.{as_row}
use Rattle.memory_step.specs.Step.{left, is_sound, step_words}
use Rattle.outer_call.specs.State.{state}
use Rattle.outer_call.proofs.Stepping.{stepped}

module _ (M : Lent) (m : Machine) (f : Fuel) (n : ℕ) where
  pub granted : is_sound (state M m f) ≡ true → (f' : Fuel) (a : Answer)
      → ((l : Sizes) → Gives any l (grant n) (λ b. b.words) (with m f) (λ b. b.words) (with m f') a) → left (state M m f') a ≡ step_words (state M m f) (Op.Grant n)
  granted e f' a met =
      let l = sizes_of (setup_of M.setup) in
      let o = Op.Grant n in
      stepped M M m m f f' l o a (record { sound = e; sizes = refl }) (alike M)
      (λ w b rep s. as_row {o = o} w refl (met l w (record { words = M; fuel = b.fuel }) rep))
