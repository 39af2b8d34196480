-- A switch that was done on the words, and one that was not. Assumes nothing.
use mathlib.Core.Path.{◌≡◌, refl, sym, ap, ◌∙◌}
use mathlib.Core.Bool.{Bool, true, false}
use mathlib.Core.List.{List}
use Prim.Native.Nat.{ℕ}
use native.Mathlib.Omega.{arith}
use Rattle.lists.specs.Pick.{pick_true, pick-false}
use Rattle.model.specs.declared.call.Op.{Op}
use Rattle.memory_world.specs.Memory.{Lent, Beside}
use Rattle.memory_world.specs.Lendings.{lent}
use Rattle.memory_world.proofs.Does.{SameLengths}
use Rattle.linked_calls.specs.Host.{host, one_or}
use Rattle.linked_switch.specs.Went.{Went}
use Rattle.linked_switch.specs.Switch.{Switched}
use Rattle.linked_switch.proofs.Hosts.{went-in}

pub not-here : (o : Op) (goes : Bool) (M : Beside → Lent) (ms fs : List ℕ) → false ≡ goes → Switched o goes M M ms fs ms fs 0
not-here o goes M ms fs e = record { told = sym (pick-false 1 0) ∙ ap one_or e; left = λ z b. refl; done = λ z. absurd (omega (arith, z)) }

module _ (stack frames chain slots saved_stack saved_frames ms fs stack' frames' chain' slots' saved_stack' saved_frames' ms' fs' : List ℕ) where
  abbrev M : Beside → Lent
  M = lent stack frames chain slots saved_stack saved_frames

  abbrev M' : Beside → Lent
  M' = lent stack' frames' chain' slots' saved_stack' saved_frames'

  pub done-here : (o : Op) (goes : Bool) → true ≡ goes → ((b : Beside) → SameLengths (M b) (M' b)) → Went o M M' ms fs ms' fs' → Switched o goes M M' ms fs ms' fs' 1
  done-here o goes e same w =
      record {
        told = sym (pick_true 1 0) ∙ ap one_or e;
        left = λ z. absurd (omega (arith, z));
        done = λ z b xs t. went-in (host (M b) ms fs) t xs o stack' frames' chain' slots' saved_stack' saved_frames' ms' fs' _ (same b) w refl;
      }
