-- The part of the stack that a look hands back.
use Rattle.std.specs.Prelude.{◌≡◌, Bool, true, false, List, ℕ}
use Rattle.memory_world.specs.declared.machine.Machine.{Machine}
use Rattle.machine_added.specs.Look.{Sees}
use Rattle.machine_added.specs.declared.look.Span.{Span}

-- the top frame's registers; without soundness, an empty part
pub record Placed (ok : Bool) (frames : List ℕ) (m : Machine) (s : Span) : Type 0 where
  pub sees : ok ≡ true → Sees frames m s
  pub empty : ok ≡ false → s ≡ record { start = 0; end = 0 }
