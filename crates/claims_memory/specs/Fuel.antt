-- The fuel record is the host's (01), and Sound speaks of it by itself ("fuel 0 while banked"): a sound machine is sound with any record
-- that is so, be it another machine's.
use Rattle.std.specs.Prelude.{◌≡◌, true}
use Rattle.model.specs.declared.machine.Fuel.{Fuel}
use Rattle.claims_model.specs.Promise.{fuel_sound}
use Rattle.memory_step.specs.Step.{MemoryState, is_sound}

abbrev pub fuelled : MemoryState → Fuel → MemoryState
fuelled s f = record { words = s.words; machine = s.machine; fuel = f }

pub record AnyFuel : Type 0 where
  pub own : (s : MemoryState) → is_sound s ≡ true → fuel_sound s.fuel ≡ true
  pub any : (s : MemoryState) (f : Fuel) → is_sound s ≡ true → fuel_sound f ≡ true → is_sound (fuelled s f) ≡ true
