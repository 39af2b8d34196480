-- The numbers that are no counts: the outcome and the fuel.
use Rattle.std.specs.Prelude.{Bool, ◌&&◌, ◌||◌, eqb}
use Rattle.model.specs.Sound.{outcome_range, is_none}
use Rattle.model.specs.declared.machine.Fuel.{Fuel}
use Rattle.memory_world.specs.Told.{outcome_in}
use Rattle.memory_world.specs.declared.machine.Told.{Told}
use Rattle.memory_sound.specs.Words.{outcome_held}

-- an outcome's number is one of six, what it has not is 0, and function and pc have 32 bits
abbrev pub outcome_test : Told → Bool
outcome_test t = outcome_held t && outcome_range (outcome_in t)

-- "fuel 0 while banked"
abbrev pub fuel_test : Fuel → Bool
fuel_test f = is_none f.bank || eqb f.fuel 0
