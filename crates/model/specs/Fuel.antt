-- coro.rs: set_finalizing, arm_close, unbank. The fuel record and the cleanup queue's flags.
use Rattle.std.specs.Prelude.{ℕ, ◌-◌, Bool, not, ◌&&◌, Option, Some, None}
use Rattle.lists.specs.Pick.{pick}
use Rattle.model.specs.Lists.{is_nil}
use Rattle.model.specs.World.{World, with_finalizing, with_fuel}
use Rattle.model.specs.declared.machine.Fuel.{Fuel}

abbrev pub fuel_of : ℕ → Option ℕ → Bool → Fuel
fuel_of n bank ready = record { fuel = n; bank = bank; ready = ready }

-- coro.rs: unbank, the fuel that arm_close set aside is taken back
abbrev pub unbank_at : Option ℕ → Fuel → Fuel
unbank_at None f = f
unbank_at (Some n) f = fuel_of n None f.ready

abbrev pub unbank : World → World
unbank w = with_fuel (unbank_at w.fuel.bank w.fuel) w

-- coro.rs: arm_close, "While a close is ready, the fuel left is set aside"
abbrev pub arm_at : Option ℕ → Fuel → Fuel
arm_at None f = pick f.ready (fuel_of 0 (Some f.fuel) f.ready) f
arm_at (Some n) f = f

abbrev pub arm_close : World → World
arm_close w = with_fuel (arm_at w.fuel.bank w.fuel) w

-- coro.rs: set_finalizing
abbrev pub set_ready : Bool → World → World
set_ready b w = with_fuel (fuel_of w.fuel.fuel w.fuel.bank b) w

abbrev pub set_finalizing : Bool → World → World
set_finalizing running w = arm_close (set_ready (not running && not (is_nil w.finalize)) (with_finalizing running w))

-- one unit of fuel less
abbrev pub spend : World → World
spend w = with_fuel (fuel_of (w.fuel.fuel - 1) w.fuel.bank w.fuel.ready) w
