-- exec.rs: charge; coro.rs: charge_slow, on the lent words.
use Rattle.std.specs.Prelude.{ℕ, ◌-◌, ◌^◌, ◌≤◌, ◌<◌}
use Rattle.model.specs.World.{World, After}
use Rattle.model.specs.Frames.{store_pc}
use Rattle.model.specs.Fuel.{fuel_of, unbank_at}
use Rattle.model.specs.Cleanup.{start_finalizer, charge_or}
use Rattle.model.specs.declared.machine.Charge.{Charge}
use Rattle.model.specs.declared.machine.Fuel.{Fuel}
use Rattle.memory_world.specs.Memory.{Lent, Beside}
use Rattle.memory_world.specs.Contract.{Ok, with}
use Rattle.memory_world.specs.declared.machine.Machine.{Machine}
use Rattle.memory_world.specs.declared.machine.Sizes.{Sizes}

-- one unit less
abbrev pub spent : Fuel → Fuel
spent f = fuel_of (f.fuel - 1) f.bank f.ready

-- coro.rs: charge_slow, with fuel, a pc and cleanups ready
abbrev pub charge_ready : ℕ → World → After Charge
charge_ready pc w = charge_or (start_finalizer (store_pc pc w))

-- a sound world with a frame, and a pc, which the gate has tested
pub record ChargeFits (sizes : Sizes) (M : Beside → Lent) (m : Machine) (fuel : Fuel) (pc : ℕ) : Type 0 where
  pub ok : Ok sizes M (with m fuel)
  pub narrow : pc < 2 ^ 32
  pub some : 1 ≤ m.depth

-- .. and a unit to pay with
pub record ReadyFits (sizes : Sizes) (M : Beside → Lent) (m : Machine) (fuel : Fuel) (pc : ℕ) : Type 0 where
  pub charge : ChargeFits sizes M m fuel pc
  pub paid : 1 ≤ (unbank_at fuel.bank fuel).fuel
