-- `unbank` meets its contract, by what is set aside. Assumes nothing.
use Rattle.machine_state.proofs.Flags.{taken_back}
use Rattle.machine_state.proofs.fuel.unbank.Goals as goal

pub returns-in-Some : goal.returns-in-Some
returns-in-Some c = taken_back c.args.f _ c.in-Some.is
