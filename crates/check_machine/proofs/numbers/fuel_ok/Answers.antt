-- `fuel_ok` meets its contract. Assumes nothing.
use lib.Dec.{eqb}
use Rattle.check_machine.proofs.Outcomes.{no-bank, a-bank}
use Rattle.check_machine.proofs.numbers.fuel_ok.Goals as goal

pub returns-in-None : goal.returns-in-None
returns-in-None c = no-bank c.args.f.bank (eqb c.args.f.fuel 0) c.in-None.is

pub returns-in-Some : goal.returns-in-Some
returns-in-Some c = a-bank c.args.f.bank _ (eqb c.args.f.fuel 0) c.in-Some.is
