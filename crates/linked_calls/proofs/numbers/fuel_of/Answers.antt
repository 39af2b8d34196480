-- `fuel_of` meets its contract: each number is its word. Assumes nothing.
use Rattle.linked_calls.proofs.numbers.fuel_of.Goals as goal

pub returns : goal.returns
returns c = rw c.bank_of-bank.ensures
