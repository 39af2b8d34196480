-- `active_at` meets its contract: six words read. Assumes nothing.
use Rattle.memory_tables.proofs.Codes.{active-read}
use Rattle.memory_tables.proofs.active.active_at.Goals as goal

pub returns : goal.returns
returns c = active-read c.args.chain.now c.args.i c.driver_of-driver.result c.driver_of-driver.ensures
