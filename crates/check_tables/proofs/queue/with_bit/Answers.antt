-- `with_bit` meets its contract. Assumes nothing.
use Rattle.check_tables.proofs.Bits.{set-bit}
use Rattle.check_tables.proofs.queue.with_bit.Goals as goal

pub returns : goal.returns
returns c = λ j. set-bit c.args.w c.args.i j c.requires
