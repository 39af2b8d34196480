-- `value` meets its contract: bits read at i64 always fit, and at u64 where they are below 2^63. Assumes nothing.
use Rattle.heap.proofs.Coding.{signed-fits, unsigned-fits, unsigned-over}
use Rattle.heap.proofs.int.value.Goals as goal

pub returns-in-I64 : goal.returns-in-I64
returns-in-I64 c = rw c.in-I64.is (signed-fits 63 c.args.bits c.ranges.bits.fits)

pub returns-then-bits-lt-SIGN : goal.returns-then-bits-lt-SIGN
returns-then-bits-lt-SIGN c = rw c.in-U64.is (unsigned-fits 63 _ c.if-bits-lt-SIGN.true)

pub returns-else-bits-lt-SIGN : goal.returns-else-bits-lt-SIGN
returns-else-bits-lt-SIGN c = rw c.in-U64.is (unsigned-over 63 _ c.if-bits-lt-SIGN.false)
