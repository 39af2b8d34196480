-- `move_out` meets its contract: registers, then frames. Assumes nothing.
use native.Mathlib.Omega.{arith}
use Rattle.coro_suspend.proofs.suspend.move_out.Goals as goal

pub overflow_mul-from : goal.overflow_mul-from
overflow_mul-from c = omega (arith, c.requires.deep, c.well_formed)
