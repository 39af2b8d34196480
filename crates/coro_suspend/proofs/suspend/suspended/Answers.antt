-- `suspended` meets its contract, field by field. Assumes nothing.
use Rattle.coro_suspend.proofs.suspend.suspended.Goals as goal

pub returns : goal.returns
returns c =
    rw (
      c.closing_after.ensures,
      c.larger.ensures,
      c.larger-2.ensures,
      c.key_of.ensures,
      c.largest_of.ensures,
      c.signal_after.ensures,
      c.ignores-ignored.ensures,
    )
