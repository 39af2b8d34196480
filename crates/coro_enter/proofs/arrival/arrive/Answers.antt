-- `arrive` meets its contract, by what the entry answered. Assumes nothing.
use mathlib.Core.Path.{ap, ◌∙◌}
use Rattle.std.specs.Prelude.{Ok}
use Rattle.coro_enter.proofs.Entries.{arrive-sent}
use Rattle.coro_enter.proofs.arrival.arrive.Goals as goal

pub returns-in-Suspended : goal.returns-in-Suspended
returns-in-Suspended c =
    λ l w b rep. arrive-sent l _ c.args.m b.fuel w c.args.a c.args.sent c.in-Suspended.d (c.in-Ok.is ∙ ap Ok c.in-Suspended.is) (c.coro_send.ensures l w b rep)
