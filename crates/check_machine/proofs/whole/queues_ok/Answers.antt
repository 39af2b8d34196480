-- `queues_ok` meets its contract: the first test fails the whole, the second decides it. Assumes nothing.
use mathlib.Core.Path.{refl}
use Rattle.check_tables.proofs.Bools.{first-fails, second-decides}
use Rattle.check_machine.proofs.whole.queues_ok.Goals as goal

pub queue_ok-requires : goal.queue_ok-requires
queue_ok-requires c = record { within = c.requires.on-ready; table = c.requires.table; few = c.requires.few }

pub returns-then-not-queue_ok : goal.returns-then-not-queue_ok
returns-then-not-queue_ok c = first-fails _ _ _ c.queue_ok.result refl c.queue_ok.ensures c.if-not-queue_ok.true

pub queue_ok-requires-2 : goal.queue_ok-requires-2
queue_ok-requires-2 c = record { within = c.requires.on-finalize; table = c.requires.table; few = c.requires.few }

pub returns : goal.returns
returns c =
    second-decides _ _ _ c.queue_ok.result c.queue_ok-2.result refl c.queue_ok.ensures
    c.if-not-queue_ok.false c.queue_ok-2.ensures
