-- `part_of` meets its contract, arm by arm. Assumes nothing.
use borrow.Enum.Refused.{opened}
use Rattle.furnace.proofs.Watching.{no_part}
use Rattle.furnace.proofs.watch.part_of.Goals as goal

pub returns-in-Yield : goal.returns-in-Yield
returns-in-Yield c = rw c.in-Yield.is

pub returns-in-YieldKv : goal.returns-in-YieldKv
returns-in-YieldKv c = rw c.in-YieldKv.is

pub returns-in-Await : goal.returns-in-Await
returns-in-Await c = rw c.in-Await.is

pub returns-in-Resume : goal.returns-in-Resume
returns-in-Resume c = rw c.in-Resume.is

pub returns-in-IterNext : goal.returns-in-IterNext
returns-in-IterNext c = rw c.in-IterNext.is

pub returns-in-HostEntry : goal.returns-in-HostEntry
returns-in-HostEntry c = rw c.in-HostEntry.is

pub returns-in_default : goal.returns-in_default
returns-in_default c = no_part c.args.op (opened c.in_default.in_default-own.keys7)
