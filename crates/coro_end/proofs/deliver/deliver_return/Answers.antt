-- `deliver_return` meets the definition, driver by driver. Assumes nothing.
use Rattle.model.specs.declared.machine.Driver.{Driver}
use Rattle.model.specs.declared.machine.Stop.{Stop}
use Rattle.memory_world.specs.Lendings.{top_table, plain}
use Rattle.coro_end.proofs.Delivery.{sent, told-host, return-to}
use Rattle.coro_end.proofs.deliver.deliver_return.Goals as goal

pub coro_send-requires : goal.coro_send-requires
coro_send-requires c = c.requires.resumes c.in-Resume.dst c.in-Resume.is

pub iter_returned-requires : goal.iter_returned-requires
iter_returned-requires c = let f = c.requires.iterates c.in-Iter.has c.in-Iter.val c.in-Iter.iter c.in-Iter.is in (f.table, f.flag)

pub returns-in-Resume : goal.returns-in-Resume
returns-in-Resume c =
    λ l w b rep. return-to l _ c.args.m c.args.fuel w c.args.d (Driver.Resume c.in-Resume.dst) c.args.value
    c.in-Resume.is (sent l (top_table c.args.stack.now c.args.frames.now c.args.slots.now plain b) c.args.m
    c.args.fuel w rep _ _ c.in-Resume.dst c.args.value c.coro_send.ensures)

pub returns-in-Iter : goal.returns-in-Iter
returns-in-Iter c =
    λ l w b rep. return-to l _ c.args.m c.args.fuel w c.args.d
    (Driver.Iter c.in-Iter.has c.in-Iter.val c.in-Iter.iter) c.args.value c.in-Iter.is
    (c.iter_returned.ensures l w (record { words = b.words; fuel = c.args.fuel }) rep)

pub returns-in-Host : goal.returns-in-Host
returns-in-Host c =
    λ l w b rep. return-to l _ c.stopped-n.result c.args.fuel w c.args.d Driver.Host c.args.value c.in-Host.is
    (told-host l (top_table c.args.stack.now c.args.frames.now c.args.slots.now plain b) c.args.m c.args.fuel w rep
    (Stop.Returned c.args.value) c.stopped-n.result c.stopped-n.ensures)

pub returns-in-Finalize : goal.returns-in-Finalize
returns-in-Finalize c =
    λ l w b rep. return-to l _ _ _ w c.args.d Driver.Finalize c.args.value c.in-Finalize.is (c.set_finalizing.ensures l w
    (record { words = top_table c.args.stack.now c.args.frames.now c.args.slots.now plain b; fuel = b.fuel }) rep)
