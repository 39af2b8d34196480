-- `iter_returned` meets its contract: the mark, and then 0 sent. Assumes nothing.
use Rattle.model.specs.Heap.{set_done}
use Rattle.memory_world.specs.Lendings.{top, top_table, plain}
use Rattle.coro_end.proofs.Delivery.{sent}
use Rattle.coro_end.proofs.deliver.iter_returned.Goals as goal

pub returns : goal.returns
returns c =
    λ l w b rep. sent l (top_table c.args.stack.now c.args.frames.now c.set_done.new.slots plain b)
    c.args.m b.fuel (set_done c.args.iter w)
    (c.set_done.ensures l w (record { words = top c.args.stack.now c.args.frames.now plain b; fuel = b.fuel }) rep) _ _
    c.args.has 0 c.coro_send.ensures
