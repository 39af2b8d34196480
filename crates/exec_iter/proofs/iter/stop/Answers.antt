-- `stop` meets its contract: an iterator marked as done, and a flag put. Assumes nothing.
use Rattle.model.specs.Heap.{set_done}
use Rattle.memory_world.specs.Memory.{on_slots}
use Rattle.memory_world.specs.Lendings.{top, plain}
use Rattle.exec_iter.proofs.iter.stop.Goals as goal

pub returns : goal.returns
returns c =
    λ l w b rep. c.put.ensures l (set_done c.args.iter w) (record { words = on_slots c.set_done.new.slots b.words; fuel = b.fuel })
    (c.set_done.ensures l w (record { words = top c.args.stack.now c.args.frames.now plain b; fuel = b.fuel }) rep)
