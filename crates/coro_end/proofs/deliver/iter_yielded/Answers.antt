-- `iter_yielded` meets its contract: the key, the word, and then 1 sent. Assumes nothing.
use Rattle.model.specs.Frames.{put_reg}
use Rattle.model.specs.Heap.{set_key}
use Rattle.memory_world.specs.Lendings.{top, top_table, plain}
use Rattle.coro_end.proofs.Delivery.{sent, put}
use Rattle.coro_end.proofs.deliver.iter_yielded.Goals as goal

pub returns : goal.returns
returns c =
    λ l w b rep.
    let u = set_key c.args.iter c.args.key w in
    let k = c.set_key.ensures l w (record { words = top c.args.stack.now c.args.frames.now plain b; fuel = b.fuel }) rep in
    let p = put l (top_table c.args.stack.now c.args.frames.now c.set_key.new.slots plain b) c.args.m b.fuel u k
    c.put_reg.new.stack c.args.val c.args.payload c.put_reg.ensures in
    sent l (top_table c.put_reg.new.stack c.args.frames.now c.set_key.new.slots plain b) c.args.m b.fuel
    (put_reg c.args.val c.args.payload u) p _ _ c.args.has 1 c.coro_send.ensures
