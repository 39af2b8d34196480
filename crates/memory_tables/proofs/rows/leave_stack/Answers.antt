-- `leave_stack` meets its contract: one move. Assumes nothing.
use Rattle.memory_tables.proofs.Switch.{leaves-stack}
use Rattle.memory_tables.proofs.rows.leave_stack.Goals as goal

pub returns : goal.returns
returns c =
    let a = c.args in
    let m = c.move_words in
    leaves-stack a.stack.now a.saved.now m.new.src m.new.dst a.height a.base a.at c.requires.0 m.ensures
