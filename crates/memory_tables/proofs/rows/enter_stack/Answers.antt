-- `enter_stack` meets its contract: one move. Assumes nothing.
use Rattle.memory_tables.proofs.Switch.{enters-stack}
use Rattle.memory_tables.proofs.rows.enter_stack.Goals as goal

pub returns : goal.returns
returns c =
    let a = c.args in
    let m = c.move_words in
    enters-stack a.stack.now a.saved.now m.new.dst m.new.src a.height a.at a.n c.requires.0 m.ensures
