-- `close_entered` meets its contract: a refused entry, or any other. Assumes nothing.
use Rattle.exec_close.proofs.Closed.{closes-entered, closes-refused}
use Rattle.exec_close.proofs.close.close_entered.Goals as goal

pub returns-in-Ok : goal.returns-in-Ok
returns-in-Ok c = λ l w b rep. closes-entered l _ c.args.m b.fuel w c.args.v c.args.signal c.args.a _ c.in-Ok.is (c.set_closing.ensures l w b rep)

pub returns-in-Err : goal.returns-in-Err
returns-in-Err c = λ l w b rep. closes-refused l _ c.args.m b.fuel w c.args.v c.args.signal c.args.a c.in-Err.f c.in-Err.is rep
