-- `put_made` meets its contract. Assumes nothing.
use Rattle.exec_make.proofs.Newly.{made_word, made-refused}
use Rattle.exec_make.proofs.new.put_made.Goals as goal

pub returns-in-Ok : goal.returns-in-Ok
returns-in-Ok c = λ l w b rep. made_word l _ c.args.m b.fuel w c.args.dst c.args.a c.in-Ok.v c.in-Ok.is (c.put.ensures l w b rep)

pub returns-in-Err : goal.returns-in-Err
returns-in-Err c = λ l w b rep. made-refused l _ c.args.m b.fuel w c.args.dst c.args.a c.in-Err.f c.in-Err.is rep
