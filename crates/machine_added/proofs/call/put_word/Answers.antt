-- `put_word` meets its contract. Assumes nothing.
use Rattle.machine_added.proofs.Pushing.{word-put}
use Rattle.machine_added.proofs.call.put_word.Goals as goal

pub returns : goal.returns
returns c = λ l w b rep. word-put l _ _ b.fuel w c.args.r c.args.v (c.put.ensures l w b rep)
