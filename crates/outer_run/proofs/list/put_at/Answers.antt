-- `put_at` meets its contract: the part comes back with the answer. Assumes nothing.
use mathlib.Core.Path.{refl}
use Prim.Native.Nat.{◌-◌, ◌*◌}
use Rattle.memory_calls.specs.Answer.{answer_words}
use Rattle.outer_run.proofs.Written.{put_back, part-long}
use Rattle.outer_run.proofs.list.put_at.Goals as goal

pub put_answer-requires : goal.put_answer-requires
put_answer-requires c = part-long c.args.answers.now (c.args.i * 8) c.requires

pub returns : goal.returns
returns c = put_back c.args.answers.now (answer_words c.args.a) (c.args.i * 8) c.requires _ c.put_answer.ensures refl
