-- `goes_on_at` meets its contract: the part comes back with the answer. Assumes nothing.
use mathlib.Core.Path.{refl}
use Prim.Native.Nat.{◌*◌}
use Rattle.memory_calls.specs.Answer.{answer_words}
use Rattle.outer_run.proofs.Written.{put_back, part-long}
use Rattle.linked_switch.specs.Went.{goes_on}
use Rattle.linked_batch.proofs.one.goes_on_at.Goals as goal

pub goes_on-requires : goal.goes_on-requires
goes_on-requires c = part-long c.args.answers.now (c.args.i * 8) c.requires

pub returns : goal.returns
returns c = put_back c.args.answers.now (answer_words goes_on) (c.args.i * 8) c.requires _ c.goes_on.ensures refl
