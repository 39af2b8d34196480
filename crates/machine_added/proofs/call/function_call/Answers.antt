-- `function_call` meets its contract: a frame pushed, and its answer. Assumes nothing.
use Rattle.machine_added.proofs.Pushing.{function-called}
use Rattle.machine_added.proofs.call.function_call.Goals as goal

pub returns : goal.returns
returns c = λ w b rep snd. function-called c.args.sizes _ _ b.fuel w _ _ c.args.pc c.args.f c.args.cont c.pushed_as.ensures (c.push_at-did.ensures w b rep snd)
