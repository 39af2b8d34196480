-- `host_call` meets its contract: a frame pushed, and its answer. Assumes nothing.
use Rattle.machine_added.proofs.Pushing.{host_called}
use Rattle.machine_added.proofs.call.host_call.Goals as goal

pub returns : goal.returns
returns c = λ w b rep snd. host_called c.args.sizes _ _ b.fuel w _ _ c.args.f c.pushed_as.ensures (c.push_frame-did.ensures w b rep snd)
