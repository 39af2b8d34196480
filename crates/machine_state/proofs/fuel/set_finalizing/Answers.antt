-- `set_finalizing` meets its contract: the mark, then the fuel. Assumes nothing.
use mathlib.Core.Path.{refl}
use Rattle.machine_state.proofs.Flags.{finalizes}
use Rattle.machine_state.proofs.fuel.set_finalizing.Goals as goal

pub returns : goal.returns
returns c =
    λ l w b rep. finalizes l b.words c.args.m c.args.f w c.args.running c.close_ready-ready.result _ _ rep
    c.close_ready-ready.ensures refl c.arm_close-fuel.ensures
