-- `arm_close` meets its contract, by what is set aside and whether a close is ready. Assumes nothing.
use Rattle.machine_state.proofs.Flags.{set-aside, left_alone}
use Rattle.machine_state.proofs.fuel.arm_close.Goals as goal

pub returns-then-f : goal.returns-then-f
returns-then-f c = set-aside c.args.f c.in-None.is c.if-f.true

pub returns-else-f : goal.returns-else-f
returns-else-f c = left_alone c.args.f c.in-None.is c.if-f.false
