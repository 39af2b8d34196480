-- `staying` meets the definition, by the instruction after which the same coroutine runs. Assumes nothing.
use borrow.Enum.Refused.{opened}
use mathlib.Core.Path.{ap}
use native.Mathlib.Omega.{arith}
use Rattle.model.specs.Calls.{table}
use Rattle.exec_arm.proofs.Tags.{no-group}
use Rattle.exec_arm.proofs.Fitting.{around, as-arm, new-fits, indirect-fits, spawn-fits, current-fits, ask-fits}
use Rattle.exec_arm.proofs.staying.staying.Goals as goal

pub coro_new-did-requires : goal.coro_new-did-requires
coro_new-did-requires c = new-fits c.requires c.in-CoroNew.is (let k = c.in-CoroNew.known_told-1-own.given in omega arith)

pub coro_new_indirect-did-requires : goal.coro_new_indirect-did-requires
coro_new_indirect-did-requires c = indirect-fits c.requires c.in-CoroNewIndirect.is (let k = c.in-CoroNewIndirect.known_told-in-CoroNewIndirect-1-own.given in omega arith)

pub spawn-requires : goal.spawn-requires
spawn-requires c = spawn-fits c.requires c.in-Spawn.is (let k = c.in-Spawn.known_told-in-Spawn-1-own.given in omega arith)

pub coro_status-step-requires : goal.coro_status-step-requires
coro_status-step-requires c = ask-fits c.requires (ap table c.in-CoroStatus.is)

pub coro_current-step-requires : goal.coro_current-step-requires
coro_current-step-requires c = current-fits c.requires c.in-CoroCurrent.is

pub coro_key-step-requires : goal.coro_key-step-requires
coro_key-step-requires c = ask-fits c.requires (ap table c.in-CoroKey.is)

pub coro_result-step-requires : goal.coro_result-step-requires
coro_result-step-requires c = ask-fits c.requires (ap table c.in-CoroResult.is)

pub returns-in-CoroNew : goal.returns-in-CoroNew
returns-in-CoroNew c = λ s e pc t arm q w b rep snd. as-arm q c.in-CoroNew.is (c.coro_new-did.ensures w (around rep) rep snd)

pub returns-in-CoroNewIndirect : goal.returns-in-CoroNewIndirect
returns-in-CoroNewIndirect c = λ s e pc t arm q w b rep snd. as-arm q c.in-CoroNewIndirect.is (c.coro_new_indirect-did.ensures w (around rep) rep snd)

pub returns-in-Spawn : goal.returns-in-Spawn
returns-in-Spawn c = λ s e pc t arm q w b rep snd. as-arm q c.in-Spawn.is (c.spawn.ensures w (around rep) rep snd)

pub returns-in-CoroStatus : goal.returns-in-CoroStatus
returns-in-CoroStatus c = λ s e pc t arm q w b rep snd. as-arm q c.in-CoroStatus.is (c.coro_status-step.ensures _ w (around rep) rep)

pub returns-in-CoroCurrent : goal.returns-in-CoroCurrent
returns-in-CoroCurrent c = λ s e pc t arm q w b rep snd. as-arm q c.in-CoroCurrent.is (c.coro_current-step.ensures _ w (around rep) rep)

pub returns-in-CoroKey : goal.returns-in-CoroKey
returns-in-CoroKey c = λ s e pc t arm q w b rep snd. as-arm q c.in-CoroKey.is (c.coro_key-step.ensures _ w (around rep) rep)

pub returns-in-CoroResult : goal.returns-in-CoroResult
returns-in-CoroResult c = λ s e pc t arm q w b rep snd. as-arm q c.in-CoroResult.is (c.coro_result-step.ensures _ w (around rep) rep)

pub returns-in_default : goal.returns-in_default
returns-in_default c = λ s e. no-group c.args.op _ s e (opened c.in_default.in_default-own.keys8)
