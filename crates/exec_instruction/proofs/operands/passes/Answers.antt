-- `passes` meets its contract, by the operation. Assumes nothing.
use mathlib.Core.Path.{refl, ◌∙◌}
use Rattle.exec_instruction.proofs.Passing.{tested-as, and_at, function-at, no-operands}
use Rattle.exec_instruction.proofs.operands.passes.Goals as goal

pub returns-in-CoroNew : goal.returns-in-CoroNew
returns-in-CoroNew c =
    let a = c.args in
    λ w k. tested-as w c.in-CoroNew.is
    (and_at c.both-in-CoroNew.ensures (and_at c.both.ensures (c.in_frame.ensures w k.based) (c.window_in.ensures w k.based))
    (c.is_function.ensures ∙ function-at w a.functions a.base a.height k _))

pub returns-in-CoroNewIndirect : goal.returns-in-CoroNewIndirect
returns-in-CoroNewIndirect c = λ w k. tested-as w c.in-CoroNewIndirect.is (and_at c.both-in-CoroNewIndirect.ensures (c.in_two.ensures w k.based) (c.window_in-in-CoroNewIndirect.ensures w k.based))

pub returns-in-Spawn : goal.returns-in-Spawn
returns-in-Spawn c = λ w k. tested-as w c.in-Spawn.is (and_at c.both-in-Spawn.ensures (c.in_two-in-Spawn.ensures w k.based) (c.window_in-in-Spawn.ensures w k.based))

pub returns-in-Yield : goal.returns-in-Yield
returns-in-Yield c = λ w k. tested-as w c.in-Yield.is (c.in_two-in-Yield.ensures w k.based)

pub returns-in-YieldKv : goal.returns-in-YieldKv
returns-in-YieldKv c = λ w k. tested-as w c.in-YieldKv.is (c.in_three.ensures w k.based)

pub returns-in-Await : goal.returns-in-Await
returns-in-Await c = λ w k. tested-as w c.in-Await.is (c.in_two-in-Await.ensures w k.based)

pub returns-in-Resume : goal.returns-in-Resume
returns-in-Resume c = λ w k. tested-as w c.in-Resume.is (c.in_three-in-Resume.ensures w k.based)

pub returns-in-ResumeThrow : goal.returns-in-ResumeThrow
returns-in-ResumeThrow c = λ w k. tested-as w c.in-ResumeThrow.is (c.in_three-in-ResumeThrow.ensures w k.based)

pub returns-in-CoroClose : goal.returns-in-CoroClose
returns-in-CoroClose c = λ w k. tested-as w c.in-CoroClose.is (c.in_three-in-CoroClose.ensures w k.based)

pub returns-in-CoroStatus : goal.returns-in-CoroStatus
returns-in-CoroStatus c = λ w k. tested-as w c.in-CoroStatus.is (c.in_two-in-CoroStatus.ensures w k.based)

pub returns-in-CoroCurrent : goal.returns-in-CoroCurrent
returns-in-CoroCurrent c = λ w k. tested-as w c.in-CoroCurrent.is (and_at c.both-in-CoroCurrent.ensures (c.in_frame-in-CoroCurrent.ensures w k.based) refl)

pub returns-in-CoroKey : goal.returns-in-CoroKey
returns-in-CoroKey c = λ w k. tested-as w c.in-CoroKey.is (c.in_two-in-CoroKey.ensures w k.based)

pub returns-in-CoroResult : goal.returns-in-CoroResult
returns-in-CoroResult c = λ w k. tested-as w c.in-CoroResult.is (c.in_two-in-CoroResult.ensures w k.based)

pub returns-in-IterNext : goal.returns-in-IterNext
returns-in-IterNext c = λ w k. tested-as w c.in-IterNext.is (c.in_four.ensures w k.based)

pub returns-in-HostCall : goal.returns-in-HostCall
returns-in-HostCall c =
    let a = c.args in
    λ w k. tested-as w c.in-HostCall.is (c.is_function-in-HostCall.ensures ∙ function-at w a.functions a.base a.height k _)

pub returns-in-FunctionCall : goal.returns-in-FunctionCall
returns-in-FunctionCall c =
    let a = c.args in
    λ w k. tested-as w c.in-FunctionCall.is
    (and_at c.both-in-FunctionCall.ensures (c.is_function-in-FunctionCall.ensures ∙ function-at w a.functions a.base a.height k _) (c.cont_in.ensures w k.based))

pub returns-in-PutWord : goal.returns-in-PutWord
returns-in-PutWord c = λ w k. tested-as w c.in-PutWord.is (and_at c.both-in-PutWord.ensures (c.in_frame-in-PutWord.ensures w k.based) refl)

pub returns-in_default : goal.returns-in_default
returns-in_default c = λ w k. no-operands c.args.op w c.in_default.in_default-own.keys18
