-- `pc_of` meets its contract, by the operation. Assumes nothing.
use mathlib.Core.Path.{sym, ap, ◌∙◌}
use native.Mathlib.Omega.{arith}
use Rattle.model.specs.Calls.{table}
use Rattle.exec_arm.proofs.Tags.{no_arm, pc_of}
use borrow.Author.Rules.{rules}
use Rattle.exec_instruction.proofs.operands.pc_of.Goals as goal

pub returns-in-CoroNew : goal.returns-in-CoroNew
returns-in-CoroNew c = record { is = λ n t arm q. sym (ap (λ o. pc_of (table o)) c.in-CoroNew.is) ∙ ap pc_of q; narrow = search rules }

pub returns-in-CoroNewIndirect : goal.returns-in-CoroNewIndirect
returns-in-CoroNewIndirect c = record { is = λ n t arm q. sym (ap (λ o. pc_of (table o)) c.in-CoroNewIndirect.is) ∙ ap pc_of q; narrow = search rules }

pub returns-in-Spawn : goal.returns-in-Spawn
returns-in-Spawn c = record { is = λ n t arm q. sym (ap (λ o. pc_of (table o)) c.in-Spawn.is) ∙ ap pc_of q; narrow = search rules }

pub returns-in-Yield : goal.returns-in-Yield
returns-in-Yield c = record { is = λ n t arm q. sym (ap (λ o. pc_of (table o)) c.in-Yield.is) ∙ ap pc_of q; narrow = search rules }

pub returns-in-YieldKv : goal.returns-in-YieldKv
returns-in-YieldKv c = record { is = λ n t arm q. sym (ap (λ o. pc_of (table o)) c.in-YieldKv.is) ∙ ap pc_of q; narrow = search rules }

pub returns-in-Await : goal.returns-in-Await
returns-in-Await c = record { is = λ n t arm q. sym (ap (λ o. pc_of (table o)) c.in-Await.is) ∙ ap pc_of q; narrow = search rules }

pub returns-in-Resume : goal.returns-in-Resume
returns-in-Resume c = record { is = λ n t arm q. sym (ap (λ o. pc_of (table o)) c.in-Resume.is) ∙ ap pc_of q; narrow = search rules }

pub returns-in-ResumeThrow : goal.returns-in-ResumeThrow
returns-in-ResumeThrow c = record { is = λ n t arm q. sym (ap (λ o. pc_of (table o)) c.in-ResumeThrow.is) ∙ ap pc_of q; narrow = search rules }

pub returns-in-CoroClose : goal.returns-in-CoroClose
returns-in-CoroClose c = record { is = λ n t arm q. sym (ap (λ o. pc_of (table o)) c.in-CoroClose.is) ∙ ap pc_of q; narrow = search rules }

pub returns-in-CoroStatus : goal.returns-in-CoroStatus
returns-in-CoroStatus c = record { is = λ n t arm q. sym (ap (λ o. pc_of (table o)) c.in-CoroStatus.is) ∙ ap pc_of q; narrow = search rules }

pub returns-in-CoroCurrent : goal.returns-in-CoroCurrent
returns-in-CoroCurrent c = record { is = λ n t arm q. sym (ap (λ o. pc_of (table o)) c.in-CoroCurrent.is) ∙ ap pc_of q; narrow = search rules }

pub returns-in-CoroKey : goal.returns-in-CoroKey
returns-in-CoroKey c = record { is = λ n t arm q. sym (ap (λ o. pc_of (table o)) c.in-CoroKey.is) ∙ ap pc_of q; narrow = search rules }

pub returns-in-CoroResult : goal.returns-in-CoroResult
returns-in-CoroResult c = record { is = λ n t arm q. sym (ap (λ o. pc_of (table o)) c.in-CoroResult.is) ∙ ap pc_of q; narrow = search rules }

pub returns-in-IterNext : goal.returns-in-IterNext
returns-in-IterNext c = record { is = λ n t arm q. sym (ap (λ o. pc_of (table o)) c.in-IterNext.is) ∙ ap pc_of q; narrow = search rules }

pub returns-in_default : goal.returns-in_default
returns-in_default c = record { is = no_arm c.args.op _ c.in_default.in_default-own.keys15; narrow = omega arith }
