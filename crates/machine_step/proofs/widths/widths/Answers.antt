-- `widths` meets its contract: each operand lies in the range of its type. Assumes nothing.
use mathlib.Core.Path.{◌≡◌, refl, subst}
use mathlib.Core.Bool.{true}
use Rattle.heap.specs.Fault.{word_of}
use Rattle.model.specs.Call.{is_word, opt_pc, typed}
use Rattle.machine_step.proofs.InRange.{both, as-op, in-range}
use Rattle.machine_step.proofs.widths.widths.Goals as goal

pub returns-in-CoroNew : goal.returns-in-CoroNew
returns-in-CoroNew c = as-op c.in-CoroNew.is (unfold typed in search in-range depth 9)

pub returns-in-CoroNewIndirect : goal.returns-in-CoroNewIndirect
returns-in-CoroNewIndirect c = as-op c.in-CoroNewIndirect.is (unfold typed in search in-range depth 9)

pub returns-in-Spawn : goal.returns-in-Spawn
returns-in-Spawn c = as-op c.in-Spawn.is (unfold typed in search in-range depth 9)

pub returns-in-Yield : goal.returns-in-Yield
returns-in-Yield c = as-op c.in-Yield.is (unfold typed in search in-range depth 9)

pub returns-in-YieldKv : goal.returns-in-YieldKv
returns-in-YieldKv c = as-op c.in-YieldKv.is (unfold typed in search in-range depth 9)

pub returns-in-Await : goal.returns-in-Await
returns-in-Await c = as-op c.in-Await.is (unfold typed in search in-range depth 9)

pub returns-in-Resume : goal.returns-in-Resume
returns-in-Resume c = as-op c.in-Resume.is (unfold typed in search in-range depth 9)

pub returns-in-ResumeThrow : goal.returns-in-ResumeThrow
returns-in-ResumeThrow c = as-op c.in-ResumeThrow.is (unfold typed in search in-range depth 9)

pub returns-in-CoroClose : goal.returns-in-CoroClose
returns-in-CoroClose c = as-op c.in-CoroClose.is (unfold typed in search in-range depth 9)

pub returns-in-CoroStatus : goal.returns-in-CoroStatus
returns-in-CoroStatus c = as-op c.in-CoroStatus.is (unfold typed in search in-range depth 9)

pub returns-in-CoroCurrent : goal.returns-in-CoroCurrent
returns-in-CoroCurrent c = as-op c.in-CoroCurrent.is (unfold typed in search in-range depth 9)

pub returns-in-CoroKey : goal.returns-in-CoroKey
returns-in-CoroKey c = as-op c.in-CoroKey.is (unfold typed in search in-range depth 9)

pub returns-in-CoroResult : goal.returns-in-CoroResult
returns-in-CoroResult c = as-op c.in-CoroResult.is (unfold typed in search in-range depth 9)

pub returns-in-IterNext : goal.returns-in-IterNext
returns-in-IterNext c = as-op c.in-IterNext.is (unfold typed in search in-range depth 9)

pub returns-in-Finish : goal.returns-in-Finish
returns-in-Finish c = as-op c.in-Finish.is (unfold typed in search in-range depth 9)

pub returns-in-Unwind : goal.returns-in-Unwind
unfolding typed
returns-in-Unwind c =
    let w = c.word-w in
    let within : is_word w.result ≡ true = search in-range in
    as-op c.in-Unwind.is (both (is_word (word_of c.in-Unwind.fault)) (opt_pc c.in-Unwind.pc) (subst (λ v. is_word v ≡ true) w.ensures within) c.opt_pc.ensures)

pub returns-in-SpawnTask : goal.returns-in-SpawnTask
returns-in-SpawnTask c = as-op c.in-SpawnTask.is (unfold typed in search in-range depth 9)

pub returns-in-HostCall : goal.returns-in-HostCall
returns-in-HostCall c = as-op c.in-HostCall.is (unfold typed in search in-range depth 9)

pub returns-in-HostEntry : goal.returns-in-HostEntry
returns-in-HostEntry c = as-op c.in-HostEntry.is (unfold typed in search in-range depth 9)

pub returns-in-FunctionCall : goal.returns-in-FunctionCall
returns-in-FunctionCall c = as-op c.in-FunctionCall.is (unfold typed in search in-range depth 9)

pub returns-in-PutWord : goal.returns-in-PutWord
returns-in-PutWord c = as-op c.in-PutWord.is (unfold typed in search in-range depth 9)

pub returns-in-MakeIterator : goal.returns-in-MakeIterator
returns-in-MakeIterator c = as-op c.in-MakeIterator.is (unfold typed in search in-range depth 9)

pub returns-in-TakeOutcome : goal.returns-in-TakeOutcome
returns-in-TakeOutcome c = as-op c.in-TakeOutcome.is (unfold typed in refl)

pub returns-in-HandOver : goal.returns-in-HandOver
returns-in-HandOver c = as-op c.in-HandOver.is (unfold typed in search in-range depth 9)

pub returns-in-Grant : goal.returns-in-Grant
returns-in-Grant c = as-op c.in-Grant.is (unfold typed in search in-range depth 9)

pub returns-in-StopRun : goal.returns-in-StopRun
returns-in-StopRun c = as-op c.in-StopRun.is (unfold typed in refl)

pub returns-in-Look : goal.returns-in-Look
returns-in-Look c = as-op c.in-Look.is (unfold typed in refl)
