-- `words_of` meets its contract, by the call. Assumes nothing.
use mathlib.Core.Path.{sym, ap}
use Rattle.memory_calls.specs.Call.{op_words}
use Rattle.memory_calls.proofs.written.words_of.Goals as goal

pub returns-in-CoroNew : goal.returns-in-CoroNew
returns-in-CoroNew c = sym (ap op_words c.in-CoroNew.is)

pub returns-in-CoroNewIndirect : goal.returns-in-CoroNewIndirect
returns-in-CoroNewIndirect c = sym (ap op_words c.in-CoroNewIndirect.is)

pub returns-in-Spawn : goal.returns-in-Spawn
returns-in-Spawn c = sym (ap op_words c.in-Spawn.is)

pub returns-in-Yield : goal.returns-in-Yield
returns-in-Yield c = sym (ap op_words c.in-Yield.is)

pub returns-in-YieldKv : goal.returns-in-YieldKv
returns-in-YieldKv c = sym (ap op_words c.in-YieldKv.is)

pub returns-in-Await : goal.returns-in-Await
returns-in-Await c = sym (ap op_words c.in-Await.is)

pub returns-in-Resume : goal.returns-in-Resume
returns-in-Resume c = sym (ap op_words c.in-Resume.is)

pub returns-in-ResumeThrow : goal.returns-in-ResumeThrow
returns-in-ResumeThrow c = sym (ap op_words c.in-ResumeThrow.is)

pub returns-in-CoroClose : goal.returns-in-CoroClose
returns-in-CoroClose c = sym (ap op_words c.in-CoroClose.is)

pub returns-in-CoroStatus : goal.returns-in-CoroStatus
returns-in-CoroStatus c = sym (ap op_words c.in-CoroStatus.is)

pub returns-in-CoroCurrent : goal.returns-in-CoroCurrent
returns-in-CoroCurrent c = sym (ap op_words c.in-CoroCurrent.is)

pub returns-in-CoroKey : goal.returns-in-CoroKey
returns-in-CoroKey c = sym (ap op_words c.in-CoroKey.is)

pub returns-in-CoroResult : goal.returns-in-CoroResult
returns-in-CoroResult c = sym (ap op_words c.in-CoroResult.is)

pub returns-in-IterNext : goal.returns-in-IterNext
returns-in-IterNext c = sym (ap op_words c.in-IterNext.is)

pub returns-in-Finish : goal.returns-in-Finish
returns-in-Finish c = rw c.kind_code.ensures (sym (ap op_words c.in-Finish.is))

pub returns-in-Unwind : goal.returns-in-Unwind
returns-in-Unwind c = rw (c.number.ensures, c.word.ensures, c.opt_code.ensures, c.opt_word.ensures) (sym (ap op_words c.in-Unwind.is))

pub returns-in-SpawnTask : goal.returns-in-SpawnTask
returns-in-SpawnTask c = sym (ap op_words c.in-SpawnTask.is)

pub returns-in-HostCall : goal.returns-in-HostCall
returns-in-HostCall c = sym (ap op_words c.in-HostCall.is)

pub returns-in-HostEntry : goal.returns-in-HostEntry
returns-in-HostEntry c = sym (ap op_words c.in-HostEntry.is)

pub returns-in-FunctionCall : goal.returns-in-FunctionCall
returns-in-FunctionCall c = rw (c.cont_code.ensures, c.cont_reg.ensures) (sym (ap op_words c.in-FunctionCall.is))

pub returns-in-PutWord : goal.returns-in-PutWord
returns-in-PutWord c = sym (ap op_words c.in-PutWord.is)

pub returns-in-MakeIterator : goal.returns-in-MakeIterator
returns-in-MakeIterator c = sym (ap op_words c.in-MakeIterator.is)

pub returns-in-TakeOutcome : goal.returns-in-TakeOutcome
returns-in-TakeOutcome c = sym (ap op_words c.in-TakeOutcome.is)

pub returns-in-HandOver : goal.returns-in-HandOver
returns-in-HandOver c = sym (ap op_words c.in-HandOver.is)

pub returns-in-Grant : goal.returns-in-Grant
returns-in-Grant c = sym (ap op_words c.in-Grant.is)

pub returns-in-StopRun : goal.returns-in-StopRun
returns-in-StopRun c = sym (ap op_words c.in-StopRun.is)

pub returns-in-Look : goal.returns-in-Look
returns-in-Look c = sym (ap op_words c.in-Look.is)
