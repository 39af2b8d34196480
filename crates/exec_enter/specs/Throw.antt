-- coro.rs: exec, ResumeThrow: what an entry leads to.
use Rattle.std.specs.Prelude.{ℕ, Result, Ok, Err}
use Rattle.heap.specs.declared.fault.Fault.{Fault}
use Rattle.model.specs.declared.coro.Entered.{Entered}
use Rattle.model.specs.declared.exec.Step.{Step}

-- a word raised where the entered coroutine was suspended
abbrev pub raised : ℕ → Result Entered Fault → Step
raised v (Ok a) = Step.Unwind (Fault.Throw v)
raised v (Err f) = Step.Fault f
