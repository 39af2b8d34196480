use Rattle.heap.proofs.fault.Fault.number.Goals as goal

pub returns-in-None : goal.returns-in-None
returns-in-None c = rw c.in-None.is

pub returns-in-NullReference : goal.returns-in-NullReference
returns-in-NullReference c = rw c.in-NullReference.is

pub returns-in-TypeError : goal.returns-in-TypeError
returns-in-TypeError c = rw c.in-TypeError.is

pub returns-in-InvalidCoroState : goal.returns-in-InvalidCoroState
returns-in-InvalidCoroState c = rw c.in-InvalidCoroState.is

pub returns-in-StackOverflow : goal.returns-in-StackOverflow
returns-in-StackOverflow c = rw c.in-StackOverflow.is

pub returns-in-CannotSuspend : goal.returns-in-CannotSuspend
returns-in-CannotSuspend c = rw c.in-CannotSuspend.is

pub returns-in-CloseIgnored : goal.returns-in-CloseIgnored
returns-in-CloseIgnored c = rw c.in-CloseIgnored.is

pub returns-in-ArithOverflow : goal.returns-in-ArithOverflow
returns-in-ArithOverflow c = rw c.in-ArithOverflow.is

pub returns-in-NoScheduler : goal.returns-in-NoScheduler
returns-in-NoScheduler c = rw c.in-NoScheduler.is

pub returns-in-OutOfMemory : goal.returns-in-OutOfMemory
returns-in-OutOfMemory c = rw c.in-OutOfMemory.is

pub returns-in-OutOfFuel : goal.returns-in-OutOfFuel
returns-in-OutOfFuel c = rw c.in-OutOfFuel.is

pub returns-in-Unsound : goal.returns-in-Unsound
returns-in-Unsound c = rw c.in-Unsound.is

pub returns-in-NoFrame : goal.returns-in-NoFrame
returns-in-NoFrame c = rw c.in-NoFrame.is

pub returns-in-BadOperand : goal.returns-in-BadOperand
returns-in-BadOperand c = rw c.in-BadOperand.is

pub returns-in-Full : goal.returns-in-Full
returns-in-Full c = rw c.in-Full.is

pub returns-in-Busy : goal.returns-in-Busy
returns-in-Busy c = rw c.in-Busy.is

pub returns-in-GrantTooLarge : goal.returns-in-GrantTooLarge
returns-in-GrantTooLarge c = rw c.in-GrantTooLarge.is

pub returns-in-Throw : goal.returns-in-Throw
returns-in-Throw c = rw c.in-Throw.is
