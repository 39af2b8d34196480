-- fault.rs: Fault. 01: Fault sheet.
use Rattle.std.specs.Prelude.{ℕ}
use Rattle.heap.specs.declared.fault.Fault.{Fault}
use Rattle.heap.specs.declared.fault.Fault.TheVariants as F

-- 01: the number of each case
abbrev pub number_of : Fault → ℕ
number_of F.None = 0
number_of F.NullReference = 1
number_of F.TypeError = 2
number_of F.InvalidCoroState = 3
number_of F.StackOverflow = 4
number_of F.CannotSuspend = 5
number_of F.CloseIgnored = 6
number_of F.ArithOverflow = 7
number_of F.NoScheduler = 8
number_of F.OutOfMemory = 9
number_of F.OutOfFuel = 10
number_of F.Unsound = 11
number_of F.NoFrame = 12
number_of F.BadOperand = 13
number_of F.Full = 14
number_of F.Busy = 15
number_of F.GrantTooLarge = 16
number_of (F.Throw w) = 17

-- 01: "A refused answer's word is 0, except for 17."
abbrev pub word_of : Fault → ℕ
word_of F.None = 0
word_of F.NullReference = 0
word_of F.TypeError = 0
word_of F.InvalidCoroState = 0
word_of F.StackOverflow = 0
word_of F.CannotSuspend = 0
word_of F.CloseIgnored = 0
word_of F.ArithOverflow = 0
word_of F.NoScheduler = 0
word_of F.OutOfMemory = 0
word_of F.OutOfFuel = 0
word_of F.Unsound = 0
word_of F.NoFrame = 0
word_of F.BadOperand = 0
word_of F.Full = 0
word_of F.Busy = 0
word_of F.GrantTooLarge = 0
word_of (F.Throw w) = w
