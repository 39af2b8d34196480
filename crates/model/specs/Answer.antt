-- 01: the number and word of an answer, its Step, and the queue words that it took off.
use Rattle.std.specs.Prelude.{ℕ, Option as RustOption, Some, None}
use Rattle.std.proofs.Math.Option.{Option, none, some}
use Rattle.heap.specs.Word.{nil}
use Rattle.heap.specs.Fault as Faults
use Rattle.heap.specs.declared.fault.Fault.{Fault}
use Rattle.model.specs.Machine.{or_nil}
use Rattle.model.specs.declared.machine.Stop.{Stop}
use Rattle.model.specs.declared.exec.Step.{Step}
use Rattle.model.specs.declared.call.Answer.{Answer}

abbrev pub step_number : Step → ℕ
step_number Step.Next = 0
step_number Step.Frame = 0
step_number (Step.Fault f) = Faults.number_of f
step_number (Step.Unwind f) = Faults.number_of f

-- 01: Fault sheet
abbrev pub number_of : Answer → ℕ
number_of Answer.Accepted = 0
number_of (Answer.Word v) = 0
number_of (Answer.Refused f) = Faults.number_of f
number_of (Answer.Stepped s n) = step_number s
number_of (Answer.Cleanup n) = 17
number_of (Answer.Unpaid n) = 10
number_of (Answer.Exit v) = 0
number_of Answer.Resume = 0
number_of Answer.Caught = 0
number_of Answer.Stopped = 0
number_of (Answer.Took o) = 0

abbrev pub step_word : Step → ℕ
step_word Step.Next = 0
step_word Step.Frame = 0
step_word (Step.Fault f) = Faults.word_of f
step_word (Step.Unwind f) = Faults.word_of f

-- take outcome's word: that of the stop, and 0 where there is none
abbrev pub stop_word : Stop → ℕ
stop_word (Stop.Yielded v) = v
stop_word (Stop.Awaiting v) = v
stop_word (Stop.Returned v) = v
stop_word (Stop.Failed v f pc) = v
stop_word Stop.CloseIgnored = 0

abbrev pub outcome_word : RustOption Stop → ℕ
outcome_word None = 0
outcome_word (Some s) = stop_word s

-- 01: "A refused answer's word is 0, except for 17 .. an accepted call with no word of its own answers 0."
abbrev pub word_of : Answer → ℕ
word_of Answer.Accepted = 0
word_of (Answer.Word v) = v
word_of (Answer.Refused f) = Faults.word_of f
word_of (Answer.Stepped s n) = step_word s
word_of (Answer.Cleanup n) = nil
word_of (Answer.Unpaid n) = 0
word_of (Answer.Exit v) = or_nil v
word_of Answer.Resume = 0
word_of Answer.Caught = 0
word_of Answer.Stopped = 0
word_of (Answer.Took o) = outcome_word o

-- 01: "An instruction's answer names its `Step` as well."
abbrev pub step_of : Answer → Option Step
step_of Answer.Accepted = none
step_of (Answer.Word v) = none
step_of (Answer.Refused f) = none
step_of (Answer.Stepped s n) = some s
step_of (Answer.Cleanup n) = some (Step.Unwind (Fault.Throw nil))
step_of (Answer.Unpaid n) = some (Step.Fault Fault.OutOfFuel)
step_of (Answer.Exit v) = none
step_of Answer.Resume = none
step_of Answer.Caught = none
step_of Answer.Stopped = none
step_of (Answer.Took o) = none

-- 01: "reports how many queue words it took off"
abbrev pub taken_off : Answer → ℕ
taken_off Answer.Accepted = 0
taken_off (Answer.Word v) = 0
taken_off (Answer.Refused f) = 0
taken_off (Answer.Stepped s n) = n
taken_off (Answer.Cleanup n) = n
taken_off (Answer.Unpaid n) = n
taken_off (Answer.Exit v) = 0
taken_off Answer.Resume = 0
taken_off Answer.Caught = 0
taken_off Answer.Stopped = 0
taken_off (Answer.Took o) = 0
