-- An answer in eight words: number, word, step, queue words taken off, case, and of an outcome its kind, function and pc.
use Rattle.std.specs.Prelude.{List, [], ◌∷◌, ℕ, get_or, Option as RustOption, Some, None}
use Rattle.std.proofs.Math.Option.{Option, none, some}
use Rattle.model.specs.Answer.{number_of, word_of, step_of, taken_off}
use Rattle.model.specs.declared.exec.Step.{Step}
use Rattle.model.specs.declared.machine.Stop.{Stop}
use Rattle.model.specs.declared.call.Answer.{Answer}
use Rattle.memory_world.specs.Told.{told, outcome_in}
use Rattle.memory_world.specs.declared.machine.Told.{Told}
use Rattle.memory_calls.specs.Codes.{fault_of}

abbrev pub step_code : Option Step → ℕ
step_code none = 0
step_code (some Step.Next) = 1
step_code (some Step.Frame) = 2
step_code (some (Step.Fault f)) = 3
step_code (some (Step.Unwind f)) = 4

abbrev pub case_code : Answer → ℕ
case_code Answer.Accepted = 0
case_code (Answer.Word v) = 1
case_code (Answer.Refused f) = 2
case_code (Answer.Stepped s n) = 3
case_code (Answer.Cleanup n) = 4
case_code (Answer.Unpaid n) = 5
case_code (Answer.Exit None) = 6
case_code (Answer.Exit (Some v)) = 7
case_code Answer.Resume = 8
case_code Answer.Caught = 9
case_code Answer.Stopped = 10
case_code (Answer.Took o) = 11

abbrev pub outcome_of : Answer → RustOption Stop
outcome_of Answer.Accepted = None
outcome_of (Answer.Word v) = None
outcome_of (Answer.Refused f) = None
outcome_of (Answer.Stepped s n) = None
outcome_of (Answer.Cleanup n) = None
outcome_of (Answer.Unpaid n) = None
outcome_of (Answer.Exit v) = None
outcome_of Answer.Resume = None
outcome_of Answer.Caught = None
outcome_of Answer.Stopped = None
outcome_of (Answer.Took o) = o

abbrev pub answer_words : Answer → List ℕ
answer_words a =
    let o = told (outcome_of a) in
    number_of a ∷ word_of a ∷ step_code (step_of a) ∷ taken_off a ∷ case_code a ∷ o.0 ∷ o.2 ∷ o.3 ∷ []

-- an exit's
abbrev pub exit_words : RustOption ℕ → List ℕ
exit_words v = answer_words (Answer.Exit v)

-- an outcome's
abbrev pub told_stop : Stop → Told
told_stop s = told (Some s)

-- ---- the answer of its words: of each case, from 0 on

abbrev pub step_by : ℕ → ℕ → ℕ → Step
step_by s n w = get_or (Step.Next ∷ Step.Next ∷ Step.Frame ∷ Step.Fault (fault_of n w) ∷ []) s (Step.Unwind (fault_of n w))

abbrev pub outcome_by : ℕ → ℕ → ℕ → ℕ → RustOption Stop
outcome_by k v f pc = outcome_in (record { 0 = k; 1 = v; 2 = f; 3 = pc })

abbrev pub answer_by : ℕ → ℕ → ℕ → ℕ → ℕ → ℕ → ℕ → ℕ → Answer
answer_by n v s t c k f pc =
    get_or
    (Answer.Accepted ∷ Answer.Word v ∷ Answer.Refused (fault_of n v) ∷ Answer.Stepped (step_by s n v) t ∷ Answer.Cleanup t ∷ Answer.Unpaid t
    ∷ Answer.Exit None ∷ Answer.Exit (Some v) ∷ Answer.Resume ∷ Answer.Caught ∷ Answer.Stopped ∷ [])
    c (Answer.Took (outcome_by k v f pc))

abbrev pub answer_in : List ℕ → Answer
answer_in ws = answer_by (get_or ws 0 0) (get_or ws 1 0) (get_or ws 2 0) (get_or ws 3 0) (get_or ws 4 0) (get_or ws 5 0) (get_or ws 6 0) (get_or ws 7 0)
