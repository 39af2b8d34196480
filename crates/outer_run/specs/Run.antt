-- Calls in words: each is the outer call that its words are, one after the other.
use Rattle.std.specs.Prelude.{◌≡◌, true, List, [], ◌∷◌, ℕ, ◌+◌, ◌*◌, ◌/◌, ◌%◌, ◌≤◌, length, replicate, eqb, Result, Ok, Err}
use Rattle.lists.specs.Pick.{pick}
use Rattle.lists.specs.Chunks.{chunk_at, chunks, words}
use Rattle.lists.specs.Parts.{splice}
use Rattle.model.specs.Lists.{is_nil}
use Rattle.heap.specs.declared.fault.Fault.{Fault}
use Rattle.model.specs.declared.call.Answer.{Answer}
use Rattle.memory_world.specs.declared.machine.Sizes.{Sizes}
use Rattle.memory_calls.specs.Call.{refusal, op_of}
use Rattle.memory_calls.specs.Answer.{answer_words}
use Rattle.memory_calls.specs.declared.call.Gate.{Gate}
use Rattle.model.specs.declared.call.Op.{Op}
use Rattle.memory_step.specs.Step.{MemoryState, Left, refuses, is_sound, decoded, step_words}
use Rattle.outer_call.specs.State.{SoundFits}

-- ---- one

-- words that are no call are refused too in 01's order: "Each tests 11 first, then 12 or 15, then 13 or 16"
abbrev pub do_words : MemoryState → Result Op Gate → Left
do_words s (Ok o) = step_words s o
do_words s (Err g) = refuses s (pick (is_sound s) (refusal g (is_nil (decoded s).frames)) Fault.Unsound)

-- ---- a list: the states one after the other, and the answers

pub record Ran : Type 0 where
  pub state : MemoryState
  pub answers : List Answer

abbrev pub run_words : MemoryState → List (Result Op Gate) → Ran
run_words s [] = record { state = s; answers = [] }
run_words s (r ∷ rs) =
    let d = do_words s r in
    let t = run_words d.state rs in
    record { state = t.state; answers = d.answer ∷ t.answers }

-- ---- in words: six a call, a last part of fewer than six being one that is none; eight an answer

abbrev pub count_of : ℕ → ℕ
count_of n = n / 6 + pick (eqb (n % 6) 0) 0 1

abbrev pub read_in : List ℕ → ℕ → Result Op Gate
read_in cs i = op_of (chunk_at 6 cs i)

abbrev pub calls_in : ℕ → List ℕ → List (Result Op Gate)
calls_in n cs = chunks 6 op_of n cs

abbrev pub written : List ℕ → ℕ → List Answer → List ℕ
written xs at answers = splice xs at (words answer_words answers)

-- each of n calls answered 11
abbrev pub refusals : ℕ → List Answer
refusals n = replicate n (Answer.Refused Fault.Unsound)

-- ---- what the functions ask and promise, on sound words

pub record Reads (s : MemoryState) (r : Result Op Gate) (d : Left) : Type 0 where
  pub is : d ≡ do_words s r
  -- so the next call may be made
  pub again : is_sound d.state ≡ true

-- as many calls as the words hold, and words enough for their answers
pub record ListFits (sizes : Sizes) (s : MemoryState) (cs xs : List ℕ) (n : ℕ) : Type 0 where
  pub fits : SoundFits sizes s
  pub calls : n ≡ count_of (length cs)
  pub room : n * 8 ≤ length xs

pub record Listed (s : MemoryState) (cs xs : List ℕ) (n : ℕ) (s' : MemoryState) (xs' : List ℕ) : Type 0 where
  pub state : s' ≡ (run_words s (calls_in n cs)).state
  pub answers : xs' ≡ written xs 0 (run_words s (calls_in n cs)).answers
