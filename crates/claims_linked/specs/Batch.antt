-- A batch of calls is a list of calls of the Claim's engine (claims_memory/specs/Claim.antt), so what is promised of every list of outer
-- calls is promised of every batch. Words that are no call leave the machine as it is, and are not in the list.
use Rattle.std.specs.Prelude.{ℕ, ◌≡◌, true, List, [], ◌∷◌, ◌++◌, map, length, get_or, Result, Ok, Err}
use Rattle.lists.specs.Pick.{pick}
use Rattle.heap.specs.declared.fault.Fault.{Fault}
use Rattle.model.specs.Lists.{is_nil, each}
use Rattle.model.specs.Call.{is_word, Operation}
use Rattle.model.specs.declared.call.Answer.{Answer}
use Rattle.memory_calls.specs.Call.{refusal}
use Rattle.memory_calls.specs.declared.call.Gate.{Gate}
use Rattle.model.specs.declared.call.Op.{Op}
use Rattle.claims_model.specs.Engine.{turn_call, run_turns}
use Rattle.memory_step.specs.Step.{MemoryState, is_sound, decoded, MemoryCall, Do, memory_step}
use Rattle.claims_memory.specs.Engine.{memory_engine}
use Rattle.outer_run.specs.Run.{run_words, calls_in}

-- the calls among what was read, in order
pub data Calls : List (Result Op Gate) → List MemoryCall → Type 0 where
  none : Calls [] []
  is : (o : Operation) (rs : List (Result Op Gate)) (ks : List MemoryCall) → Calls rs ks → Calls (Ok o.op ∷ rs) (Do o ∷ ks)
  not : (g : Gate) (rs : List (Result Op Gate)) (ks : List MemoryCall) → Calls rs ks → Calls (Err g ∷ rs) ks

pub record BatchCalls (rs : List (Result Op Gate)) : Type 0 where
  pub list : List MemoryCall
  pub calls : Calls rs list

pub record Batch : Type 0 where
  -- whatever is read from words of 64 bits
  pub listed : (n : ℕ) (cs : List ℕ) → each is_word cs ≡ true → BatchCalls (calls_in n cs)
  -- what the batch leaves
  pub left : (s : MemoryState) (rs : List (Result Op Gate)) (ks : List MemoryCall) → Calls rs ks → (run_words s rs).state ≡ run_turns memory_engine s (map turn_call ks)
  -- what it answers: as many answers; a call's is its answer after the calls before it; what is no call is refused as the call that its code names
  pub long : (s : MemoryState) (rs : List (Result Op Gate)) → length (run_words s rs).answers ≡ length rs
  pub answer : (s : MemoryState) (rs : List (Result Op Gate)) (ks : List MemoryCall) (o : Operation) (more : List (Result Op Gate)) (d : Answer) → Calls rs ks
      → get_or (run_words s (rs ++ (Ok o.op ∷ more))).answers (length rs) d ≡ (memory_step (run_turns memory_engine s (map turn_call ks)) (Do o)).answer
  pub refused : (s : MemoryState) (rs : List (Result Op Gate)) (ks : List MemoryCall) (g : Gate) (more : List (Result Op Gate)) (d : Answer) → Calls rs ks
      → let t = run_turns memory_engine s (map turn_call ks) in
      get_or (run_words s (rs ++ (Err g ∷ more))).answers (length rs) d ≡ Answer.Refused (pick (is_sound t) (refusal g (is_nil (decoded t).frames)) Fault.Unsound)
