-- 01: "Answers": the word and the Step of every answer, and the part that a look hands back.
use Rattle.std.specs.Prelude.{ℕ, ◌≡◌, Bool, true, false, not, ◌&&◌, List, [], ◌∷◌, length, drop, eqb, leb, Option, Some, None}
use Rattle.std.proofs.Math.Option.{none, some}
use Rattle.lists.specs.Pick.{pick}
use Rattle.heap.specs.Fault as Faults
use Rattle.heap.specs.declared.fault.Fault.{Fault}
use Rattle.model.specs.Lists.{among}
use Rattle.model.specs.Program.{Setup}
use Rattle.model.specs.Object.{Object}
use Rattle.model.specs.World.{World}
use Rattle.model.specs.Sound.{sound}
use Rattle.model.specs.Answer.{number_of, word_of, step_of}
use Rattle.model.specs.Call.{Call, SetUp, Do, Operation, typed, as_call}
use Rattle.model.specs.Step.{step}
use Rattle.model.specs.declared.machine.Cont.{Cont}
use Rattle.model.specs.declared.machine.Frame.{Frame}
use Rattle.model.specs.declared.machine.Stop.{Stop}
use Rattle.model.specs.declared.exec.Step.{Step}
use Rattle.model.specs.declared.call.Op.{Op}
use Rattle.claims_sheet.specs.Does.{number, operation}
use Rattle.claims_sheet.specs.Lines.{fault}
use Rattle.claims_sheet.specs.Words.{word, found}
use Rattle.claims_sheet.specs.Charging.{starts}
use Rattle.claims_sheet.specs.Makings.{new_word}
use Rattle.claims_sheet.specs.Endings.{result, or_nil}

-- ---- words

-- finish exits with its word where an Entry frame is on top, or none
abbrev pub exit_by : Cont → Option ℕ → ℕ
exit_by Cont.Entry v = or_nil v
exit_by (Cont.Write r) v = 0
exit_by (Cont.Dyn r) v = 0
exit_by (Cont.Value r) v = 0
exit_by Cont.Discard v = 0
exit_by Cont.Coro v = 0

abbrev pub exit_word : List Frame → Option ℕ → ℕ
exit_word [] v = or_nil v
exit_word (f ∷ fs) v = exit_by f.cont v

-- an outcome's word: a failure's is what was thrown, or the error object
abbrev pub outcome_word : Option Stop → ℕ
outcome_word None = 0
outcome_word (Some (Stop.Yielded v)) = v
outcome_word (Some (Stop.Awaiting v)) = v
outcome_word (Some (Stop.Returned v)) = v
outcome_word (Some (Stop.Failed v f pc)) = v
outcome_word (Some Stop.CloseIgnored) = 0

-- "an accepted call with no word of its own answers 0"; "make iterator and `spawn_task` answer their object's word"
abbrev pub word_for : Op → World → ℕ
word_for (Op.CoroNew pc dst f argc) w = 0
word_for (Op.CoroNewIndirect pc dst c argc) w = 0
word_for (Op.Spawn pc dst c argc) w = 0
word_for (Op.Yield pc dst src) w = 0
word_for (Op.YieldKv pc dst src key) w = 0
word_for (Op.Await pc dst src) w = 0
word_for (Op.Resume pc dst c src) w = 0
word_for (Op.ResumeThrow pc dst c src) w = 0
word_for (Op.CoroClose pc dst c src) w = 0
word_for (Op.CoroStatus pc dst c) w = 0
word_for (Op.CoroCurrent pc dst) w = 0
word_for (Op.CoroKey pc dst c) w = 0
word_for (Op.CoroResult pc dst c) w = 0
word_for (Op.IterNext pc has iter val src) w = 0
word_for (Op.Finish kind v) w = exit_word w.frames (result kind v)
word_for (Op.Unwind f pc) w = 0
word_for (Op.SpawnTask v) w = v
word_for (Op.HostCall f) w = 0
word_for (Op.HostEntry c v) w = 0
word_for (Op.FunctionCall pc f cont) w = 0
word_for (Op.PutWord r v) w = 0
word_for (Op.MakeIterator v) w = new_word w
word_for Op.TakeOutcome w = outcome_word w.outcome
word_for (Op.HandOver v) w = 0
word_for (Op.Grant n) w = 0
word_for Op.StopRun w = 0
word_for Op.Look w = 0

-- a cleanup that the charge starts raises nil; else the word is that of the instruction's register
abbrev pub raised_by : ℕ → ℕ → World → ℕ
raised_by pc src w = pick (starts pc w) 0 (word w src)

-- "a thrown or uncaught word": `unwind` "answers 17 with the error object or thrown word"
abbrev pub thrown_for : Op → World → ℕ
thrown_for (Op.CoroNew pc dst f argc) w = 0
thrown_for (Op.CoroNewIndirect pc dst c argc) w = 0
thrown_for (Op.Spawn pc dst c argc) w = 0
thrown_for (Op.Yield pc dst src) w = 0
thrown_for (Op.YieldKv pc dst src key) w = 0
thrown_for (Op.Await pc dst src) w = 0
thrown_for (Op.Resume pc dst c src) w = 0
thrown_for (Op.ResumeThrow pc dst c src) w = raised_by pc src w
thrown_for (Op.CoroClose pc dst c src) w = raised_by pc src w
thrown_for (Op.CoroStatus pc dst c) w = 0
thrown_for (Op.CoroCurrent pc dst) w = 0
thrown_for (Op.CoroKey pc dst c) w = 0
thrown_for (Op.CoroResult pc dst c) w = 0
thrown_for (Op.IterNext pc has iter val src) w = 0
thrown_for (Op.Finish kind v) w = 0
thrown_for (Op.Unwind f pc) w = pick (leb (Faults.number_of f) 8) (new_word w) (Faults.word_of f)
thrown_for (Op.SpawnTask v) w = 0
thrown_for (Op.HostCall f) w = 0
thrown_for (Op.HostEntry c v) w = 0
thrown_for (Op.FunctionCall pc f cont) w = 0
thrown_for (Op.PutWord r v) w = 0
thrown_for (Op.MakeIterator v) w = 0
thrown_for Op.TakeOutcome w = 0
thrown_for (Op.HandOver v) w = 0
thrown_for (Op.Grant n) w = 0
thrown_for Op.StopRun w = 0
thrown_for Op.Look w = 0

-- ---- Steps

-- 01: "The fourteen instruction calls"
abbrev pub is_instruction : Op → Bool
is_instruction (Op.CoroNew pc dst f argc) = true
is_instruction (Op.CoroNewIndirect pc dst c argc) = true
is_instruction (Op.Spawn pc dst c argc) = true
is_instruction (Op.Yield pc dst src) = true
is_instruction (Op.YieldKv pc dst src key) = true
is_instruction (Op.Await pc dst src) = true
is_instruction (Op.Resume pc dst c src) = true
is_instruction (Op.ResumeThrow pc dst c src) = true
is_instruction (Op.CoroClose pc dst c src) = true
is_instruction (Op.CoroStatus pc dst c) = true
is_instruction (Op.CoroCurrent pc dst) = true
is_instruction (Op.CoroKey pc dst c) = true
is_instruction (Op.CoroResult pc dst c) = true
is_instruction (Op.IterNext pc has iter val src) = true
is_instruction (Op.Finish kind v) = false
is_instruction (Op.Unwind f pc) = false
is_instruction (Op.SpawnTask v) = false
is_instruction (Op.HostCall f) = false
is_instruction (Op.HostEntry c v) = false
is_instruction (Op.FunctionCall pc f cont) = false
is_instruction (Op.PutWord r v) = false
is_instruction (Op.MakeIterator v) = false
is_instruction Op.TakeOutcome = false
is_instruction (Op.HandOver v) = false
is_instruction (Op.Grant n) = false
is_instruction Op.StopRun = false
is_instruction Op.Look = false

-- another frame or another coroutine is on top: the frames, or the active coroutines, are not as many as before
abbrev pub moves : World → World → Bool
moves w x = not (eqb (length x.frames) (length w.frames) && eqb (length x.chain) (length w.chain))

-- the fault of a number; 17 has its word
abbrev pub fault_for : ℕ → ℕ → Fault
fault_for n v = pick (eqb n 17) (Fault.Throw v) (fault n)

-- Next and Fault go on in the frame that stood on top; Frame and Unwind in another. Told by what the call leaves: by call and
-- number it would be the table a second time.
abbrev pub step_for : ℕ → ℕ → Bool → Step
step_for n v moved = pick (eqb n 0) (pick moved Step.Frame Step.Next) (pick moved (Step.Unwind (fault_for n v)) (Step.Fault (fault_for n v)))

pub record Answers : Type 0 where
  pub word : (w : World) (o : Operation) → number w o ≡ 0 → word_of (step w (Do o)).answer ≡ word_for o.op w
  pub set-up-word : (w : World) (s : Setup) → word_of (step w (SetUp s)).answer ≡ 0
  -- the word that make iterator answers finds its iterator: "over a coroutine, not done, no key"
  pub iterator : (w : World) (v : ℕ) (t : typed (Op.MakeIterator v) ≡ true) → let o = operation (Op.MakeIterator v) t in
      number w o ≡ 0 → found (step w (Do o)).world (word_of (step w (Do o)).answer) ≡ Object.Iter v false None
  -- 17's word
  pub thrown-word : (w : World) (o : Operation) → number w o ≡ 17 → word_of (step w (Do o)).answer ≡ thrown_for o.op w
  -- 11 to 13, 15 and 16 have no Step, nor has a call that is no instruction
  pub no_step : (w : World) (c : Call) → among (number_of (step w c).answer) (11 ∷ 12 ∷ 13 ∷ 15 ∷ 16 ∷ []) ≡ true → step_of (step w c).answer ≡ none
  pub no-instruction : (w : World) (o : Operation) → is_instruction o.op ≡ false → step_of (step w (Do o)).answer ≡ none
  -- any other answer of an instruction has one: 0 has Next or Frame; a fault has Fault, as 9 and 14 and a word thrown into a new coroutine, or
  -- Unwind, where another has been entered or has suspended
  pub step_is : (w : World) (o : Operation) → is_instruction o.op ≡ true → among (number w o) (11 ∷ 12 ∷ 13 ∷ []) ≡ false →
      step_of (step w (Do o)).answer ≡ some (step_for (number w o) (word_of (step w (Do o)).answer) (moves w (step w (Do o)).world))
  -- a look hands back the words from the top base to the stack's end, without a frame an empty part; no other call hands back any
  pub look : (w : World) (t : typed Op.Look ≡ true) (f : Frame) (fs : List Frame) → sound w ≡ true → w.frames ≡ f ∷ fs → (step w (as_call Op.Look t)).seen ≡ drop f.base w.stack
  pub look-empty : (w : World) (t : typed Op.Look ≡ true) → w.frames ≡ [] → (step w (as_call Op.Look t)).seen ≡ []
  pub no-look : (w : World) (o : Operation) → (o.op ≡ Op.Look → ⊥) → (step w (Do o)).seen ≡ []
