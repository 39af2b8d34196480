-- What a program that links the library may rely on, from one call to the next. The functions are those of linked_calls/specs/Host.antt, each
-- equal to its code; a call's words, as all lent words, have 64 bits.
use Rattle.std.specs.Prelude.{ℕ, ◌-◌, ◌*◌, ◌≤◌, ◌<◌, ◌≡◌, true, false, ◌&&◌, ◌⊎◌, List, [], ◌∷◌, ◌++◌, map, length, get_or, drop, replicate, Result, Ok, Err}
use Rattle.lists.specs.Chunks.{words}
use Rattle.lists.specs.Parts.{part, splice}
use Rattle.heap.specs.declared.fault.Fault.{Fault}
use Rattle.model.specs.Lists.{is_nil, each, among}
use Rattle.model.specs.Answer as Said
use Rattle.model.specs.Frames.{top_base}
use Rattle.model.specs.Call.{is_word, Operation}
use Rattle.model.specs.declared.call.Op.{Op}
use Rattle.model.specs.declared.call.Answer.{Answer}
use Rattle.memory_world.specs.Words.{sizes_of}
use Rattle.memory_world.specs.Decode.{setup_of}
use Rattle.machine_added.specs.Look.{end_on}
use Rattle.memory_calls.specs.Call.{refusal, op_of}
use Rattle.memory_calls.specs.Answer.{answer_words}
use Rattle.memory_calls.specs.declared.call.Gate.{Gate}
use Rattle.claims_model.specs.Engine as Engine
use Rattle.claims_model.specs.Engine.{run_turns}
use Rattle.memory_step.specs.Step.{is_sound, decoded, looked, set_up_ok, MemoryCall, SetUp, Do, memory_step}
use Rattle.memory_step.specs.Sentences.{unchanging, NoSuchFault}
use Rattle.claims_memory.specs.Engine.{memory_engine}
use Rattle.outer_run.specs.Run.{run_words, count_of, calls_in}
use Rattle.linked_calls.specs.Words.{sizes_in}
use Rattle.linked_calls.specs.Host.{Host, host, state_of, passes_test, gave, tells, kept_in, short, call_in, Granted, saw, look_in, long, set_up_in, run_host}
use Rattle.claims_linked.specs.Batch.{Calls}

-- an unwind of a fault that is none of 01's, in words or in its operand
pub data NoFault : Result Op Gate → Type 0 where
  unknown : NoFault (Err Gate.NoFault)
  none-such : (o : Op) → NoSuchFault o → NoFault (Ok o)

-- a machine that passes: 25 words and four of fuel, flags are 0 or 1, an amount is set aside only where there is a bank, the outcome is one of
-- six, the sizes are the set-up's, and the words are sound (01)
pub record Passes (h : Host) : Type 0 where
  pub machine : 25 ≤ length h.machine
  pub fuel : 4 ≤ length h.fuel
  pub running : get_or h.machine 6 0 ≤ 1
  pub ready : get_or h.fuel 3 0 ≤ 1
  pub bank : (get_or h.fuel 1 0 ≡ 1) ⊎ ((get_or h.fuel 1 0 ≡ 0) × (get_or h.fuel 2 0 ≡ 0))
  pub outcome : get_or h.machine 9 0 ≤ 5
  pub sizes : sizes_in h.machine ≡ sizes_of (setup_of h.words.setup)
  pub sound : is_sound (state_of h) ≡ true

-- room for the answer, for the machine's 25 words and the fuel's four
pub record HasRoom (h : Host) (xs : List ℕ) : Type 0 where
  pub answer : 8 ≤ length xs
  pub machine : 25 ≤ length h.machine
  pub fuel : 4 ≤ length h.fuel

-- a set-up that is accepted: its number, the words of its answer, and that what it leaves passes
pub record Begins (h : Host) (given xs : List ℕ) : Type 0 where
  pub number : (set_up_in h given xs).number ≡ 0
  pub answer : (set_up_in h given xs).answer ≡ splice xs 0 (answer_words Answer.Accepted)
  pub passes : passes_test (set_up_in h given xs).host ≡ true

-- an answer that does not fit: 11 where 11 is due, else 14, and nothing is changed
pub record NoRoom (h : Host) (xs : List ℕ) : Type 0 where
  pub call : (r : Result Op Gate) → length xs < 8 → call_in h r xs ≡ gave h xs (short (passes_test h))
  pub run : (cs : List ℕ) → length xs < count_of (length cs) * 8 → run_host h cs xs ≡ gave h xs (short (passes_test h))
  pub look : length xs < 2 → look_in h xs ≡ saw xs (short (passes_test h))
  pub set-up : (given : List ℕ) → length xs < 8 → set_up_in h given xs ≡ gave h xs (short (long h && set_up_ok given h.words))
  pub grant : (n : ℕ) (fs' xs' : List ℕ) (r : ℕ) → length xs < 8 → Granted h n xs fs' xs' r → (fs' ≡ h.fuel) × (xs' ≡ xs) × (r ≡ short (passes_test h))

-- the words of the answer 11
abbrev pub unsound : List ℕ
unsound = answer_words (Answer.Refused Fault.Unsound)

-- a machine that does not pass: 11, each call of a run answered so, and nothing is changed but the answer
pub record Untested (h : Host) (xs : List ℕ) : Type 0 where
  pub call : (r : Result Op Gate) → 8 ≤ length xs → call_in h r xs ≡ gave h (splice xs 0 unsound) 11
  pub run : (cs : List ℕ) → count_of (length cs) * 8 ≤ length xs → run_host h cs xs ≡ gave h (splice xs 0 (words answer_words (replicate (count_of (length cs)) (Answer.Refused Fault.Unsound)))) 11
  pub look : 2 ≤ length xs → look_in h xs ≡ saw (splice xs 0 (0 ∷ 0 ∷ [])) 11
  pub grant : (n : ℕ) (fs' xs' : List ℕ) (r : ℕ) → 8 ≤ length xs → Granted h n xs fs' xs' r → (fs' ≡ h.fuel) × (xs' ≡ splice xs 0 unsound) × (r ≡ 11)

-- the words after the machine's 25 and the fuel's four, which are the host's own, stay
pub record Beyond (h g : Host) : Type 0 where
  pub machine : drop 25 g.machine ≡ drop 25 h.machine
  pub fuel : drop 4 g.fuel ≡ drop 4 h.fuel

-- the smallest set-up: a frame, a word of stack, a row, a slot, no memory, no costs, no hook, one function without registers
abbrev pub smallest : List ℕ
smallest = 1 ∷ 1 ∷ 1 ∷ 1 ∷ (replicate 9 0 ++ (1 ∷ replicate 35 0))

-- slices of 49 words, the set-up's, that hold 7 everywhere
abbrev pub sevens : Host
sevens =
    let ws : List ℕ = replicate 49 7 in
    host (record { stack = ws; frames = ws; chain = ws; slots = ws; saved_stack = ws; saved_frames = ws; ready = ws; finalize = ws; setup = ws }) (replicate 25 7) (replicate 4 7)

pub record Library : Type 0 where
  -- each is what the Claim's engine does: the set-up, a call, a batch of them
  pub sets-up : (h : Host) (given xs : List ℕ) → (set_up_in h given xs).number ≡ 0 → state_of (set_up_in h given xs).host ≡ (memory_step (state_of h) (SetUp given)).state
  pub calls : (h : Host) (o : Operation) (xs : List ℕ) → passes_test h ≡ true → 8 ≤ length xs → state_of (call_in h (Ok o.op) xs).host ≡ (memory_step (state_of h) (Do o)).state
  pub runs : (h : Host) (cs xs : List ℕ) (ks : List MemoryCall) → passes_test h ≡ true → count_of (length cs) * 8 ≤ length xs → Calls (calls_in (count_of (length cs)) cs) ks
      → state_of (run_host h cs xs).host ≡ run_turns memory_engine (state_of h) (map Engine.turn_call ks)
  -- and answers what it answers: eight words each, over those of the caller, and its number; a run's is 0
  pub told : (h : Host) (o : Operation) (xs : List ℕ) → passes_test h ≡ true → 8 ≤ length xs
      → let a = (memory_step (state_of h) (Do o)).answer in ((call_in h (Ok o.op) xs).answer ≡ splice xs 0 (answer_words a)) × ((call_in h (Ok o.op) xs).number ≡ Said.number_of a)
  pub answered : (h : Host) (cs xs : List ℕ) → passes_test h ≡ true → count_of (length cs) * 8 ≤ length xs
      → let told' = (run_words (state_of h) (calls_in (count_of (length cs)) cs)).answers in ((run_host h cs xs).answer ≡ splice xs 0 (words answer_words told')) × ((run_host h cs xs).number ≡ 0)
  -- a set-up is accepted exactly if its words are good and there is room, whatever the machine was: any other is 11, and only the answer is written
  pub set-up : (h : Host) (given xs : List ℕ) → HasRoom h xs → set_up_ok given h.words ≡ true → Begins h given xs
  pub bad-set-up : (h : Host) (given xs : List ℕ) → 8 ≤ length xs → (HasRoom h xs → set_up_ok given h.words ≡ true → ⊥) → set_up_in h given xs ≡ gave h (splice xs 0 unsound) 11
  -- some machine does not pass, and a set-up of it does
  pub fails : passes_test sevens ≡ false
  pub some : Begins sevens smallest (replicate 8 7)
  -- a machine that an accepted set-up leaves passes the test, and every function leaves one that passes as one that passes
  pub begun : (h : Host) (given xs : List ℕ) → (set_up_in h given xs).number ≡ 0 → passes_test (set_up_in h given xs).host ≡ true
  pub called : (h : Host) (ws xs : List ℕ) → each is_word ws ≡ true → passes_test h ≡ true → passes_test (call_in h (op_of ws) xs).host ≡ true
  pub ran : (h : Host) (cs xs : List ℕ) → each is_word cs ≡ true → passes_test h ≡ true → passes_test (run_host h cs xs).host ≡ true
  pub granted : (h : Host) (n : ℕ) (xs fs' xs' : List ℕ) (r : ℕ) → is_word n ≡ true → passes_test h ≡ true → Granted h n xs fs' xs' r → passes_test (host h.words h.machine fs') ≡ true
  -- `bvm_grant`, which writes the fuel and the answer alone, is the call: that leaves all else too
  pub grants : (h : Host) (n : ℕ) (xs : List ℕ) → is_word n ≡ true → let after = (call_in h (Ok (Op.Grant n)) xs).host in after ≡ host h.words h.machine after.fuel
  -- with its own fuel, or with that of any other machine that passes
  pub any_fuel : (h g : Host) → passes_test h ≡ true → passes_test g ≡ true → passes_test (host h.words h.machine g.fuel) ≡ true
  -- and there `bvm_call_unchecked` is `bvm_call`
  pub kept : (h : Host) (r : Result Op Gate) (xs : List ℕ) → passes_test h ≡ true → 8 ≤ length xs → kept_in h r xs ≡ call_in h r xs
  -- words that are no call are refused as the call that their code names, and only the answer is written
  pub no_call : (h : Host) (ws xs : List ℕ) (g : Gate) → passes_test h ≡ true → 8 ≤ length xs → op_of ws ≡ Err g
      → call_in h (op_of ws) xs ≡ tells h (Answer.Refused (refusal g (is_nil (decoded (state_of h)).frames))) xs
  -- 01: "11, 12, 13, 15, 16 change no word": of the machine's 25 and the fuel's four neither
  pub unchanged : (h : Host) (ws xs : List ℕ) → each is_word ws ≡ true → among (call_in h (op_of ws) xs).number unchanging ≡ true → (call_in h (op_of ws) xs).host ≡ h
  -- nor a set-up or a run that is not made; where the answer does not fit, its words neither
  pub not-begun : (h : Host) (given xs : List ℕ) → ((set_up_in h given xs).number ≡ 0 → ⊥) → (set_up_in h given xs).host ≡ h
  pub not-run : (h : Host) (cs xs : List ℕ) → ((run_host h cs xs).number ≡ 0 → ⊥) → (run_host h cs xs).host ≡ h
  pub no_room : (h : Host) (xs : List ℕ) → NoRoom h xs
  -- 11 exactly if the machine does not pass, or an unwind gets no such fault
  pub untested : (h : Host) (xs : List ℕ) → passes_test h ≡ false → Untested h xs
  pub eleven : (h : Host) (ws xs : List ℕ) → each is_word ws ≡ true → (call_in h (op_of ws) xs).number ≡ 11 → (passes_test h ≡ false) ⊎ NoFault (op_of ws)
  pub no-fault : (h : Host) (ws xs : List ℕ) → each is_word ws ≡ true → 8 ≤ length xs → NoFault (op_of ws) → (call_in h (op_of ws) xs).number ≡ 11
  pub passing : (h : Host) → passes_test h ≡ true → Passes h
  pub exactly : (h : Host) → Passes h → passes_test h ≡ true
  pub beyond : (h : Host) (r : Result Op Gate) (ws xs : List ℕ) → Beyond h (call_in h r xs).host × Beyond h (run_host h ws xs).host × Beyond h (set_up_in h ws xs).host
  -- a look writes where the top frame's registers begin and end, and the words of the stack between these are what a look hands back
  pub sees : (h : Host) (zs : List ℕ) → passes_test h ≡ true → 2 ≤ length zs
      → let w = decoded (state_of h) in look_in h zs ≡ saw (splice zs 0 (top_base w.frames ∷ end_on w.frames w.stack ∷ [])) 0
  pub looks : (h : Host) (zs : List ℕ) → passes_test h ≡ true → 2 ≤ length zs
      → let span = (look_in h zs).span in part (get_or span 0 0) (get_or span 1 0 - get_or span 0 0) h.words.stack ≡ looked (state_of h)
