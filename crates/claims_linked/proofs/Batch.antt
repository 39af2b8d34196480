-- A batch is a list of calls. Assumes nothing.
use Prim.Native.Nat.{ℕ, zero, suc}
use mathlib.Core.Path.{◌≡◌, refl, ap}
use mathlib.Core.Bool.{Bool, true}
use mathlib.Core.List.{List, [], ◌∷◌, ◌++◌, map}
use lib.ListN.{length, get_or, take, drop}
use Rattle.model.specs.Lists.{each, each_first, each-rest}
use Rattle.model.specs.Call.{is_word, Operation}
use Rattle.model.specs.declared.call.Answer.{Answer}
use Rattle.claims_sound.proofs.Tests.{both}
use Rattle.memory_calls.specs.Call.{op_of}
use Rattle.std.specs.Prelude.{Result, Ok, Err}
use Rattle.memory_calls.specs.declared.call.Gate.{Gate}
use Rattle.model.specs.declared.call.Op.{Op}
use Rattle.memory_calls.proofs.Typed.{read-typed}
use Rattle.claims_model.specs.Engine.{turn_call, run_turns}
use Rattle.memory_step.specs.Step.{MemoryState, MemoryCall, Do, memory_step, step_words}
use Rattle.claims_memory.specs.Engine.{memory_engine}
use Rattle.outer_run.specs.Run.{do_words, run_words, calls_in}
use Rattle.claims_linked.specs.Batch.{Calls, none, is, not, BatchCalls, Batch}

-- ---- words of 64 bits

each_take : (p : ℕ → Bool) (n : ℕ) (xs : List ℕ) → each p xs ≡ true → each p (take n xs) ≡ true
each_take p zero xs e = refl
each_take p (suc n) [] e = refl
each_take p (suc n) (x ∷ xs) e = both (each_first p x xs e) (each_take p n xs (each-rest p x xs e))

each-drop : (p : ℕ → Bool) (n : ℕ) (xs : List ℕ) → each p xs ≡ true → each p (drop n xs) ≡ true
each-drop p zero xs e = e
each-drop p (suc n) [] e = refl
each-drop p (suc n) (x ∷ xs) e = each-drop p n xs (each-rest p x xs e)

-- what is read first, and the rest
pub first : (ws : List ℕ) (r : Result Op Gate) (rs : List (Result Op Gate)) → each is_word ws ≡ true → op_of ws ≡ r → BatchCalls rs → BatchCalls (r ∷ rs)
first ws (Ok o) rs h e t =
    let k : Operation = record { op = o; within = read-typed ws o h e } in
    record { list = Do k ∷ t.list; calls = is k rs t.list t.calls }
first ws (Err g) rs h e t = record { list = t.list; calls = not g rs t.list t.calls }

pub listed : (n : ℕ) (cs : List ℕ) → each is_word cs ≡ true → BatchCalls (calls_in n cs)
listed zero cs h = record { list = []; calls = none }
listed (suc n) cs h = first (take 6 cs) (op_of (take 6 cs)) (calls_in n (drop 6 cs)) (each_take is_word 6 cs h) refl (listed n (drop 6 cs) (each-drop is_word 6 cs h))

-- ---- one after the other

left : (s : MemoryState) {rs : List (Result Op Gate)} {ks : List MemoryCall} → Calls rs ks → (run_words s rs).state ≡ run_turns memory_engine s (map turn_call ks)
left s none = refl
left s (is o rs ks c) = left (step_words s o.op).state c
left s (not g rs ks c) = left s c

long : (s : MemoryState) (rs : List (Result Op Gate)) → length (run_words s rs).answers ≡ length rs
long s [] = refl
long s (r ∷ rs) = ap suc (long (do_words s r).state rs)

answer : (s : MemoryState) {rs : List (Result Op Gate)} {ks : List MemoryCall} (r : Result Op Gate) (more : List (Result Op Gate)) (d : Answer) → Calls rs ks
    → get_or (run_words s (rs ++ (r ∷ more))).answers (length rs) d ≡ (do_words (run_turns memory_engine s (map turn_call ks)) r).answer
answer s r more d none = refl
answer s r more d (is o rs ks c) = answer (step_words s o.op).state r more d c
answer s r more d (not g rs ks c) = answer s r more d c

pub batch : Batch
batch =
    record {
      listed = listed;
      left = λ s rs ks c. left s c;
      long = long;
      answer = λ s rs ks o more d c. answer s (Ok o.op) more d c;
      refused = λ s rs ks g more d c. answer s (Err g) more d c;
    }
