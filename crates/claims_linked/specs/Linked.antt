-- A list of linked calls, with other fuel words between them, is a list of turns of the Claim's engine (claims_memory/specs/Claim.antt), and
-- leaves what these leave: so what is claimed of every such list is claimed of every program that links the library; `restored` and `untouched` say it.
use Rattle.std.specs.Prelude.{ℕ, ◌*◌, ◌≤◌, ◌≡◌, true, List, [], ◌∷◌, ◌++◌, map, length, Ok}
use Rattle.model.specs.Lists.{each}
use Rattle.model.specs.Call.{is_word, typed, Operation}
use Rattle.model.specs.declared.call.Op.{Op}
use Rattle.memory_calls.specs.Call.{op_of, op_words}
use Rattle.claims_model.specs.Engine.{Turn, turn_call, turn_fuel, run_turns}
use Rattle.claims_model.specs.Demand3.{Enters, Suspends, Stops, Waits, Goes}
use Rattle.memory_step.specs.Step.{MemoryState, MemoryCall, SetUp, Do}
use Rattle.claims_memory.specs.Engine.{memory_engine}
use Rattle.claims_memory.specs.Claim.{RestoredStack, UntouchedStack}
use Rattle.outer_run.specs.Run.{do_words, count_of, calls_in}
use Rattle.linked_calls.specs.Words.{fuel_in}
use Rattle.linked_calls.specs.Host.{Host, host, state_of, passes_test, overwritten, kept_in, call_in, set_up_in, run_host}
use Rattle.claims_linked.specs.Batch.{Calls}

-- a linked function, with the words that it is lent beside the machine; or other fuel words. `bvm_sound` and `bvm_look` only read
pub data Link : Type 0 where
  bvm-set-up : (given answer : List ℕ) → Link
  bvm-call : (ws answer : List ℕ) → Link
  bvm-call-unchecked : (ws answer : List ℕ) → Link
  bvm-grant : (amount : ℕ) (answer : List ℕ) → Link
  -- `bvm_batch` too: its `ensures` (linked_batch/src/list.rt) is the equation of `bvm_run`
  bvm-run : (ws answers : List ℕ) → Link
  -- a `bvm_try_resume_unchecked` or `bvm_try_yield_unchecked` that returned 1; one that returned 0 has changed nothing and is no link
  bvm-switch : (o : Op) → Link
  other-fuel : (fuel : List ℕ) → Link

-- what it leaves: the definition that the function's contract cites
abbrev pub left_by : Host → Link → Host
left_by h (bvm-set-up given xs) = (set_up_in h given xs).host
left_by h (bvm-call ws xs) = (call_in h (op_of ws) xs).host
left_by h (bvm-call-unchecked ws xs) = (kept_in h (op_of ws) xs).host
left_by h (bvm-grant n xs) = host h.words h.machine (call_in h (Ok (Op.Grant n)) xs).host.fuel
left_by h (bvm-run cs xs) = (run_host h cs xs).host
-- (linked_switch/specs/Switch.antt: Switched.done, whose equation has this host on its right side, whatever the answer's words)
left_by h (bvm-switch o) = overwritten h (do_words (state_of h) (Ok o)).state
left_by h (other-fuel fs) = host h.words h.machine fs

abbrev pub left_by_all : Host → List Link → Host
left_by_all h [] = h
left_by_all h (l ∷ ls) = left_by_all (left_by h l) ls

-- words of 64 bits, and room for the answer; operands of their types; fuel words with which the machine passes
abbrev pub Fits : Host → Link → Type 0
Fits h (bvm-set-up given xs) = 8 ≤ length xs
Fits h (bvm-call ws xs) = (each is_word ws ≡ true) × (8 ≤ length xs)
Fits h (bvm-call-unchecked ws xs) = (each is_word ws ≡ true) × (8 ≤ length xs)
Fits h (bvm-grant n xs) = (is_word n ≡ true) × (8 ≤ length xs)
Fits h (bvm-run cs xs) = (each is_word cs ≡ true) × (count_of (length cs) * 8 ≤ length xs)
Fits h (bvm-switch o) = typed o ≡ true
Fits h (other-fuel fs) = passes_test (host h.words h.machine fs) ≡ true

abbrev pub AllFit : Host → List Link → Type 0
AllFit h [] = Unit {0}
AllFit h (l ∷ ls) = Fits h l × AllFit (left_by h l) ls

-- the turns that it is: words that are no call are none
pub data TurnsOf : Link → List (Turn MemoryCall) → Type 0 where
  a-set-up : (given xs : List ℕ) → TurnsOf (bvm-set-up given xs) (turn_call (SetUp given) ∷ [])
  a_call : (ws xs : List ℕ) (ks : List MemoryCall) → Calls (op_of ws ∷ []) ks → TurnsOf (bvm-call ws xs) (map turn_call ks)
  a-call-unchecked : (ws xs : List ℕ) (ks : List MemoryCall) → Calls (op_of ws ∷ []) ks → TurnsOf (bvm-call-unchecked ws xs) (map turn_call ks)
  a-grant : (n : ℕ) (xs : List ℕ) (o : Operation) → o.op ≡ Op.Grant n → TurnsOf (bvm-grant n xs) (turn_call (Do o) ∷ [])
  a-run : (cs xs : List ℕ) (ks : List MemoryCall) → Calls (calls_in (count_of (length cs)) cs) ks → TurnsOf (bvm-run cs xs) (map turn_call ks)
  a-switch : (o : Op) (p : Operation) → p.op ≡ o → TurnsOf (bvm-switch o) (turn_call (Do p) ∷ [])
  a-record : (fs : List ℕ) → TurnsOf (other-fuel fs) (turn_fuel (fuel_in fs) ∷ [])

pub data TurnsOfAll : List Link → List (Turn MemoryCall) → Type 0 where
  none : TurnsOfAll [] []
  more : (l : Link) (ls : List Link) (ts us : List (Turn MemoryCall)) → TurnsOf l ts → TurnsOfAll ls us → TurnsOfAll (l ∷ ls) (ts ++ us)

-- ---- the Claim's two sentences on a suspended coroutine, of a call k at s that leaves u, turns ts that leave t, and a call l that leaves z

-- k suspends c, and l is its next entry (Claim.restored)
abbrev pub Restores : ℕ → MemoryState → MemoryCall → MemoryState → List (Turn MemoryCall) → MemoryState → MemoryCall → MemoryState → Type 0
Restores c s k u ts t l z = Suspends memory_engine c s k → Waits memory_engine c u ts → Enters memory_engine c t l → RestoredStack s k t l c z

-- k enters c, and l is where it next yields, awaits or returns (Claim.untouched)
abbrev pub Comes : ℕ → MemoryState → MemoryCall → MemoryState → List (Turn MemoryCall) → MemoryState → MemoryCall → MemoryState → Type 0
Comes c s k u ts t l z = Enters memory_engine c s k → Goes memory_engine c u ts → Stops memory_engine c t l → UntouchedStack s k c t l z

-- linked calls: x is k, then come ls, which are ts, and y is l
pub record Between (h : Host) (x : Link) (k : MemoryCall) (ls : List Link) (ts : List (Turn MemoryCall)) (y : Link) (l : MemoryCall) : Type 0 where
  pub passes : passes_test h ≡ true
  pub first : Fits h x × TurnsOf x (turn_call k ∷ [])
  pub between : AllFit (left_by h x) ls × TurnsOfAll ls ts
  pub last : Fits (left_by_all (left_by h x) ls) y × TurnsOf y (turn_call l ∷ [])

pub record Linked : Type 0 where
  -- what a call's words say has operands that their types can hold, and every operation with such operands has words that say it
  pub within : (ws : List ℕ) (o : Op) → each is_word ws ≡ true → op_of ws ≡ Ok o → typed o ≡ true
  pub said : (o : Op) → typed o ≡ true → op_of (op_words o) ≡ Ok o
  -- every list of linked calls is a list of turns
  pub turns : (h : Host) (ls : List Link) → AllFit h ls → (ts : List (Turn MemoryCall)) × TurnsOfAll ls ts
  -- and from a machine that passes, as an accepted `bvm_set_up` leaves one (`Library.begun`), it leaves what they leave, which passes
  pub leaves : (h : Host) (ls : List Link) (ts : List (Turn MemoryCall)) → passes_test h ≡ true → AllFit h ls → TurnsOfAll ls ts → state_of (left_by_all h ls) ≡ run_turns memory_engine (state_of h) ts
  pub passes : (h : Host) (ls : List Link) → passes_test h ≡ true → AllFit h ls → passes_test (left_by_all h ls) ≡ true
  -- the Claim of linked calls: what a suspended coroutine held is given back word for word, and what lay below an entry stands as it was
  pub restored : (c : ℕ) (h : Host) (x : Link) (k : MemoryCall) (ls : List Link) (ts : List (Turn MemoryCall)) (y : Link) (l : MemoryCall) → Between h x k ls ts y l
      → let u = left_by h x in let t = left_by_all u ls in Restores c (state_of h) k (state_of u) ts (state_of t) l (state_of (left_by t y))
  pub untouched : (c : ℕ) (h : Host) (x : Link) (k : MemoryCall) (ls : List Link) (ts : List (Turn MemoryCall)) (y : Link) (l : MemoryCall) → Between h x k ls ts y l
      → let u = left_by h x in let t = left_by_all u ls in Comes c (state_of h) k (state_of u) ts (state_of t) l (state_of (left_by t y))
