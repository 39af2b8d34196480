-- THE CLAIM OVER LENT WORDS: all that is promised of an engine (claims_model/specs/Promise.antt) is promised of outer calls on lent words,
-- from every state, in slices of any length, whatever they hold; and what it says of the caller's stack slice, in its words.
use Rattle.std.specs.Prelude.{ℕ, ◌+◌, ◌-◌, ◌≡◌, Bool, true, false, ◌&&◌, List, [], ◌∷◌, take, drop, set}
use Rattle.lists.specs.Tests.{zeros}
use Rattle.model.specs.Call.{Operation}
use Rattle.memory_world.specs.Memory.{Lent}
use Rattle.claims_model.specs.Engine.{Turn, turn_call, turn_fuel, run_turns}
use Rattle.claims_model.specs.Says.{first_register, Sent, nothing, gets, closes, announced_by}
use Rattle.claims_model.specs.Held.{at, waits_in, Held, By}
use Rattle.claims_model.specs.Delivery.{event_given, stack_frames, delivered_to}
use Rattle.claims_model.specs.Demand3.{Enters, Suspends, Stops, Waits, Goes}
use Rattle.claims_model.specs.Events.{Healthy}
use Rattle.claims_model.specs.Promise.{fuel_sound, Promise}
use Rattle.memory_step.specs.Step.{MemoryState, is_sound, set_up_ok, MemoryCall, SetUp, Do, memory_step}
use Rattle.memory_step.specs.Sentences.{answer_number, NoSuchFault}
use Rattle.claims_memory.specs.Engine.{memory_op, memory_engine}

-- ---- an entry, and what follows, in words of the stack slice

-- the words of it that are in use
abbrev pub in_use : MemoryState → List ℕ
in_use s = take s.machine.height s.words.stack

-- a call at s leaves z: below the height that it found no word is touched, and beyond the height that it leaves all words are 0
pub record Stacked (s z : MemoryState) : Type 0 where
  pub below : take s.machine.height z.words.stack ≡ in_use s
  pub beyond : zeros (drop z.machine.height z.words.stack) ≡ true

-- the words with the one sent, if any, at place i
abbrev pub sent_to : Sent → ℕ → List ℕ → List ℕ
sent_to nothing i xs = xs
sent_to (gets x) i xs = set xs i x
sent_to (closes x) i xs = xs

-- x at s suspends c, and y at t is its next entry, which leaves z
pub record RestoredStack (s : MemoryState) (x : MemoryCall) (t : MemoryState) (y : MemoryCall) (c : ℕ) (z : MemoryState) : Type 0 where
  pub stacked : Stacked t z
  pub held : Held (memory_engine.view s) c
  pub by : By (memory_engine.view t) (memory_op y) c
  -- from the caller's height up stand the words that c held, from its Coro frame's base up, with the sent word in the register that waits:
  -- its place is counted from that base, so the top frame's base comes in
  pub above : drop t.machine.height (in_use z)
      ≡ sent_to by.sent (first_register (memory_engine.view s).frames - held.body.base + waits_in (announced_by (memory_engine.view s) (memory_op x))) (drop held.body.base (in_use s))

-- y at s enters c, and z at t is where it next yields, awaits or returns, which leaves u: the words that y found, but for what is delivered
pub record UntouchedStack (s : MemoryState) (y : MemoryCall) (c : ℕ) (t : MemoryState) (z : MemoryCall) (u : MemoryState) : Type 0 where
  pub by : By (memory_engine.view s) (memory_op y) c
  pub height : u.machine.height ≡ s.machine.height
  pub below : in_use u ≡ (delivered_to by.driver (event_given (memory_engine.view t) (announced_by (memory_engine.view t) (memory_op z)) c (memory_engine.view u)) (stack_frames (in_use s) (at by.pc (memory_engine.view s).frames))).stack
  pub beyond : zeros (drop u.machine.height u.words.stack) ≡ true

-- ---- what a call can be refused for by itself, in such slices

pub data OwnFault (M : Lent) : MemoryCall → Type 0 where
  bad-set-up : (given : List ℕ) → set_up_ok given M ≡ false → OwnFault M (SetUp given)
  no-fault : (o : Operation) → NoSuchFault o.op → OwnFault M (Do o)

-- every fuel record that the host puts is sound
abbrev pub fuels_sound : List (Turn MemoryCall) → Bool
fuels_sound [] = true
fuels_sound (turn_call k ∷ ts) = fuels_sound ts
fuels_sound (turn_fuel f ∷ ts) = fuel_sound f && fuels_sound ts

pub record Claim : Type 0 where
  pub promise : Promise memory_engine
  -- the machine is not refused exactly if its words are sound
  pub sound : (s : MemoryState) → is_sound s ≡ true → Healthy memory_engine s
  pub healthy : (s : MemoryState) → Healthy memory_engine s → is_sound s ≡ true
  -- y enters c, be it the first time; and its next entry after a suspension. Between two calls the host may put any other fuel record
  pub entered : (c : ℕ) (s : MemoryState) (y : MemoryCall) → Enters memory_engine c s y → Stacked s (memory_step s y).state
  pub restored : (c : ℕ) (s : MemoryState) (x : MemoryCall) (waiting : List (Turn MemoryCall)) (y : MemoryCall) → Suspends memory_engine c s x → Waits memory_engine c (memory_step s x).state waiting
      → let t = run_turns memory_engine (memory_step s x).state waiting in Enters memory_engine c t y → RestoredStack s x t y c (memory_step t y).state
  -- and its next yield, await or return
  pub untouched : (c : ℕ) (s : MemoryState) (y : MemoryCall) (going : List (Turn MemoryCall)) (z : MemoryCall) → Enters memory_engine c s y → Goes memory_engine c (memory_step s y).state going
      → let t = run_turns memory_engine (memory_step s y).state going in Stops memory_engine c t z → UntouchedStack s y c t z (memory_step t z).state
  -- after an accepted set-up, and any calls and sound fuel records, the words are sound, and no call answers 11 but for its own fault
  pub lasts : (s : MemoryState) (given : List ℕ) (ts : List (Turn MemoryCall)) → set_up_ok given s.words ≡ true → fuels_sound ts ≡ true → is_sound (run_turns memory_engine (memory_step s (SetUp given)).state ts) ≡ true
  pub eleven : (s : MemoryState) (given : List ℕ) (ts : List (Turn MemoryCall)) (k : MemoryCall) → set_up_ok given s.words ≡ true → fuels_sound ts ≡ true
      → let t = run_turns memory_engine (memory_step s (SetUp given)).state ts in answer_number t k ≡ 11 → OwnFault t.words k
