-- ALL THAT IS PROMISED of an engine, in one record: demand 3, events that are exact, what other calls leave alone, what a creation makes,
-- what is asked, what is accepted, soundness that is kept, set-ups and looks, and that none of it is empty. `step` has it (`promise` in proofs/Promise.antt).
use Rattle.std.specs.Prelude.{ℕ, ◌+◌, ◌-◌, ◌*◌, ◌^◌, min, ◌≡◌, Bool, true, false, ◌||◌, List, [], ◌∷◌, ◌++◌, length, drop, eqb, ltb, leb, Option as RustOption, Some, None}
use Rattle.std.proofs.Math.Option.{Option, none, some}
use Rattle.lists.specs.Pick.{pick}
use Rattle.heap.specs.Fault.{number_of}
use Rattle.heap.specs.declared.fault.Fault.{Fault}
use Rattle.heap.specs.declared.heap.ResultKind.{ResultKind}
use Rattle.model.specs.declared.machine.Frame.{Frame}
use Rattle.model.specs.declared.machine.Fuel.{Fuel}
use Rattle.model.specs.declared.call.Op.{Op}
use Rattle.claims_model.specs.Engine.{Seen, View, Engine, Turn, run_turns, seen_created, state_is}
use Rattle.claims_model.specs.Operands.{operands_fit}
use Rattle.claims_model.specs.Says.{register_word, lie}
use Rattle.claims_model.specs.Held.{Held}
use Rattle.claims_model.specs.Demand3.{Enters, Suspends, Stops, Restarts, Waits, Goes, Demand3}
use Rattle.claims_model.specs.Events.{Healthy, raised, unwind_number_at, Events}
use Rattle.claims_model.specs.Touches.{Touches}
use Rattle.claims_model.specs.Made.{Creates}
use Rattle.claims_model.specs.Asks.{PaidFor, Pays, Asks}

-- ---- what is accepted, besides the entries (Events.entered)

-- a result that needs no conversion
abbrev pub plain : ResultKind → Bool
plain ResultKind.None = true
plain ResultKind.Dyn = true
plain ResultKind.I64 = false
plain ResultKind.U64 = false

-- 01: "also where 2 or 6 follows"
abbrev pub is_suspension : ℕ → Bool
is_suspension n = eqb n 0 || eqb n 2 || eqb n 6

-- so many bytes more are within the limit; sums stop at 2^64 - 1
abbrev pub bytes_fit : View → ℕ → Bool
bytes_fit v n = leb (min (v.used + n) (2 ^ 64 - 1)) v.rules.memory

-- c runs on top, its instruction is paid for, and there is room for n bytes and for what it would save beyond the most that it has saved.
-- 01: "8 bytes per register and F per frame beyond the coroutine's largest saved sizes so far"
pub record Roomy (e : Engine) (n c : ℕ) (s : e.State) : Type 0 where
  pub healthy : Healthy e s
  pub paid : PaidFor (e.view s)
  pub held : Held (e.view s) c
  pub seen : Seen
  pub there : (e.view s).coro c ≡ some seen
  -- `-` stops at 0: what is saved within the most so far is free
  pub grows : let words = length (drop held.body.base (e.view s).stack) - seen.most_words in let frames = length (held.over ++ (held.body ∷ [])) - seen.most_frames in
      bytes_fit (e.view s) (n + (words * 8 + frames * (e.view s).rules.frame_cost)) ≡ true

-- a new integer object can be made
pub record IntFits (v : View) : Type 0 where
  pub slot : v.full ≡ false
  pub bytes : bytes_fit v v.rules.int_cost ≡ true

-- a result that converts: an i64, or a u64 below 2^63. 01: "A u64 above 2^63 - 1 gives 7."
abbrev pub converts : ResultKind → ℕ → Bool
converts ResultKind.None x = true
converts ResultKind.Dyn x = true
converts ResultKind.I64 x = true
converts ResultKind.U64 x = ltb x (2 ^ 63)

pub record Accepts (e : Engine) : Type 0 where
  -- an Await or a YieldKv is then answered 0, 2 or 6, and so suspends c (Events.suspended); a Yield that can make a key too, but for 7
  pub await : (c : ℕ) (s : e.State) (k : e.Call) (pc dst src : ℕ) → Roomy e 0 c s → e.op k ≡ some (Op.Await pc dst src) → lie (e.view s) (dst ∷ src ∷ []) ≡ true → is_suspension (e.number s k) ≡ true
  pub yield-kv : (c : ℕ) (s : e.State) (k : e.Call) (pc dst src key : ℕ) → Roomy e 0 c s → e.op k ≡ some (Op.YieldKv pc dst src key) → lie (e.view s) (dst ∷ src ∷ key ∷ []) ≡ true → is_suspension (e.number s k) ≡ true
  pub yield : (c : ℕ) (s : e.State) (k : e.Call) (pc dst src : ℕ) → Roomy e (e.view s).rules.int_cost c s → (e.view s).full ≡ false → e.op k ≡ some (Op.Yield pc dst src) → lie (e.view s) (dst ∷ src ∷ []) ≡ true
      → (is_suspension (e.number s k) || eqb (e.number s k) 7) ≡ true
  -- a close of one that has not begun, and a throw into it (Events.closes-created, Events.throws-created)
  pub close-created : (s : e.State) (k : e.Call) (pc dst r src : ℕ) → Pays e s → e.op k ≡ some (Op.CoroClose pc dst r src) → lie (e.view s) (dst ∷ r ∷ src ∷ []) ≡ true → state_is (e.view s) seen_created (register_word (e.view s) r) ≡ true
      → e.number s k ≡ 0
  pub throw-created : (s : e.State) (k : e.Call) (pc dst r src : ℕ) → Pays e s → e.op k ≡ some (Op.ResumeThrow pc dst r src) → lie (e.view s) (dst ∷ r ∷ src ∷ []) ≡ true → state_is (e.view s) seen_created (register_word (e.view s) r) ≡ true
      → e.number s k ≡ 17
  -- a finish of whatever frame
  pub integer : (s : e.State) (k : e.Call) (kind : ResultKind) (x : ℕ) → Healthy e s → e.op k ≡ some (Op.Finish kind x) → IntFits (e.view s) → converts kind x ≡ true → e.number s k ≡ 0
  pub finish : (s : e.State) (k : e.Call) (kind : ResultKind) (x : ℕ) → Healthy e s → e.op k ≡ some (Op.Finish kind x) → plain kind ≡ true → e.number s k ≡ 0
  -- what an unwind answers: of a word, and of 1 to 8, whose error object has to be made
  pub throw : (s : e.State) (k : e.Call) (x : ℕ) (pc : RustOption ℕ) → Healthy e s → e.op k ≡ some (Op.Unwind (Fault.Throw x) pc) → e.number s k ≡ unwind_number_at (e.view s) x pc
  pub raise : (s : e.State) (k : e.Call) (f : Fault) (pc : RustOption ℕ) (x : ℕ) → Healthy e s → e.op k ≡ some (Op.Unwind f pc) → ((y : ℕ) → f ≡ Fault.Throw y → ⊥) → raised (e.view s) f ≡ some x
      → let v = e.view s in e.number s k ≡ pick (bytes_fit v v.rules.error_cost) (pick v.full 14 (unwind_number_at v x pc)) 9
  -- 01: "Faults 9 and 10 pass through it unchanged"; 11, where it "gets no such fault"
  pub pass : (s : e.State) (k : e.Call) (f : Fault) (pc : RustOption ℕ) → Healthy e s → e.op k ≡ some (Op.Unwind f pc) → raised (e.view s) f ≡ none → e.number s k ≡ pick (eqb (number_of f) 9 || eqb (number_of f) 10) (number_of f) 11

-- ---- soundness is kept

-- 01: 11, "set-up .. breaks the rules below, or `unwind` gets no such fault"
pub data Eleven (v : View) : Option Op → Type 0 where
  sets-up : Eleven v none
  no-fault : (f : Fault) (pc : RustOption ℕ) → raised v f ≡ none → (f ≡ Fault.OutOfMemory → ⊥) → (f ≡ Fault.OutOfFuel → ⊥) → Eleven v (some (Op.Unwind f pc))

-- 01: "fuel 0 while banked"
abbrev pub unbanked : RustOption ℕ → Bool
unbanked None = true
unbanked (Some n) = false

abbrev pub fuel_sound : Fuel → Bool
fuel_sound f = unbanked f.bank || eqb f.fuel 0

pub record Soundness (e : Engine) : Type 0 where
  pub begun : (s : e.State) (k : e.Call) → Restarts e s k → Healthy e (e.next s k)
  pub kept : (s : e.State) (k : e.Call) → Healthy e s → Healthy e (e.next s k)
  -- and by every other fuel record that is sound
  pub refuelled : (s : e.State) (f : Fuel) → fuel_sound f ≡ true → Healthy e s → Healthy e (e.refuel s f)
  pub eleven : (s : e.State) (k : e.Call) → Healthy e s → e.number s k ≡ 11 → Eleven (e.view s) (e.op k)

-- ---- set-ups and looks

-- nothing has happened yet. 01: "Set-up (fuel 0)"
pub record Fresh (v : View) : Type 0 where
  pub stack : v.stack ≡ []
  pub frames : v.frames ≡ []
  pub chain : v.chain ≡ []
  pub coros : (c : ℕ) → v.coro c ≡ none
  pub loops : (x : ℕ) → v.done x ≡ false
  pub queue : v.queue ≡ []
  pub fuel : v.fuel ≡ record { fuel = 0; bank = None; ready = false }
  pub used : v.used ≡ 0

-- which set-ups are accepted is the table's (claims_sheet/specs/SetUps.antt)
pub record SetUps (e : Engine) : Type 0 where
  pub begun : (s : e.State) (k : e.Call) → Restarts e s k → Fresh (e.view (e.next s k))
  -- the machine has the limits, functions and costs that were asked for
  pub given : (s : e.State) (k : e.Call) → Restarts e s k → e.asks k ≡ some (e.view (e.next s k)).rules
  -- one that is not accepted answers 11, and changes nothing
  pub refused : (s : e.State) (k : e.Call) → e.op k ≡ none → (e.number s k ≡ 0 → ⊥) → (e.number s k ≡ 11) × (e.view (e.next s k) ≡ e.view s)

-- from the base of the top frame to the stack's end
abbrev pub top_registers : List Frame → List ℕ → List ℕ
top_registers [] xs = []
top_registers (f ∷ fs) xs = drop f.base xs

-- 01: "a look at the top frame hands back its registers as part of the lent words; without a frame, or on 11, an empty part"
pub record Looks (e : Engine) : Type 0 where
  pub sees : (s : e.State) → Healthy e s → e.look s ≡ top_registers (e.view s).frames (e.view s).stack
  pub unseen : (s : e.State) → (Healthy e s → ⊥) → e.look s ≡ []
  pub unmoved : (s : e.State) (k : e.Call) → e.op k ≡ some Op.Look → e.view (e.next s k) ≡ e.view s

-- another fuel record is all that a refuelling changes
abbrev pub with_fuel : Fuel → View → View
with_fuel f v = record { stack = v.stack; frames = v.frames; chain = v.chain; coro = v.coro; done = v.done; queue = v.queue; fuel = f; rules = v.rules; fresh = v.fresh; full = v.full; integer = v.integer; used = v.used }

abbrev pub Refuels : Engine → Type 0
Refuels e = (s : e.State) (f : Fuel) → e.view (e.refuel s f) ≡ with_fuel f (e.view s)

-- every operation of 01, with operands that its types can hold, is a call
abbrev pub Speaks : Engine → Type 0
Speaks e = (o : Op) → operands_fit o ≡ true → (k : e.Call) × (e.op k ≡ some o)

-- ---- one list of calls in which every premise of demand 3 holds, and those of acceptance where its first call is made

pub record NotEmpty (e : Engine) : Type 0 where
  pub start : e.State
  pub first : e.Call
  pub accepted : Restarts e start first
  pub before : List (Turn e.Call)
  pub x : e.Call
  pub waiting : List (Turn e.Call)
  pub y : e.Call
  pub going : List (Turn e.Call)
  pub z : e.Call
  pub c : ℕ
  pub suspends : Suspends e c (run_turns e (e.next start first) before) x
  pub roomy : Roomy e (e.view (run_turns e (e.next start first) before)).rules.int_cost c (run_turns e (e.next start first) before)
  pub makes : IntFits (e.view (run_turns e (e.next start first) before))
  pub waits : Waits e c (e.next (run_turns e (e.next start first) before) x) waiting
  pub enters : Enters e c (run_turns e (e.next (run_turns e (e.next start first) before) x) waiting) y
  pub goes : Goes e c (e.next (run_turns e (e.next (run_turns e (e.next start first) before) x) waiting) y) going
  pub stops : Stops e c (run_turns e (e.next (run_turns e (e.next (run_turns e (e.next start first) before) x) waiting) y) going) z

pub record Promise (e : Engine) : Type 0 where
  pub demand3 : Demand3 e
  pub events : Events e
  pub touches : Touches e
  pub creates : Creates e
  pub asks : Asks e
  pub accepts : Accepts e
  pub soundness : Soundness e
  pub set-ups : SetUps e
  pub looks : Looks e
  pub refuels : Refuels e
  pub speaks : Speaks e
  pub not-empty : NotEmpty e
