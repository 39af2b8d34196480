-- The events are exact: who is entered, suspended or returns in a call follows from what is seen before it and from its number, one a
-- call. So an engine that refuses what 01 accepts, or makes of a return a failure, has not this.
use Rattle.std.specs.Prelude.{ℕ, ◌≡◌, ◌⊎◌, Bool, true, false, not, ◌&&◌, ◌||◌, List, [], ◌∷◌, eqb, ltb, leb, Option as RustOption, Some, None}
use Rattle.std.proofs.Math.Option.{Option, none, some}
use Rattle.lists.specs.Pick.{pick}
use Rattle.heap.specs.declared.fault.Fault.{Fault}
use Rattle.heap.specs.declared.object.CoroState.{CoroState}
use Rattle.heap.specs.declared.heap.ResultKind.{ResultKind}
use Rattle.model.specs.declared.program.Handler.{Handler}
use Rattle.model.specs.declared.machine.Cont.{Cont}
use Rattle.model.specs.declared.machine.Driver.{Driver}
use Rattle.model.specs.declared.machine.Active.{Active}
use Rattle.model.specs.declared.machine.Frame.{Frame}
use Rattle.model.specs.declared.call.Op.{Op}
use Rattle.claims_model.specs.Engine.{Seen, View, Engine, code, seen_created, seen_running, seen_awaiting, seen_suspended, seen_returned, seen_in, state_is}
use Rattle.claims_model.specs.Says.{register_word, Sent, nothing, gets, closes, Aim, enter, suspend, neither, Announced, instr, hosts, finishes, raises, other, announced_by, banked, whom}
use Rattle.claims_model.specs.Held.{at, closer, By}
use Rattle.claims_model.specs.Delivery.{recorded, result_of}
use Rattle.claims_model.specs.Demand3.{Enters, Suspends, Restarts}

-- the machine is not refused: a look answers 0
abbrev pub Healthy : (e : Engine) → e.State → Type 0
Healthy e s = (k : e.Call) → e.op k ≡ some Op.Look → e.number s k ≡ 0

-- the innermost running coroutine
abbrev pub inmost : List Active → Option ℕ
inmost [] = none
inmost (a ∷ chain) = some a.coro

-- ---- entries. 01: "also where the call then answers a fault, as 17 at a throw, a close or a cleanup's start"

-- what a call answers that enters a coroutine, Created or not: 17 where it is sent no word, for one is raised in it
abbrev pub entry_number : Bool → Sent → ℕ
entry_number created nothing = pick created 0 17
entry_number created (gets x) = 0
entry_number created (closes x) = 17

-- ---- suspensions. 01: "also where 2 or 6 follows"

-- who is suspended: the innermost, by a Yield, YieldKv or Await that is answered 0, 2 or 6
abbrev pub who_suspends : View → Announced → ℕ → Option ℕ
who_suspends v (instr pc ok (enter c d x may)) n = none
who_suspends v (instr pc ok (suspend await dst x)) n = pick (eqb n 0 || eqb n 2 || eqb n 6) (inmost v.chain) none
who_suspends v (instr pc ok neither) n = none
who_suspends v (hosts c x) n = none
who_suspends v (finishes kind x) n = none
who_suspends v (raises f pc) n = none
who_suspends v other n = none

-- whether it is an Await
abbrev pub is_await : Announced → Bool
is_await (instr pc ok (enter c d x may)) = false
is_await (instr pc ok (suspend await dst x)) = await
is_await (instr pc ok neither) = false
is_await (hosts c x) = false
is_await (finishes kind x) = false
is_await (raises f pc) = false
is_await other = false

-- what a suspension answers, by driver, whether it is an Await, and whether the coroutine was being closed. 01: "an Await there is 2, after
-- suspending"; "A yield while closing clears closing and answers 6 to a Resume or iterator driver"
abbrev pub suspension_number : Driver → Bool → Bool → ℕ
suspension_number (Driver.Resume r) await closing = pick await 0 (pick closing 6 0)
suspension_number (Driver.Iter has val iter) await closing = pick await 2 (pick closing 6 0)
suspension_number Driver.Host await closing = 0
suspension_number Driver.Finalize await closing = 0

abbrev pub suspension_number_to : List Active → Bool → Bool → ℕ
suspension_number_to [] await closing = 0
suspension_number_to (a ∷ chain) await closing = suspension_number a.driver await closing

-- ---- returns. 01: "a return if `finish` or `unwind` makes it Returned"

pub record Returns (e : Engine) (c : ℕ) (s : e.State) (k : e.Call) : Type 0 where
  pub before : state_is (e.view s) seen_running c ≡ true
  pub after : state_is (e.view (e.next s k)) seen_returned c ≡ true

abbrev pub is_body : Cont → Bool
is_body Cont.Entry = false
is_body (Cont.Write r) = false
is_body (Cont.Dyn r) = false
is_body (Cont.Value r) = false
is_body Cont.Discard = false
is_body Cont.Coro = true

-- 01: "start ≤ pc < end"
abbrev pub caught : List Handler → ℕ → Bool
caught [] pc = false
caught (h ∷ hs) pc = (leb h.start pc && ltb pc h.end) || caught hs pc

-- an escape goes on into the frames of a resumer or a loop
abbrev pub goes_on : Driver → Bool
goes_on (Driver.Resume r) = true
goes_on (Driver.Iter has val iter) = true
goes_on Driver.Host = false
goes_on Driver.Finalize = false

-- the word x leaves a frame: of a body, it ends one that it closes, else goes on or not. `below` is the same question for the frames under
-- this one, with the chain that is left
abbrev pub escape_from : Cont → View → ℕ → List Active → (List Active → Option ℕ) → Option ℕ
escape_from Cont.Entry v x chain below = none
escape_from (Cont.Write r) v x chain below = below chain
escape_from (Cont.Dyn r) v x chain below = below chain
escape_from (Cont.Value r) v x chain below = below chain
escape_from Cont.Discard v x chain below = below chain
escape_from Cont.Coro v x [] below = below []
escape_from Cont.Coro v x (a ∷ chain) below = pick (seen_in (λ k. k.closing && eqb x k.signal) (v.coro a.coro)) (some a.coro) (pick (goes_on a.driver) (below chain) none)

-- who returns where x is raised in these frames: one whose own signal x is, and that does not catch it. 01: "A closing coroutine that
-- lets its own signal escape is Returned"
abbrev pub escaped : View → ℕ → List Frame → List Active → Option ℕ
escaped v x [] chain = none
escaped v x (f ∷ fs) chain = pick (caught (v.rules.handlers f.func) f.pc) none (escape_from f.cont v x chain (escaped v x fs))

-- 1 to 8 are raised as a new object, 17 as its word
abbrev pub raised : View → Fault → Option ℕ
raised v Fault.None = none
raised v Fault.NullReference = some v.fresh
raised v Fault.TypeError = some v.fresh
raised v Fault.InvalidCoroState = some v.fresh
raised v Fault.StackOverflow = some v.fresh
raised v Fault.CannotSuspend = some v.fresh
raised v Fault.CloseIgnored = some v.fresh
raised v Fault.ArithOverflow = some v.fresh
raised v Fault.NoScheduler = some v.fresh
raised v Fault.OutOfMemory = none
raised v Fault.OutOfFuel = none
raised v Fault.Unsound = none
raised v Fault.NoFrame = none
raised v Fault.BadOperand = none
raised v Fault.Full = none
raised v Fault.Busy = none
raised v Fault.GrantTooLarge = none
raised v (Fault.Throw x) = some x

abbrev pub raised_at : View → Option ℕ → RustOption ℕ → Option ℕ
raised_at v none pc = none
raised_at v (some x) None = escaped v x v.frames v.chain
raised_at v (some x) (Some pc) = escaped v x (at pc v.frames) v.chain

-- the body of a coroutine is on top
abbrev pub on_body : List Frame → Bool
on_body [] = false
on_body (f ∷ fs) = is_body f.cont

-- who returns: the innermost, where its body finishes; or by an unwind
abbrev pub who_returns : View → Announced → ℕ → Option ℕ
who_returns v (instr pc ok a) n = none
who_returns v (hosts c x) n = none
who_returns v (finishes kind x) n = pick (eqb n 0 && on_body v.frames) (inmost v.chain) none
who_returns v (raises f pc) n = pick (eqb n 0) (raised_at v (raised v f) pc) none
who_returns v other n = none

-- ---- failures. 01: "any other escape makes it Failed"

abbrev pub seen_failed : CoroState → Bool
seen_failed s = eqb (code s) 5

abbrev pub among : ℕ → List ℕ → Bool
among c [] = false
among c (x ∷ xs) = eqb c x || among c xs

pub record Fails (e : Engine) (c : ℕ) (s : e.State) (k : e.Call) : Type 0 where
  pub before : state_is (e.view s) seen_running c ≡ true
  pub after : state_is (e.view (e.next s k)) seen_failed c ≡ true

-- the word x leaves a frame: of a body, one that it closes ends it; any other fails, and so may those below (`below` as in `leaving`)
abbrev pub losing : Cont → View → ℕ → List Active → (List Active → List ℕ) → List ℕ
losing Cont.Entry v x chain below = []
losing (Cont.Write r) v x chain below = below chain
losing (Cont.Dyn r) v x chain below = below chain
losing (Cont.Value r) v x chain below = below chain
losing Cont.Discard v x chain below = below chain
losing Cont.Coro v x [] below = below []
losing Cont.Coro v x (a ∷ chain) below = pick (seen_in (λ k. k.closing && eqb x k.signal) (v.coro a.coro)) [] (a.coro ∷ pick (goes_on a.driver) (below chain) [])

-- who fails where x is raised in these frames: all that it leaves, up to who catches it, is closed by it, or has it stop at the host
abbrev pub lost : View → ℕ → List Frame → List Active → List ℕ
lost v x [] chain = []
lost v x (f ∷ fs) chain = pick (caught (v.rules.handlers f.func) f.pc) [] (losing f.cont v x chain (lost v x fs))

abbrev pub lost_at : View → Option ℕ → RustOption ℕ → List ℕ
lost_at v none pc = []
lost_at v (some x) None = lost v x v.frames v.chain
lost_at v (some x) (Some pc) = lost v x (at pc v.frames) v.chain

-- ---- what an unwind answers

-- 01: "taking one costs one unit", which the fuel or the bank has to have
abbrev pub handled : View → ℕ
handled v = pick (eqb v.fuel.fuel 0) (pick (eqb (banked v.fuel.bank) 0) 10 0) 0

-- the word x leaves a frame: of a body, it stops with one that it closes, and at the host and at a cleanup (`below` as in `leaving`)
abbrev pub ending : Cont → View → ℕ → List Active → (List Active → ℕ) → ℕ
ending Cont.Entry v x chain below = 17
ending (Cont.Write r) v x chain below = below chain
ending (Cont.Dyn r) v x chain below = below chain
ending (Cont.Value r) v x chain below = below chain
ending Cont.Discard v x chain below = below chain
ending Cont.Coro v x [] below = below []
ending Cont.Coro v x (a ∷ chain) below = pick (seen_in (λ k. k.closing && eqb x k.signal) (v.coro a.coro)) 0 (pick (goes_on a.driver) (below chain) 0)

-- where x is raised in these frames. 01: "if nobody catches, it answers 17 with the error object or thrown word"
abbrev pub unwind_number : View → ℕ → List Frame → List Active → ℕ
unwind_number v x [] chain = 17
unwind_number v x (f ∷ fs) chain = pick (caught (v.rules.handlers f.func) f.pc) (handled v) (ending f.cont v x chain (unwind_number v x fs))

abbrev pub unwind_number_at : View → ℕ → RustOption ℕ → ℕ
unwind_number_at v x None = unwind_number v x v.frames v.chain
unwind_number_at v x (Some pc) = unwind_number v x (at pc v.frames) v.chain

-- who fails: by an unwind of a word, whatever it answers; of a fault, but where its error object could not be made (9, 14); all, where
-- the run is stopped. A thrown word is both of the first two: it needs no object, so its number does not matter
pub data Lost (v : View) (n c : ℕ) : Option Op → Type 0 where
  thrown : (x : ℕ) (pc : RustOption ℕ) → among c (lost_at v (some x) pc) ≡ true → Lost v n c (some (Op.Unwind (Fault.Throw x) pc))
  escapes : (f : Fault) (pc : RustOption ℕ) → (eqb n 9 || eqb n 14) ≡ false → among c (lost_at v (raised v f) pc) ≡ true → Lost v n c (some (Op.Unwind f pc))
  stops : Lost v n c (some Op.StopRun)

-- what is seen of one that is finished: nothing is saved any more, and nothing closes it
abbrev pub ended_as : CoroState → ℕ → Option Seen
ended_as s x = some (record { state = s; words = []; frames = []; waits = 0; most_words = 0; most_frames = 0; closing = false; signal = 0; result = x })

-- ---- what else is seen and is not a word, a frame or a state

-- not Returned, not Failed
abbrev pub lives : CoroState → Bool
lives s = ltb (code s) 4

-- whom a call may end that has not begun: a word is thrown into it, or it is closed
abbrev pub ends_unbegun : Announced → Option ℕ
ends_unbegun (instr pc ok (enter c d nothing may)) = some c
ends_unbegun (instr pc ok (enter c d (gets x) may)) = none
ends_unbegun (instr pc ok (enter c d (closes x) may)) = some c
ends_unbegun (instr pc ok (suspend await dst x)) = none
ends_unbegun (instr pc ok neither) = none
ends_unbegun (hosts c x) = none
ends_unbegun (finishes kind x) = none
ends_unbegun (raises f pc) = none
ends_unbegun other = none

-- has begun, and does not run
abbrev pub rests : CoroState → Bool
rests s = ltb 1 (code s)

-- a result that is an integer, of 64 bits
abbrev pub is_integer : ResultKind → Bool
is_integer ResultKind.None = false
is_integer ResultKind.Dyn = false
is_integer ResultKind.I64 = true
is_integer ResultKind.U64 = true

-- ---- the claim

pub record Events (e : Engine) : Type 0 where
  -- 01: "An entry, from any driver, is accepted exactly if `coro_enter` accepts": who is entered is whom the call says, or a cleanup due
  pub enters : (c : ℕ) (s : e.State) (k : e.Call) → Enters e c s k → By (e.view s) (e.op k) c
  -- and whom a call says is entered, where the machine is not refused
  pub entered : (c : ℕ) (s : e.State) (k : e.Call) → Healthy e s → By (e.view s) (e.op k) c → Enters e c s k
  -- 01: "also where the call then answers a fault, as 17 at a throw, a close or a cleanup's start": 0, or 17 where a word is raised
  pub answered : (c : ℕ) (s : e.State) (k : e.Call) → Enters e c s k → (b : By (e.view s) (e.op k) c) → e.number s k ≡ entry_number (state_is (e.view s) seen_created c) b.sent
  -- a Resume, a host entry, or a turn of a loop that goes on, that is answered 0 has entered whom it names (a source that has returned only
  -- ends the loop: `turned` leaves it out)
  pub resumed : (s : e.State) (k : e.Call) (pc dst r src : ℕ) → e.op k ≡ some (Op.Resume pc dst r src) → e.number s k ≡ 0 → Enters e (register_word (e.view s) r) s k
  pub hosted : (c : ℕ) (s : e.State) (k : e.Call) (x : ℕ) → e.op k ≡ some (Op.HostEntry c x) → e.number s k ≡ 0 → Enters e c s k
  pub turned : (s : e.State) (k : e.Call) (pc has iter val src : ℕ) → e.op k ≡ some (Op.IterNext pc has iter val src) → e.number s k ≡ 0 → (e.view s).done (register_word (e.view s) iter) ≡ false
      → state_is (e.view s) seen_returned (register_word (e.view s) src) ≡ false → Enters e (register_word (e.view s) src) s k
  -- a throw into one that has begun, or a close, that is answered 17 has entered somebody: whom it names, or one that a cleanup is due to
  pub threw : (s : e.State) (k : e.Call) (pc dst r src : ℕ) → e.op k ≡ some (Op.ResumeThrow pc dst r src) → e.number s k ≡ 17 → state_is (e.view s) seen_created (register_word (e.view s) r) ≡ false → (c : ℕ) × Enters e c s k
  pub closed_in : (s : e.State) (k : e.Call) (pc dst r src : ℕ) → e.op k ≡ some (Op.CoroClose pc dst r src) → e.number s k ≡ 17 → (c : ℕ) × Enters e c s k
  -- 01: "A yield (YieldKv too) or await counts if `coro_suspend` accepts": who is suspended is the innermost, by one that answers 0, 2 or 6
  pub suspends : (c : ℕ) (s : e.State) (k : e.Call) → Suspends e c s k → who_suspends (e.view s) (announced_by (e.view s) (e.op k)) (e.number s k) ≡ some c
  -- and one that answers so has suspended the innermost
  pub suspended : (c : ℕ) (s : e.State) (k : e.Call) → who_suspends (e.view s) (announced_by (e.view s) (e.op k)) (e.number s k) ≡ some c → Suspends e c s k
  -- which of the three it answers: by the innermost's driver, and whether it awaits or was being closed
  pub heard : (c : ℕ) (s : e.State) (k : e.Call) → Suspends e c s k → e.number s k ≡ suspension_number_to (e.view s).chain (is_await (announced_by (e.view s) (e.op k))) (seen_in (λ x. x.closing) ((e.view s).coro c))
  -- 01: "a return if `finish` or `unwind` makes it Returned": who returns is the innermost, or one whose own signal leaves it
  pub returns : (c : ℕ) (s : e.State) (k : e.Call) → Returns e c s k → who_returns (e.view s) (announced_by (e.view s) (e.op k)) (e.number s k) ≡ some c
  -- and such a call that is answered 0 has it return, where the machine is not refused
  pub returned : (c : ℕ) (s : e.State) (k : e.Call) → Healthy e s → who_returns (e.view s) (announced_by (e.view s) (e.op k)) (e.number s k) ≡ some c → Returns e c s k
  -- 01: "any other escape makes it Failed": who fails is one that a raised word leaves so, or the run is stopped
  pub fails : (c : ℕ) (s : e.State) (k : e.Call) → Fails e c s k → Lost (e.view s) (e.number s k) c (e.op k)
  -- and of those that run, all whom the word leaves so, or a stop finds, fail, where the machine is not refused
  pub failed : (c : ℕ) (s : e.State) (k : e.Call) → Healthy e s → state_is (e.view s) seen_running c ≡ true → Lost (e.view s) (e.number s k) c (e.op k) → Fails e c s k
  -- the result of one that fails is the word that was raised; where the run is stopped, nil
  pub spoilt : (c : ℕ) (s : e.State) (k : e.Call) (f : Fault) (pc : RustOption ℕ) (x : ℕ) → Fails e c s k → e.op k ≡ some (Op.Unwind f pc) → raised (e.view s) f ≡ some x
      → (e.view (e.next s k)).coro c ≡ ended_as CoroState.Failed x
  pub stopped : (c : ℕ) (s : e.State) (k : e.Call) → Fails e c s k → e.op k ≡ some Op.StopRun → (e.view (e.next s k)).coro c ≡ ended_as CoroState.Failed 0
  -- of one that has not begun, where no cleanup comes first: a close that is answered 0 has it return nil, a throw that is answered 17
  -- has it fail of that word, and any other answer leaves it
  pub closes-created : (c : ℕ) (s : e.State) (k : e.Call) (pc dst r src : ℕ) → e.op k ≡ some (Op.CoroClose pc dst r src) → register_word (e.view s) r ≡ c → state_is (e.view s) seen_created c ≡ true → whom (e.view s) (e.op k) ≡ none
      → (e.view (e.next s k)).coro c ≡ pick (eqb (e.number s k) 0) (ended_as CoroState.Returned 0) ((e.view s).coro c)
  pub throws-created : (c : ℕ) (s : e.State) (k : e.Call) (pc dst r src : ℕ) → e.op k ≡ some (Op.ResumeThrow pc dst r src) → register_word (e.view s) r ≡ c → state_is (e.view s) seen_created c ≡ true → whom (e.view s) (e.op k) ≡ none
      → (e.view (e.next s k)).coro c ≡ pick (eqb (e.number s k) 17) (ended_as CoroState.Failed (register_word (e.view s) src)) ((e.view s).coro c)
  -- an integer that is returned is recorded as a word that stands for it
  pub integer : (c : ℕ) (s : e.State) (k : e.Call) (kind : ResultKind) (x : ℕ) → Returns e c s k → e.op k ≡ some (Op.Finish kind x) → is_integer kind ≡ true
      → let z = e.view (e.next s k) in z.integer (recorded (z.coro c)) ≡ Some x
  -- a word, or none, is recorded as it is returned
  pub word : (c : ℕ) (s : e.State) (k : e.Call) (kind : ResultKind) (x : ℕ) → Returns e c s k → e.op k ≡ some (Op.Finish kind x) → is_integer kind ≡ false
      → recorded ((e.view (e.next s k)).coro c) ≡ result_of kind x 0
  -- a close that its own signal ends is recorded as nil
  pub closed : (c : ℕ) (s : e.State) (k : e.Call) (f : Fault) (pc : RustOption ℕ) → Returns e c s k → e.op k ≡ some (Op.Unwind f pc) → recorded ((e.view (e.next s k)).coro c) ≡ 0
  -- a yield ends a closing; else it lasts as long as the coroutine lives (who is entered: `Entered.closing`)
  pub yielded : (c : ℕ) (s : e.State) (k : e.Call) → Suspends e c s k → let z = e.view (e.next s k) in closer (z.coro c) ≡ pick (state_is z seen_awaiting c) (closer ((e.view s).coro c)) none
  pub closing : (c : ℕ) (s : e.State) (k : e.Call) → (Restarts e s k → ⊥) → (Enters e c s k → ⊥) → (Suspends e c s k → ⊥)
      → let z = e.view (e.next s k) in state_is z lives c ≡ true → closer (z.coro c) ≡ closer ((e.view s).coro c)
  -- an Await leaves it Awaiting, a Yield or YieldKv Yielded
  pub awaited : (c : ℕ) (s : e.State) (k : e.Call) → Suspends e c s k → state_is (e.view (e.next s k)) seen_awaiting c ≡ is_await (announced_by (e.view s) (e.op k))
  -- who is suspended, has returned or has failed is seen as before until it is entered, or the machine is set up anew
  pub still : (c : ℕ) (s : e.State) (k : e.Call) → (Restarts e s k → ⊥) → (Enters e c s k → ⊥) → state_is (e.view s) rests c ≡ true → (e.view (e.next s k)).coro c ≡ (e.view s).coro c
  -- and so is one that has not begun, unless it is closed or a word is thrown into it, and no cleanup comes first
  pub unbegun : (c : ℕ) (s : e.State) (k : e.Call) → (Restarts e s k → ⊥) → (Enters e c s k → ⊥) → state_is (e.view s) seen_created c ≡ true
      → (ends_unbegun (announced_by (e.view s) (e.op k)) ≡ some c → whom (e.view s) (e.op k) ≡ none → ⊥) → (e.view (e.next s k)).coro c ≡ (e.view s).coro c
  -- who runs runs on, unless it is suspended, returns or fails; and who comes has not begun
  pub runs_on : (c : ℕ) (s : e.State) (k : e.Call) → (Restarts e s k → ⊥) → state_is (e.view s) seen_running c ≡ true → (Suspends e c s k → ⊥) → (Returns e c s k → ⊥) → (Fails e c s k → ⊥) → state_is (e.view (e.next s k)) seen_running c ≡ true
  pub comes : (c : ℕ) (s : e.State) (k : e.Call) → (e.view s).coro c ≡ none
      → let z = e.view (e.next s k) in (z.coro c ≡ none) ⊎ (state_is z seen_created c ≡ true)
  -- limits, functions and costs are the set-up's
  pub fixed : (s : e.State) (k : e.Call) → (Restarts e s k → ⊥) → (e.view (e.next s k)).rules ≡ (e.view s).rules
  -- one a call
  pub one-switch : (c u : ℕ) (s : e.State) (k : e.Call) → Enters e c s k → Suspends e u s k → ⊥
  pub no_return : (c u : ℕ) (s : e.State) (k : e.Call) → Enters e c s k → Returns e u s k → ⊥
  pub one-leaves : (c u : ℕ) (s : e.State) (k : e.Call) → Suspends e c s k → Returns e u s k → ⊥
